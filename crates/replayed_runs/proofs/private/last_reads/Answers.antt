-- The last footprint that is kept is that of the last Enter.
use Rattle.std.proofs.Common.{rules, ◌≡◌, ◌∙◌, ◌∷◌, ◌-◌, ℕ, List, length, get_or, sym, ap}
use Rattle.kernel_model.specs.declared.carrier.Carrier.{Carrier}
use Rattle.kernel_model.specs.declared.carrier.Carrier.TheVariants.{Proc}
use Rattle.footprints.specs.Kept.{no_footprint}
use Rattle.replayed_runs.proofs.Footprints.{last_read}
use Rattle.replayed_runs.proofs.private.last_reads.Goals as goal

pub returns-in-Some : goal.returns-in-Some
returns-in-Some c = λ es p log e long are.
    let kept = c.args.footprints.now.footprints in
    let last : c.in-Some.last ≡ length kept - 1 = search rules in
    last_read es p log e kept long are
    ∙ ap (λ (k : ℕ). Proc p ∷ (get_or kept k no_footprint).reads) (sym last)
    ∙ ap (λ (cs : List Carrier). Proc p ∷ cs) (sym c.reads.ensures)
