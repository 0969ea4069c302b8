-- A call that does not write to terminal 0 prints nothing there.
use Rattle.std.proofs.Common.{◌≡◌, ◌∙◌, ℕ, true, false, Option, Some, None, IfSome, sym, ap}
use Rattle.std.proofs.lemmas.Bool.{false≢true}
use Rattle.kernel_model.specs.declared.effect.Output.{Output}
use Rattle.replayed_runs.specs.Owning.{GoesTo, is_terminal}

pub prints_nothing : (terminal : Option ℕ) (output : Option Output) → is_terminal terminal 0 ≡ false → GoesTo terminal output
    → IfSome output (λ (o : Output). o.terminal ≡ 0 → ⊥)
prints_nothing terminal None other goes = tt
prints_nothing terminal (Some o) other goes = λ zero. false≢true (sym other ∙ sym (ap (λ (t : ℕ). is_terminal terminal t) zero) ∙ goes)
