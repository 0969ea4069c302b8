-- The children that are kept are all but the one.
use Rattle.std.proofs.Common.{rules, ◌≡◌, ◌==◌, not, ℕ, ap, refl}
use Rattle.processes.proofs.Kept.{kept_by}
use Rattle.processes.specs.Parts.{without_child}
use Rattle.processes.specs.Entries.{Entry}
use Rattle.processes.proofs.entry.ProcEntry.collect.Goals as goal

pub returns : goal.returns
returns c =
    let kept = kept_by _ (λ (other : ℕ). not (other == c.args.child)) (λ p. p.0.now ≡ c.args.child)
    (λ p x b q i r. (search rules, search rules)) _ _ _ refl c.retain.ensures.filtered in
    rw kept (ap (λ (e : Entry). without_child c.args.child e.part) c.self.view_is)
