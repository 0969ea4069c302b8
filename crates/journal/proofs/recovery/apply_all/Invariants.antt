use Rattle.std.proofs.Common.{◌≡◌, drop}
use Rattle.journal.specs.Reading.{all_changed}
use Rattle.journal.proofs.recovery.apply_all.Given as goal

abbrev pub invariant-loop-change : goal.invariant-loop-change
invariant-loop-change l = all_changed l.files (drop l.change-index l.changes) ≡ all_changed l.fn.files l.changes
