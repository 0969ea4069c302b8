-- The changes so far are copied.
use Rattle.std.proofs.Common.{◌≡◌, take}
use Rattle.kernel_step.proofs.copying.changes_of.Given as goal

abbrev pub invariant-loop-change : goal.invariant-loop-change
invariant-loop-change l = l.copies.items ≡ take l.change-index l.changes
