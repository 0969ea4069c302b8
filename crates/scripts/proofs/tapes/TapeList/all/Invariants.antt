-- A tape for each number so far.
use Rattle.std.proofs.Common.{◌≡◌, length}
use Rattle.scripts.proofs.tapes.TapeList.all.Given as goal

abbrev pub invariant-loop-number : goal.invariant-loop-number
invariant-loop-number l = length l.tapes.items ≡ l.number
