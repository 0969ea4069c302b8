-- Before the start no piece so far has a range.
use Rattle.std.proofs.Common.{◌≡◌, ℕ, ◌<◌, drop}
use Rattle.simdisk.specs.Room.{in_range}
use Rattle.simdisk.proofs.ranges.range_start.Given as goal

abbrev pub invariant-loop-piece : goal.invariant-loop-piece
invariant-loop-piece l = (i : ℕ) → i < l.start → in_range (drop l.piece-index l.pieces) i ≡ in_range l.pieces i
