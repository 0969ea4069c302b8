-- The least start of the pieces before this one.
use Rattle.std.proofs.Common.{◌≡◌, drop}
use Rattle.disk_model.specs.Storage.{lesser, least_start}
use Rattle.simdisk.proofs.ranges.least_start_of.Given as goal

abbrev pub invariant-loop-piece : goal.invariant-loop-piece
invariant-loop-piece l = lesser l.least (least_start (drop l.piece-index l.pieces)) ≡ least_start l.pieces
