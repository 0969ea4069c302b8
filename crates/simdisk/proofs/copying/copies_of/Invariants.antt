-- The pieces so far are copied.
use Rattle.std.proofs.Common.{◌≡◌, take}
use Rattle.simdisk.proofs.copying.copies_of.Given as goal

abbrev pub invariant-loop-piece : goal.invariant-loop-piece
invariant-loop-piece l = l.copies.items ≡ take l.piece-index l.pieces
