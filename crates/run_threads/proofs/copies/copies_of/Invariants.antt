-- The copies of the pieces before this one.
use Rattle.std.proofs.Common.{◌≡◌, take}
use Rattle.run_threads.proofs.copies.copies_of.Given as goal

abbrev pub invariant-loop-piece : goal.invariant-loop-piece
invariant-loop-piece l = l.copies.items ≡ take l.piece-index l.pieces
