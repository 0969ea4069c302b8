-- The record so far, and the pieces from this one on, make the whole one.
use Rattle.durable_disk.proofs.RecordSteps.{SoFar}
use Rattle.durable_disk.proofs.storing.store.Given as goal

abbrev pub invariant-loop-piece : goal.invariant-loop-piece
invariant-loop-piece g l = SoFar (g.F.DiskFile.record_of l.fn.file) l.pieces (g.F.DiskFile.record_of l.file) l.piece-index
