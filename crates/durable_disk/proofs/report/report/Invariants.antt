-- The core was told of the pieces before this one.
use Rattle.durable_disk.proofs.TellingSteps.{Telling}
use Rattle.durable_disk.proofs.report.report.Given as goal

abbrev pub invariant-loop-piece : goal.invariant-loop-piece
invariant-loop-piece g l =
    Telling l.is_stored l.pieces (g.C.StagedCore.calls_of l.fn.core) l.fn.completions (g.C.StagedCore.calls_of l.core) l.completions l.piece-index
