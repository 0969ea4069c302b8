-- The pipes so far are copied.
use Rattle.std.proofs.Common.{◌≡◌, take}
use Rattle.pipes.proofs.table.PipeTable.try_clone.Given as goal

abbrev pub invariant-loop-pipe : goal.invariant-loop-pipe
invariant-loop-pipe l = l.copy ≡ take l.pipe-index l.self
