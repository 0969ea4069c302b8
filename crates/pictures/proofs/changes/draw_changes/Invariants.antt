-- There is such a lane.
use Rattle.std.proofs.Common.{◌<◌}
use Rattle.pictures.proofs.changes.draw_changes.Given as goal

abbrev pub invariant-loop-change : goal.invariant-loop-change
invariant-loop-change g l = l.lane < 6
