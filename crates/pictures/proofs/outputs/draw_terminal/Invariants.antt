-- There is such a lane.
use Rattle.std.proofs.Common.{◌<◌}
use Rattle.pictures.proofs.outputs.draw_terminal.Given as goal

abbrev pub invariant-loop-output : goal.invariant-loop-output
invariant-loop-output g l = l.lane < 5
