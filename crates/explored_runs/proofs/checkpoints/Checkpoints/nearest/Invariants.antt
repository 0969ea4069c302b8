-- Those that are left are checkpoints.
use Rattle.std.proofs.Common.{vec_len}
use Rattle.explored_runs.specs.Checkpoints.{AreCheckpoints}
use Rattle.explored_runs.proofs.checkpoints.Checkpoints.nearest.Given as goal

abbrev pub invariant-loop-last : goal.invariant-loop-last
invariant-loop-last l = AreCheckpoints l.runs l.self.kept.items

abbrev pub decreases-loop-last : goal.decreases-loop-last
decreases-loop-last l = vec_len l.self.kept
