-- The states before this one were asked.
use Rattle.std.proofs.Common.{take}
use Rattle.explored_runs.specs.Answering.{AreAfter}
use Rattle.explored_runs.specs.Checkpoints.{AreCheckpoints}
use Rattle.explored_runs.proofs.crew.share_of.Given as goal

abbrev pub invariant-loop-found : goal.invariant-loop-found
invariant-loop-found l = record {
  answered : AreAfter l.runs (take l.found-index l.share) l.afters.items;
  kept : AreCheckpoints l.runs l.checkpoints.kept.items;
}
