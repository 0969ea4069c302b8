-- The calls before this place were made.
use Rattle.std.proofs.Common.{take}
use Rattle.explored_runs.specs.Answering.{IsRunOf}
use Rattle.explored_runs.specs.Checkpoints.{AreCheckpoints}
use Rattle.explored_runs.proofs.checkpoints.Checkpoints.replay.Given as goal

abbrev pub invariant-loop-place : goal.invariant-loop-place
invariant-loop-place l = record {
  run : IsRunOf l.runs (take l.place l.calls) l.replay;
  kept : AreCheckpoints l.runs l.self.kept.items;
}
