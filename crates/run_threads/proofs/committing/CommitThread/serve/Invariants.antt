-- The stages so far.
use Rattle.run_threads.specs.Committing.{DoesStages}
use Rattle.run_threads.proofs.committing.CommitThread.serve.Given as goal

abbrev pub invariant-loop : goal.invariant-loop
invariant-loop g l = DoesStages l.initial.self l.self
