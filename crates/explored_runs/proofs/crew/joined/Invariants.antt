-- The shares so far are put together.
use Rattle.explored_runs.specs.Answering.{AreJoined}
use Rattle.explored_runs.proofs.crew.joined.Given as goal

abbrev pub invariant-loop-share : goal.invariant-loop-share
invariant-loop-share l = AreJoined l.yielded l.all.items
