-- Those looked at had nothing, and the others are as they were.
use Rattle.pool.proofs.Looks.{SoFar}
use Rattle.pool.proofs.fetching.steal_round.Given as goal

abbrev pub invariant-loop-place : goal.invariant-loop-place
invariant-loop-place g l = SoFar l.initial.others.items l.others.items l.place
