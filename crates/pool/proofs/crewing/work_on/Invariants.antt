-- It took so many turns, and went on after each.
use Rattle.pool.proofs.Works.{SoFar}
use Rattle.pool.proofs.crewing.work_on.Given as goal

abbrev pub invariant-loop : goal.invariant-loop
invariant-loop g l = SoFar g.G.Gate.holds l.fn.quantum (l.initial.seat, l.initial.gate) (l.seat, l.gate)
