-- What was settled so far. Nobody said stop.
use Rattle.std.proofs.Common.{◌≡◌}
use Rattle.pool.proofs.Sums.{SoFar}
use Rattle.pool.proofs.settling.settle_all.Given as goal

abbrev pub invariant-loop : goal.invariant-loop
invariant-loop g l = (l.bench.stopped ≡ l.initial.bench.stopped) × SoFar l.initial.results l.initial.share l.sums l.results l.share l.counter
