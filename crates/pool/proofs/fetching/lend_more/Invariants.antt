-- What the core lent is noted, and put into the own deque.
use Rattle.pool.specs.Lending.{LendsNoted}
use Rattle.pool.proofs.Lends.{Kept}
use Rattle.pool.proofs.fetching.lend_more.Given as goal

abbrev pub invariant-loop : goal.invariant-loop
invariant-loop g l =
    LendsNoted l.initial.bench l.fn.quantum l.bench l.initial.share l.share × Kept l.fn.quantum l.initial.own l.own l.initial.share l.share l.counter
