-- The observer was told all so far.
use Rattle.run_events.proofs.Hearing.{SoFar}
use Rattle.run_events.proofs.playing.run.Given as goal

abbrev pub invariant-loop-count : goal.invariant-loop-count
invariant-loop-count g l = SoFar g.O.Observer.hears g.S.EventSource.gives l.fn.core l.core l.fn.observer l.observer l.fn.source l.source l.count
