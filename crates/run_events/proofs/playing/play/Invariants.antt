-- The events so far were accepted, and told.
use Rattle.std.proofs.Common.{take}
use Rattle.run_events.specs.Observing.{Played}
use Rattle.run_events.proofs.playing.play.Given as goal

abbrev pub invariant-loop-count : goal.invariant-loop-count
invariant-loop-count g l = Played g.O.Observer.hears l.fn.core l.core (take l.count l.events) l.fn.observer l.observer
