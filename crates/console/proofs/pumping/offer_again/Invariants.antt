-- So far each call was interrupted.
use Rattle.console.specs.Sinks.{Interrupts}
use Rattle.console.proofs.pumping.offer_again.Given as goal

abbrev pub invariant-loop : goal.invariant-loop
invariant-loop g l = Interrupts g.S.Sink.answers l.bytes l.fn.sink l.sink
