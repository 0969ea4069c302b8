-- One event more is told, or the run is over.
use Rattle.std.proofs.Common.{◌≤◌, ◌^◌, subst, arith, Option, Result}
use Rattle.kernel_model.specs.declared.answer.Answer.{Answer}
use Rattle.kernel_model.specs.declared.answer.Refused.{Refused}
use Rattle.kernel_model.specs.declared.event.Event.{Event}
use Rattle.run_events.specs.Observing.{WentOn}
use Rattle.run_events.proofs.Hearing.{none-so-far, one-more, ran-never}
use Rattle.run_events.proofs.playing.run.Goals as goal

pub loop-count-init : goal.loop-count-init
loop-count-init g c = none-so-far g.O.Observer.hears g.S.EventSource.gives c.args.core.now c.args.observer.now c.args.source.now

pub loop-count-preserved : goal.loop-count-preserved
loop-count-preserved g c =
    one-more g.O.Observer.hears g.S.EventSource.gives c.args.core.now c.loop-count.core c.step.new.core c.in-Some.event c.in-Ok.field-0
    c.args.observer.now c.loop-count.observer c.step.new.observer c.args.source.now c.loop-count.source c.next.new.self c.loop-count.count c.loop-count.invariant
    (subst (λ (o : Option Event). g.S.EventSource.gives c.loop-count.source c.loop-count.core o c.next.new.self) c.in-Some.is c.next.ensures)
    (subst (λ (r : Result Answer Refused). WentOn g.O.Observer.hears c.in-Some.event c.loop-count.core c.step.new.core c.loop-count.observer c.step.new.observer r)
    c.in-Ok.is c.in_ok-step.ensures)

pub returns : goal.returns
returns g c =
    let many : 2 ^ 41 ≤ c.loop-count.count = omega (arith, c.loop-count-test.false) in
    ran-never g.O.Observer.hears g.S.EventSource.gives c.args.core.now c.loop-count.core c.args.observer.now c.loop-count.observer c.args.source.now c.loop-count.source
    c.loop-count.count _ c.loop-count.invariant many c.keeps_limits.ensures
