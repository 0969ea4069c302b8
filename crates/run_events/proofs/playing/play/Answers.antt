-- One event more is told, or the first is refused.
use Rattle.std.proofs.Common.{◌≡◌, ◌∙◌, refl, sym, slice_get, get_or, Some}
use Rattle.std.proofs.lemmas.Option.{slice_get-get_or}
use Rattle.kernel_model.specs.declared.event.Event.{Event}
use Rattle.kernel_model.specs.declared.event.Event.TheVariants.{Turn}
use Rattle.run_events.proofs.Hearing.{played-more}
use Rattle.run_events.proofs.playing.play.Goals as goal

pub loop-count-init : goal.loop-count-init
loop-count-init g c = record { grown = refl; heard = refl }

pub loop-count-preserved : goal.loop-count-preserved
loop-count-preserved g c =
    let e : Event = get_or c.args.events.now c.loop-count.count (Turn 0 0) in
    let there : slice_get c.args.events.now c.loop-count.count ≡ Some e = slice_get-get_or c.args.events.now c.loop-count.count (Turn 0 0) c.loop-count-test.true in
    played-more g.O.Observer.hears c.args.core.now c.loop-count.core c.step.new.core c.args.events.now c.loop-count.count e c.args.observer.now c.loop-count.observer c.step.new.observer
    c.in_ok-went.went there c.loop-count.invariant c.in_ok-went.ensures (sym c.is_err.ensures.value ∙ c.if-is_err.false)
