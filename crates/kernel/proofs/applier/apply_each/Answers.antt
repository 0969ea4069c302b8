-- One event more is accepted, or the first is refused.
use Rattle.std.proofs.Common.{◌≡◌, ◌∙◌, sym, subst, length, slice_get, get_or, Some, arith}
use Rattle.std.proofs.lemmas.Option.{slice_get-get_or}
use Rattle.kernel_model.specs.declared.event.Event.{Event}
use Rattle.kernel_model.specs.declared.event.Event.TheVariants.{Turn}
use Rattle.kernel.specs.Applying.{AppliedUpTo}
use Rattle.kernel.specs.Applying.Accepts.{none}
use Rattle.kernel.proofs.Applying.{accepts-more, stops-early, stops-late}
use Rattle.kernel.proofs.applier.apply_each.Goals as goal

pub loop-count-init : goal.loop-count-init
loop-count-init g c = none

pub loop-count-preserved : goal.loop-count-preserved
loop-count-preserved g c =
    let e : Event = get_or c.args.events.now c.loop-count.count (Turn 0 0) in
    let there : slice_get c.args.events.now c.loop-count.count ≡ Some e = slice_get-get_or c.args.events.now c.loop-count.count (Turn 0 0) c.loop-count-test.true in
    accepts-more g.A.Applier.responds c.args.to.now c.loop-count.to c.apply.new.self c.args.events.now c.loop-count.count e c.apply.result there
    c.loop-count.invariant c.apply.ensures (sym c.is_err.ensures.value ∙ c.if-is_err.false)

pub returns-then-is_err-clause-stops : goal.returns-then-is_err-clause-stops
returns-then-is_err-clause-stops g c =
    let e : Event = get_or c.args.events.now c.loop-count.count (Turn 0 0) in
    let there : slice_get c.args.events.now c.loop-count.count ≡ Some e = slice_get-get_or c.args.events.now c.loop-count.count (Turn 0 0) c.loop-count-test.true in
    stops-early g.A.Applier.responds c.args.to.now c.loop-count.to c.apply.new.self c.args.events.now c.loop-count.count e c.apply.result there
    c.loop-count.invariant c.apply.ensures (sym c.is_err.ensures.value ∙ c.if-is_err.true)

pub returns-clause-stops : goal.returns-clause-stops
returns-clause-stops g c =
    let end : c.loop-count.count ≡ length c.args.events.now = omega arith in
    subst (λ i. AppliedUpTo g.A.Applier.responds c.args.to.now c.args.events.now i c.loop-count.to) end
    (stops-late g.A.Applier.responds c.args.to.now c.loop-count.to c.args.events.now c.loop-count.count (omega arith) c.loop-count.invariant)
