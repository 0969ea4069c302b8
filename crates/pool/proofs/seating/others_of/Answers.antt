-- Those before the place, and then those after it.
use Rattle.std.proofs.Common.{List, [], sym, subst, arith}
use Rattle.pool.specs.Deques.{AtDeque}
use Rattle.pool.proofs.Fresh.{Down, down_from, down_more, down_both}
use Rattle.pool.proofs.seating.others_of.Goals as goal

pub loop-step-init : goal.loop-step-init
loop-step-init g c = subst (λ (os : List AtDeque). Down c.args.deques.now c.args.place 0 [] os) (sym c.new-others.ensures.items) (down_from c.args.deques.now [] c.args.place (let within = c.requires in omega (arith, within)))

pub loop-step-preserved : goal.loop-step-preserved
loop-step-preserved g c =
    let below = c.loop-step-test.true in
    down_more c.args.deques.now [] c.loop-step.others.items c.push.new.self.items c.args.place c.loop-step.step _ c.index-deques-place.result c.in_ok-other.field-0 c.loop-step.invariant c.index-deques-place.is c.in_ok-other.ensures c.in_ok-push.ensures.items below (omega (arith, below))

pub loop-step-2-preserved : goal.loop-step-2-preserved
loop-step-2-preserved g c =
    let below = c.loop-step-2-test.true in
    let within = c.requires in (
      c.loop-step-2.invariant.0,
      c.loop-step-2.invariant.1,
      down_more c.args.deques.now c.loop-step-2.invariant.0 c.loop-step-2.others.items c.push-in-loop-step-2.new.self.items _ c.loop-step-2.step _ c.index-deques-deques.result c.in_ok-other-2.field-0 c.loop-step-2.invariant.2 c.index-deques-deques.is c.in_ok-other-2.ensures c.in_ok-push-2.ensures.items (omega (arith, below, within)) (omega (arith, below, within)),
    )

pub returns : goal.returns
returns g c =
    let above = c.loop-step-2-test.false in
    let up = c.loop-step-2.auto.step-end in
    let within = c.requires in
    down_both c.args.deques.now c.loop-step-2.invariant.0 c.loop-step-2.others.items c.args.place c.loop-step-2.step within (omega (arith, above, up, within)) c.loop-step-2.invariant.1 c.loop-step-2.invariant.2
