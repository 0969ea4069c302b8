-- One entry more is passed by, or found.
use Rattle.std.proofs.Common.{ap, ◌∙◌}
use Rattle.debugger.proofs.Least.{first_at, least-first, first-skip, first-found}
use Rattle.debugger.proofs.breakpoints.least_at.Goals as goal

pub loop-number-init : goal.loop-number-init
loop-number-init c =
    let left = c.into_iter-number-iterator.ensures.into_iter_gives ∙ c.iter-number-items.ensures.rest in
    (tt, tt, ap (first_at c.args.address) left ∙ least-first c.args.address 0 c.args.breaks.now.slots)

pub loop-number-preserved : goal.loop-number-preserved
loop-number-preserved c = (tt, tt, first-skip _ _ _ _ _ c.in-Some.ensures.steps c.if-at-address.false c.loop-number.invariant.2)

pub returns-then-at-address : goal.returns-then-at-address
returns-then-at-address c = first-found _ _ _ _ _ c.in-Some.ensures.steps c.if-at-address.true c.loop-number.invariant.2
