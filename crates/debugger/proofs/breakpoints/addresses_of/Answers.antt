-- At first all are left.
use Rattle.std.proofs.Common.{ap, ◌∙◌}
use Rattle.debugger.proofs.Least.{first_at, least-first}
use Rattle.debugger.proofs.breakpoints.addresses_of.Goals as goal

pub loop-at-init : goal.loop-at-init
loop-at-init c =
    let left = c.into_iter-at-iterator.ensures.into_iter_gives ∙ c.iter-at-items.ensures.rest in
    (tt, tt, λ a off. ap (first_at a) left ∙ least-first a 0 c.args.breaks.now.slots)
