-- The first place, which is kept.
use Rattle.std.proofs.Common.{refl}
use Rattle.debugger.proofs.Holding.{keeps-first}
use Rattle.debugger.proofs.debugger.Debugger.new.Goals as goal

pub invariant_of-result : goal.invariant_of-result
invariant_of-result c =
    keeps-first c.args.image c.args.replies.items (record { machine = c.in_ok-load.field-0; taken = 0 }) c.in_ok-first.first c.in_ok-kept.kept.items c.in_ok-breaks.breaks
    c.in_ok-load.ensures.first refl c.in_ok-first.ensures c.in_ok-kept.ensures.items c.in_ok-breaks.ensures.empty c.in_ok-breaks.ensures.capacity
