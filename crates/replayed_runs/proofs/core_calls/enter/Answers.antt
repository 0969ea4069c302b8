-- An Enter that is accepted, or that the process cannot have.
use Rattle.std.proofs.Common.{◌∙◌, ap, sym}
use Rattle.kernel_model.specs.declared.event.Event.TheVariants.{Enter}
use Rattle.replayed_runs.specs.Replays.{seen_of, was_made}
use Rattle.replayed_runs.proofs.Replaying.{enter_gone, made_works, seen_more, still}
use Rattle.replayed_runs.proofs.core_calls.enter.Goals as goal

pub returns-in-Ok-clause-seen : goal.returns-in-Ok-clause-seen
returns-in-Ok-clause-seen c = ap seen_of c.in-Ok.ensures.applies.2 ∙ seen_more c.args.core.now (Enter c.args.pid)

pub returns-in-Ok-clause-works : goal.returns-in-Ok-clause-works
returns-in-Ok-clause-works c = c.is_made.ensures ∙ ap was_made c.in-Ok.ensures.applies.1 ∙ made_works c.args.core.now c.args.pid

pub returns-in-Err-clause-seen : goal.returns-in-Err-clause-seen
returns-in-Err-clause-seen c =
    let refused = c.in-Err.ensures.applies in
    ap seen_of refused.1 ∙ sym (still c.args.core.now (Enter c.args.pid) (enter_gone c.args.core.now c.args.pid c.in-Err.why refused.0 (sym c.if-is_gone.ensures)))

pub returns-in-Err-clause-works : goal.returns-in-Err-clause-works
returns-in-Err-clause-works c = sym (enter_gone c.args.core.now c.args.pid c.in-Err.why c.in-Err.ensures.applies.0 (sym c.if-is_gone.ensures))
