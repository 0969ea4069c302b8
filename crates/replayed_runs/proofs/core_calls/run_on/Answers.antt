-- A Turn that is accepted, or that the process cannot have.
use Rattle.std.proofs.Common.{◌∙◌, ap, sym}
use Rattle.kernel_model.specs.declared.event.Event.TheVariants.{Turn}
use Rattle.replayed_runs.specs.Replays.{seen_of}
use Rattle.replayed_runs.proofs.Replaying.{seen_more, turn_gone}
use Rattle.replayed_runs.proofs.core_calls.run_on.Goals as goal

pub returns-in-Ok-clause-seen : goal.returns-in-Ok-clause-seen
returns-in-Ok-clause-seen c = ap seen_of c.in-Ok.ensures.applies.2 ∙ seen_more c.args.core.now (Turn c.args.pid c.args.n)

pub returns-in-Err-clause-seen : goal.returns-in-Err-clause-seen
returns-in-Err-clause-seen c =
    let refused = c.in-Err.ensures.applies in
    ap seen_of refused.1 ∙ sym (turn_gone c.args.core.now c.args.pid c.args.n c.in-Err.why refused.0 (sym c.if-is_gone.ensures))
