-- The Turns of a call.
use Rattle.std.proofs.Common.{◌∙◌, ap}
use Rattle.kernel_model.specs.declared.event.Event.TheVariants.{Turn}
use Rattle.order_laws.specs.Moves.{Seen, seen_after}
use Rattle.replayed_runs.specs.Replays.{seen_of}
use Rattle.replayed_runs.proofs.Replaying.{goes_alone, goes_both}
use Rattle.replayed_runs.proofs.core_calls.run_on_after.Goals as goal

pub returns-then-child-last-clause-called : goal.returns-then-child-last-clause-called
returns-then-child-last-clause-called c = λ s by are works before.
    goes_alone c.args.n c.args.core.now s c.args.pid c.args.last c.last_process-child.result by are works before c.last_process-child.ensures c.if-child-last.true
    (seen_of c.run_on.new.core) c.in_ok-run_on.ensures.seen

pub returns-clause-called : goal.returns-clause-called
returns-clause-called c = λ s by are works before.
    goes_both c.args.n c.args.core.now s c.args.pid c.args.last c.last_process-child.result by are works before c.last_process-child.ensures c.if-child-last.false
    (seen_of c.run_on-2.new.core)
    (c.in_ok-run_on-2.ensures.seen ∙ ap (λ (u : Seen). seen_after u (Turn c.last_process-child.result c.args.n)) c.in_ok-run_on.ensures.seen)
