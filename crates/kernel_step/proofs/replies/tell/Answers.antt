-- The reply is appended, whatever was told before.
use Rattle.std.proofs.Common.{subst, sym}
use Rattle.kernel_model.specs.declared.request.Verdict.{Verdict}
use Rattle.kernel_step.specs.Entering.{IsTold}
use Rattle.kernel_step.proofs.replies.tell.Goals as goal

pub returns-in-Replies-clause-task : goal.returns-in-Replies-clause-task
returns-in-Replies-clause-task c =
    subst (λ (v : Verdict). IsTold v c.args.mark c.args.served c.args.task.now c.take_reply.new.task) (sym c.in-Replies.is)
    (c.take_reply.ensures c.args.served)
