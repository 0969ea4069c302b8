-- The replies of a trace that are handed out are those of the run.
use Rattle.std.proofs.Common.{ap, ◌∙◌}
use Rattle.kernel_model.specs.Shown.{replies_in}
use Rattle.kernel_step.proofs.Releasing.{handed-is, there-is}
use Rattle.kernel_step.proofs.running.Running.trace.Goals as goal

pub returns-clause-replies : goal.returns-clause-replies
returns-clause-replies c = λ b h.
    c.replies.ensures
    ∙ ap (λ is. replies_in is)
    (handed-is b c.args.self.now c.deref.result.now c.args.pid c.in_ok-task.task.now h c.deref.ensures.value c.in_ok-task.ensures.task)

pub returns-clause-there : goal.returns-clause-there
returns-clause-there c = λ b h. there-is b c.args.self.now c.deref.result.now c.args.pid c.in_ok-task.task.now h c.deref.ensures.value c.in_ok-task.ensures.task
