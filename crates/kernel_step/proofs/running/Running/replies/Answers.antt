-- All replies of a trace are those of the run.
use Rattle.std.proofs.Common.{ap, ◌∙◌}
use Rattle.kernel_model.specs.Shown.{replies_in}
use Rattle.kernel_step.proofs.Releasing.{told-is}
use Rattle.kernel_step.proofs.running.Running.replies.Goals as goal

pub returns-clause-replies : goal.returns-clause-replies
returns-clause-replies c = λ b h.
    c.all_replies.ensures
    ∙ ap (λ is. replies_in is)
    (told-is b c.args.self.now c.deref.result.now c.args.pid c.in_ok-task.task.now h c.deref.ensures.value c.in_ok-task.ensures.task)
