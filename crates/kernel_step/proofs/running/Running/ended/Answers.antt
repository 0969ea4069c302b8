-- The end of a trace that is handed out is that of the run.
use Rattle.std.proofs.Common.{ap, ◌∙◌}
use Rattle.kernel_model.specs.Shown.{end_in}
use Rattle.kernel_step.proofs.Releasing.{handed-is, there-is}
use Rattle.kernel_step.proofs.running.Running.ended.Goals as goal

pub returns-clause-status : goal.returns-clause-status
returns-clause-status c = λ b h.
    c.ended.ensures
    ∙ ap (λ is. end_in is)
    (handed-is b c.args.self.now c.deref.result.now c.args.pid c.in_ok-task.task.now h c.deref.ensures.value c.in_ok-task.ensures.task)

pub returns-clause-there : goal.returns-clause-there
returns-clause-there c = λ b h. there-is b c.args.self.now c.deref.result.now c.args.pid c.in_ok-task.task.now h c.deref.ensures.value c.in_ok-task.ensures.task
