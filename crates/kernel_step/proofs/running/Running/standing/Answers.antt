-- A process stands as its task does.
use Rattle.std.proofs.Common.{◌∙◌}
use Rattle.kernel_step.proofs.Releasing.{there-is}
use Rattle.kernel_step.proofs.Standings.{standing-is}
use Rattle.kernel_step.proofs.running.Running.standing.Goals as goal

pub returns-clause-standing : goal.returns-clause-standing
returns-clause-standing c = λ b h.
    c.standing.ensures
    ∙ standing-is b c.args.self.now c.deref.result.now c.args.pid c.in_ok-task.task.now h c.deref.ensures.value c.in_ok-task.ensures.task

pub returns-clause-there : goal.returns-clause-there
returns-clause-there c = λ b h. there-is b c.args.self.now c.deref.result.now c.args.pid c.in_ok-task.task.now h c.deref.ensures.value c.in_ok-task.ensures.task
