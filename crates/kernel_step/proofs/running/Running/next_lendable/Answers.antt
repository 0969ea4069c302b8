-- Without an answer this would be proved too; with one, an edit that breaks it is refused sooner.
use Rattle.std.proofs.Common.{◌∙◌, List, ap}
use Rattle.kernel_step.specs.Lending.{next_fit}
use Rattle.kernel_step.specs.declared.task.Task.{Task}
use Rattle.kernel_step.proofs.running.Running.next_lendable.Goals as goal

pub returns : goal.returns
returns c =
    c.next_lendable.ensures
    ∙ ap (λ (ts : List Task). next_fit c.args.quantum c.args.self.now.system.served c.args.self.now.last_lent ts) c.deref.ensures.value
