-- A task's machine is in the state of its process.
use Rattle.std.proofs.Common.{◌≡◌, sym, subst}
use Rattle.std.specs.Prelude.{IsSomeAnd}
use Rattle.kernel_model.specs.Answers.{process_of}
use Rattle.kernel_model.specs.State.{Process}
use Rattle.machine_model.specs.States.{State}
use Rattle.kernel_step.specs.Represents.{kernel_in}
use Rattle.kernel_step.proofs.Releasing.{machine-is}
use Rattle.kernel_step.proofs.running.Running.machine.Goals as goal

pub returns-clause-machine : goal.returns-clause-machine
returns-clause-machine c = λ b h.
    subst (λ (s : State). IsSomeAnd (process_of (kernel_in b c.args.self.now) c.args.pid) (λ (p : Process). s ≡ p.state)) (sym c.machine.ensures)
    (machine-is b c.args.self.now c.deref.result.now c.args.pid c.in_ok-task.task.now h c.deref.ensures.value c.in_ok-task.ensures.task)
