-- The tasks before the index have moved on.
use Rattle.kernel_step.specs.Advanced.{IsMoved}
use Rattle.kernel_step.proofs.Moving.{Moved}
use Rattle.kernel_step.proofs.tasks.hand_all.Given as goal

abbrev pub invariant-loop-task : goal.invariant-loop-task
invariant-loop-task l = Moved (IsMoved l.committed) l.initial.tasks l.tasks l.task-index
