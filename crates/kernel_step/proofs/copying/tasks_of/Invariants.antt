-- The processes so far are copied.
use Rattle.std.proofs.Common.{◌≡◌, take, map}
use Rattle.kernel_step.specs.Copies.{parts_of}
use Rattle.kernel_step.proofs.copying.tasks_of.Given as goal

abbrev pub invariant-loop-task : goal.invariant-loop-task
invariant-loop-task l = map parts_of l.copies.items ≡ take l.task-index (map parts_of l.tasks)
