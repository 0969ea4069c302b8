use Rattle.std.proofs.Common.{rules}
use Rattle.kernel_step.proofs.task.Task.standing.Goals as goal

-- Without an answer this would be proved too; with one, an edit that breaks it is refused sooner.
pub returns-then-is_asleep : goal.returns-then-is_asleep
returns-then-is_asleep c = search rules
