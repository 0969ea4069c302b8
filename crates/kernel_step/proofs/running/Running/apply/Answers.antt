use Rattle.std.proofs.Common.{rules}
use Rattle.kernel_step.proofs.running.Running.apply.Goals as goal

-- Without an answer this would be proved too; with one, an edit that breaks it is refused sooner.
pub returns-in-Fail : goal.returns-in-Fail
returns-in-Fail c = search rules
