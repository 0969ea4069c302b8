use Rattle.std.proofs.Common.{rules}
use Rattle.kernel_step.proofs.storing.cut.Goals as goal

-- Without an answer this would be proved too; with one, an edit that breaks it is refused sooner.
pub returns-in-Err-clause-same : goal.returns-in-Err-clause-same
returns-in-Err-clause-same c = search rules
