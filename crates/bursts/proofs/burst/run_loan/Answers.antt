use Rattle.std.proofs.Common.{rules}
use Rattle.bursts.proofs.burst.run_loan.Goals as goal

-- Without an answer this would be proved too; with one, an edit that breaks it is refused sooner.
pub invariant_of-result : goal.invariant_of-result
invariant_of-result c = search rules
