use Rattle.std.proofs.Common.{rules}
use Rattle.kernel.proofs.sums.Sums.add_loan.Goals as goal

-- Without an answer this would be proved too; with one, an edit that breaks it is refused sooner.
pub returns-in-Settled-default-default-Some-clause-enters : goal.returns-in-Settled-default-default-Some-clause-enters
returns-in-Settled-default-default-Some-clause-enters c = search rules
