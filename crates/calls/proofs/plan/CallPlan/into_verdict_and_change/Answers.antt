use Rattle.std.proofs.Common.{rules}
use Rattle.calls.proofs.plan.CallPlan.into_verdict_and_change.Goals as goal

-- Without an answer this would be proved too; with one, an edit that breaks it is refused sooner.
pub returns-clause-change : goal.returns-clause-change
returns-clause-change c = search rules
