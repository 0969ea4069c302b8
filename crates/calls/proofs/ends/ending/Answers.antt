use Rattle.std.proofs.Common.{rules}
use Rattle.calls.proofs.ends.ending.Goals as goal

-- Without an answer this would be proved too; with one, an edit that breaks it is refused sooner.
pub returns-clause-row : goal.returns-clause-row
returns-clause-row c = search rules
