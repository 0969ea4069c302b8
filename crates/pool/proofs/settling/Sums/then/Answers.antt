use Rattle.std.proofs.Common.{rules}
use Rattle.pool.proofs.settling.Sums.then.Goals as goal

-- Without an answer this would be proved too; with one, an edit that breaks it is refused sooner.
pub returns : goal.returns
returns c = search rules
