use Rattle.std.proofs.Common.{rules}
use Rattle.pool.proofs.results.empty_queue.Goals as goal

-- Without an answer this would be proved too; with one, an edit that breaks it is refused sooner.
pub returns : goal.returns
returns g c = search rules
