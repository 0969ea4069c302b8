use Rattle.std.proofs.Common.{rules}
use Rattle.bursts.proofs.share.Books.grow.Goals as goal

-- Without answers these would be proved too; with them, an edit that breaks one is refused sooner.
pub invariant_of-share : goal.invariant_of-share
invariant_of-share g c = search rules

pub returns-clause-share : goal.returns-clause-share
returns-clause-share g c = search rules
