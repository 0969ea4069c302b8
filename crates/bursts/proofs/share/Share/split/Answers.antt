use Rattle.std.proofs.Common.{rules}
use Rattle.bursts.proofs.share.Share.split.Goals as goal

-- Without answers these would be proved too; with them, an edit that breaks one is refused sooner.
pub invariant_of-self : goal.invariant_of-self
invariant_of-self g c = search rules

pub returns-clause-left : goal.returns-clause-left
returns-clause-left g c = search rules
