use Rattle.std.proofs.Common.{rules}
use Rattle.simdisk.proofs.ranges.take_out.Goals as goal

-- Without answers these would be proved too; with them, an edit that breaks one is refused sooner.
pub returns-clause-found : goal.returns-clause-found
returns-clause-found c = search rules

pub returns-clause-rest : goal.returns-clause-rest
returns-clause-rest c = search rules
