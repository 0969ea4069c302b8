use Rattle.std.proofs.Common.{rules}
use Rattle.simdisk.proofs.disk.SimDisk.open.Goals as goal

-- Without answers these would be proved too; with them, an edit that breaks one is refused sooner.
pub returns-in_err-bytes-clause-length : goal.returns-in_err-bytes-clause-length
returns-in_err-bytes-clause-length c = search rules

pub invariant_of-result : goal.invariant_of-result
invariant_of-result c = search rules

pub returns-clause-length : goal.returns-clause-length
returns-clause-length c = search rules

pub returns-clause-ok : goal.returns-clause-ok
returns-clause-ok c = search rules
