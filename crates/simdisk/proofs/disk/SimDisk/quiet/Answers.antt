use Rattle.std.proofs.Common.{rules}
use Rattle.simdisk.proofs.disk.SimDisk.quiet.Goals as goal

-- Without answers these would be proved too; with them, an edit that breaks one is refused sooner.
pub returns-then-is_empty : goal.returns-then-is_empty
returns-then-is_empty c = search rules

pub returns-else-is_empty : goal.returns-else-is_empty
returns-else-is_empty c = search rules
