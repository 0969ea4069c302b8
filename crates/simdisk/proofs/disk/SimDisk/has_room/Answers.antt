use Rattle.std.proofs.Common.{rules}
use Rattle.simdisk.proofs.disk.SimDisk.has_room.Goals as goal

-- Without answers these would be proved too; with them, an edit that breaks one is refused sooner.
pub returns-then-are_apart : goal.returns-then-are_apart
returns-then-are_apart c = search rules

pub returns-else-are_apart : goal.returns-else-are_apart
returns-else-are_apart c = search rules
