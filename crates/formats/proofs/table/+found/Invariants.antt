use Rattle.std.proofs.Common.{length}
use Rattle.formats.proofs.table.+found.Given as goal

abbrev pub decreases-found : goal.decreases-found
decreases-found g l = length l.rows.now
