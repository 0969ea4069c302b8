use Rattle.std.proofs.Common.{arith}
use Rattle.std.proofs.lemmas.Grind.{common_steps}
use Rattle.simdisk.proofs.ranges.is_in_either.Goals as goal

-- Without an answer this would be proved too; with one, an edit that breaks it is refused sooner.
pub returns-else-is_in_range : goal.returns-else-is_in_range
returns-else-is_in_range c = grind (arith, common_steps)
