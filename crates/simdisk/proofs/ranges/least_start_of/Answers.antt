use Rattle.std.proofs.Common.{arith}
use Rattle.std.proofs.lemmas.Grind.{common_steps}
use Rattle.simdisk.proofs.ranges.least_start_of.Goals as goal

-- Without an answer this would be proved too; with one, an edit that breaks it is refused sooner.
pub loop-piece-preserved : goal.loop-piece-preserved
loop-piece-preserved c = grind (arith, common_steps)
