use Rattle.std.proofs.Common.{arith}
use Rattle.std.proofs.lemmas.Grind.{common_steps}
use Rattle.journal.proofs.reading.are_name_bytes.Goals as goal

-- Without an answer this would be proved too; with one, an edit that breaks it is refused sooner.
pub loop-byte-preserved : goal.loop-byte-preserved
loop-byte-preserved c = grind (arith, common_steps)
