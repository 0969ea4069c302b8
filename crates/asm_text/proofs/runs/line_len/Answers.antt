use Rattle.std.proofs.Common.{arith}
use Rattle.std.proofs.lemmas.Grind.{common_steps}
use Rattle.asm_text.proofs.runs.line_len.Goals as goal

-- Without an answer this would be proved too; with one, an edit that breaks it is refused sooner.
pub loop-len-preserved : goal.loop-len-preserved
loop-len-preserved c = grind (arith, common_steps)
