use Rattle.std.proofs.Common.{arith}
use Rattle.std.proofs.lemmas.Grind.{common_steps}
use Rattle.asm_statements.proofs.statement.numbers.Goals as goal

pub returns-then-not-is_comma : goal.returns-then-not-is_comma
returns-then-not-is_comma c = grind (arith, common_steps)

pub loop-token-preserved : goal.loop-token-preserved
loop-token-preserved c = grind (arith, common_steps)

pub returns-then-wanted-2 : goal.returns-then-wanted-2
returns-then-wanted-2 c = grind (arith, common_steps)

pub returns-else-wanted-2 : goal.returns-else-wanted-2
returns-else-wanted-2 c = grind (arith, common_steps)
