use Rattle.std.proofs.Common.{arith}
use Rattle.std.proofs.lemmas.Grind.{common_steps}
use Rattle.asm_statements.proofs.statement.split_label.Goals as goal

pub returns-else-not-is_label : goal.returns-else-not-is_label
returns-else-not-is_label c = grind (arith, common_steps)
