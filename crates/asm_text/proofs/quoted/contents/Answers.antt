use Rattle.std.proofs.Common.{arith}
use Rattle.std.proofs.lemmas.Grind.{common_steps}
use Rattle.asm_text.proofs.quoted.contents.Goals as goal

pub returns-in_default-clause-value : goal.returns-in_default-clause-value
returns-in_default-clause-value c = grind (arith, common_steps)

pub returns-in-34-clause-value : goal.returns-in-34-clause-value
returns-in-34-clause-value c = grind (arith, common_steps)

pub returns-in_default-byte-clause-value : goal.returns-in_default-byte-clause-value
returns-in_default-byte-clause-value c = grind (arith, common_steps)

pub loop-i-preserved : goal.loop-i-preserved
loop-i-preserved c = grind (arith, common_steps)
