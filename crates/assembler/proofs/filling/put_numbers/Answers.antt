use Rattle.std.proofs.Common.{arith}
use Rattle.std.proofs.lemmas.Grind.{common_steps}
use Rattle.assembler.proofs.filling.put_numbers.Goals as goal

pub loop-token-preserved : goal.loop-token-preserved
loop-token-preserved c = grind (arith, common_steps)

pub returns-clause-ok : goal.returns-clause-ok
returns-clause-ok c = grind (arith, common_steps)
