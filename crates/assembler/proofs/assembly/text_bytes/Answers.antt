use Rattle.std.proofs.Common.{arith}
use Rattle.assembler.proofs.Profiles.{text-ends}
use Rattle.std.proofs.lemmas.Grind.{common_steps}
use Rattle.assembler.proofs.assembly.text_bytes.Goals as goal

pub returns-clause-len : goal.returns-clause-len
returns-clause-len c = text-ends c.loop-cell.bytes.items c.args.cells.now c.loop-cell.cell-index (omega arith) c.loop-cell.invariant

pub loop-cell-preserved : goal.loop-cell-preserved
loop-cell-preserved c = grind (arith, common_steps)

pub returns-clause-value : goal.returns-clause-value
returns-clause-value c = grind (arith, common_steps)
