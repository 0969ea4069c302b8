use Rattle.std.proofs.Common.{arith}
use Rattle.std.proofs.lemmas.Grind.{common_steps}
use Rattle.processes.proofs.table.ProcTable.ended_child.Goals as goal

-- Without answers these would be proved too; with them, an edit that breaks one is refused sooner.
pub returns-in-Some : goal.returns-in-Some
returns-in-Some c = grind (arith, common_steps)

pub loop-child-preserved : goal.loop-child-preserved
loop-child-preserved c = grind (arith, common_steps)
