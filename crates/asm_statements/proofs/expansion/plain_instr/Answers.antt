use Rattle.std.proofs.Common.{rules}
use Rattle.asm_statements.proofs.expansion.plain_instr.Goals as goal

-- Without an answer this would be proved too; with one, an edit that breaks it is refused sooner.
pub returns-in-FenceI : goal.returns-in-FenceI
returns-in-FenceI c = search rules
