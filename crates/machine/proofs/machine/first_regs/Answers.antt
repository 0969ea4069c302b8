use Rattle.std.proofs.Common.{rules}
use Rattle.machine.proofs.machine.first_regs.Goals as goal

-- Without an answer this would be proved too; with one, an edit that breaks it is refused sooner.
pub returns-clause-x : goal.returns-clause-x
returns-clause-x c = search rules
