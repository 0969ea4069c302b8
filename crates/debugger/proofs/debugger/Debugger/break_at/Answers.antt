use Rattle.std.proofs.Common.{rules}
use Rattle.debugger.proofs.debugger.Debugger.break_at.Goals as goal

-- Without an answer this would be proved too; with one, an edit that breaks it is refused sooner.
pub returns-clause-set : goal.returns-clause-set
returns-clause-set c = search rules
