use Rattle.std.proofs.Common.{rules}
use Rattle.debugger.proofs.debugger.Debugger.clear.Goals as goal

-- Without answers these would be proved too; with them, an edit that breaks one is refused sooner.
pub returns-clause-there : goal.returns-clause-there
returns-clause-there c = search rules

pub returns-clause-freed : goal.returns-clause-freed
returns-clause-freed c = search rules

pub returns-clause-none : goal.returns-clause-none
returns-clause-none c = search rules
