use Rattle.std.proofs.Common.{rules}
use Rattle.debugger.proofs.stops.stopped_by.Goals as goal

-- Without an answer this would be proved too; with one, an edit that breaks it is refused sooner.
pub returns-in-Trap : goal.returns-in-Trap
returns-in-Trap c = search rules
