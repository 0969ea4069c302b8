use Rattle.std.proofs.Common.{rules}
use Rattle.held_output.proofs.trace.is_handed_out.Goals as goal

-- Without answers these would be proved too; with them, an edit that breaks one is refused sooner.
pub returns-then-not-holds_back : goal.returns-then-not-holds_back
returns-then-not-holds_back c = search rules

pub returns-else-not-holds_back : goal.returns-else-not-holds_back
returns-else-not-holds_back c = search rules
