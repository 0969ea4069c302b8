use Rattle.std.proofs.Common.{rules}
use Rattle.isa_table.proofs.execute.link.Goals as goal

-- Without answers these would be proved too; with them, an edit that breaks one is refused sooner.
pub returns-then-target-ne0 : goal.returns-then-target-ne0
returns-then-target-ne0 c = search rules

pub returns : goal.returns
returns c = search rules
