use Rattle.std.proofs.Common.{rules}
use Rattle.memory.proofs.kept_page.kept_block.Goals as goal

-- Without an answer this would be proved too; with one, an edit that breaks it is refused sooner.
pub returns-in-Some : goal.returns-in-Some
returns-in-Some c = search rules
