use Rattle.std.proofs.Common.{rules}
use Rattle.asm_text.proofs.scan.mark_of.Goals as goal

-- Without an answer this would be proved too; with one, an edit that breaks it is refused sooner.
pub returns-in-58 : goal.returns-in-58
returns-in-58 c = search rules
