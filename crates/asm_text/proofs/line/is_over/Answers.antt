use Rattle.std.proofs.Common.{rules}
use Rattle.asm_text.proofs.line.is_over.Goals as goal

-- Without an answer this would be proved too; with one, an edit that breaks it is refused sooner.
pub returns-in-len1-up : goal.returns-in-len1-up
returns-in-len1-up c = search rules
