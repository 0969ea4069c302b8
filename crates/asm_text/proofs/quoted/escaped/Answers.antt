use Rattle.std.proofs.Common.{rules}
use Rattle.asm_text.proofs.quoted.escaped.Goals as goal

-- Without an answer this would be proved too; with one, an edit that breaks it is refused sooner.
pub returns-in-48 : goal.returns-in-48
returns-in-48 c = search rules
