use Rattle.std.proofs.Common.{rules}
use Rattle.asm_text.proofs.scan.word_of.Goals as goal

-- Without an answer this would be proved too; with one, an edit that breaks it is refused sooner.
pub returns-then-len-le-MOST-clause-value : goal.returns-then-len-le-MOST-clause-value
returns-then-len-le-MOST-clause-value c = search rules
