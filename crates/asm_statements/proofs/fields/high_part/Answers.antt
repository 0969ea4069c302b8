use Rattle.std.proofs.Common.{rules}
use Rattle.asm_statements.specs.Expansion.{high_part, low_part, modulo_word}
use Rattle.asm_statements.proofs.fields.high_part.Goals as goal

-- Without an answer this would be proved too; with one, an edit that breaks it is refused sooner.
pub returns : goal.returns
unfolding high_part low_part modulo_word
returns c = search rules
