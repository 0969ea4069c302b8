use Rattle.asm_statements.proofs.Encodings.{word_is}
use Rattle.assembler.proofs.laws.word_meanings.Goals as goal

pub returns : goal.returns
returns c = word_is
