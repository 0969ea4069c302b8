use Rattle.std.proofs.Common.{rules}
use Rattle.memory.proofs.part.write_word.Goals as goal

-- Without an answer this would be proved too; with one, an edit that breaks it is refused sooner.
pub returns-in-Word-clause-word : goal.returns-in-Word-clause-word
returns-in-Word-clause-word c = search rules
