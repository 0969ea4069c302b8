use Rattle.std.proofs.Common.{arith}
use Rattle.memory.proofs.part.word_number.Goals as goal

-- Without an answer this would be proved too; with one, an edit that breaks it is refused sooner.
pub returns-in-Word-clause-aligned : goal.returns-in-Word-clause-aligned
returns-in-Word-clause-aligned c = grind arith
