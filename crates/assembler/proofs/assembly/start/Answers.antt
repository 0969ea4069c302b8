use Rattle.std.proofs.Common.{rules}
use Rattle.assembler.proofs.assembly.start.Goals as goal

-- Without an answer this would be proved too; with one, an edit that breaks it is refused sooner.
pub returns-then-spot-words-clause-value : goal.returns-then-spot-words-clause-value
returns-then-spot-words-clause-value c = search rules
