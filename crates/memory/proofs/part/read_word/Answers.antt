use Rattle.std.proofs.Common.{rules}
use Rattle.memory.proofs.part.read_word.Goals as goal

-- Without an answer this would be proved too; with one, an edit that breaks it is refused sooner.
pub returns-in-Half : goal.returns-in-Half
returns-in-Half c = search rules
