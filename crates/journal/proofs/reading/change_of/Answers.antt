use Rattle.std.proofs.Common.{arith}
use Rattle.std.proofs.lemmas.Grind.{common_steps}
use Rattle.journal.specs.Reading.{change_at}
use Rattle.journal.proofs.reading.change_of.Goals as goal

-- Without an answer this would be proved too; with one, an edit that breaks it is refused sooner.
pub returns-in-4 : goal.returns-in-4
unfolding change_at
returns-in-4 c = grind (arith, common_steps)
