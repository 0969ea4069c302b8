use Rattle.std.proofs.Common.{rules}
use Rattle.journal.specs.Reading.{write_at}
use Rattle.journal.proofs.reading.write_of.Goals as goal

-- Without an answer this would be proved too; with one, an edit that breaks it is refused sooner.
pub returns : goal.returns
unfolding write_at
returns c = search rules
