use Rattle.std.proofs.Common.{rules}
use Rattle.journal.specs.Reading.{body_at}
use Rattle.journal.proofs.reading.body_in.Goals as goal

-- Without an answer this would be proved too; with one, an edit that breaks it is refused sooner.
pub returns : goal.returns
unfolding body_at
returns c = search rules
