use Rattle.std.proofs.Common.{rules}
use Rattle.journal.proofs.halves.half_end.Goals as goal

-- Without an answer this would be proved too; with one, an edit that breaks it is refused sooner.
pub returns-then-half : goal.returns-then-half
returns-then-half c = search rules
