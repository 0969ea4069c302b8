use Rattle.std.proofs.Common.{rules}
use Rattle.elf32.proofs.segments.end_of.Goals as goal

-- Without an answer this would be proved too; with one, an edit that breaks it is refused sooner.
pub returns-clause-value : goal.returns-clause-value
returns-clause-value c = search rules
