use Rattle.std.proofs.Common.{rules}
use Rattle.isa_table.proofs.arithmetic.remainder.Goals as goal

-- Without an answer this would be proved too; with one, an edit that breaks it is refused sooner.
pub returns-then-b-eq0 : goal.returns-then-b-eq0
returns-then-b-eq0 c = search rules
