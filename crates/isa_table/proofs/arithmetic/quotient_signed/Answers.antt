use Rattle.std.proofs.Common.{rules}
use Rattle.isa_table.proofs.arithmetic.quotient_signed.Goals as goal

-- Without an answer this would be proved too; with one, an edit that breaks it is refused sooner.
pub returns-else-b-eq0 : goal.returns-else-b-eq0
returns-else-b-eq0 c = search rules
