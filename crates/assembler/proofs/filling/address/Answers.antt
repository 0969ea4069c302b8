use Rattle.std.proofs.Common.{rules}
use Rattle.assembler.proofs.filling.address.Goals as goal

-- Without an answer this would be proved too; with one, an edit that breaks it is refused sooner.
pub returns-then-spot-clause-value : goal.returns-then-spot-clause-value
returns-then-spot-clause-value c = search rules
