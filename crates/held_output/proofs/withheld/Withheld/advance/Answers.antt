use Rattle.std.proofs.Common.{rules}
use Rattle.held_output.proofs.withheld.Withheld.advance.Goals as goal

-- Without an answer this would be proved too; with one, an edit that breaks it is refused sooner.
pub invariant_of-self : goal.invariant_of-self
invariant_of-self g c = search rules
