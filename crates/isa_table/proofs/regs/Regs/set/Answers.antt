use Rattle.std.proofs.Common.{rules}
use Rattle.isa_table.proofs.regs.Regs.set.Goals as goal

-- Without an answer this would be proved too; with one, an edit that breaks it is refused sooner.
pub invariant_of-self : goal.invariant_of-self
invariant_of-self c = search rules
