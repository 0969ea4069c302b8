use Rattle.std.proofs.Common.{rules}
use Rattle.isa_table.proofs.execute.advance.Goals as goal

-- Without an answer this would be proved too; with one, an edit that breaks it is refused sooner.
pub returns-clause-pc : goal.returns-clause-pc
returns-clause-pc c = search rules
