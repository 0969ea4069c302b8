use Rattle.std.proofs.Common.{rules}
use Rattle.isa_table.proofs.execute.link_to_register.Goals as goal

-- Without an answer this would be proved too; with one, an edit that breaks it is refused sooner.
pub returns : goal.returns
returns c = search rules
