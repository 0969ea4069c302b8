use Rattle.std.proofs.Common.{rules}
use Rattle.isa_table.proofs.execute.load.Goals as goal

-- Without an answer this would be proved too; with one, an edit that breaks it is refused sooner.
pub returns-in-Err : goal.returns-in-Err
returns-in-Err g c = search rules
