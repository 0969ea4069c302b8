use Rattle.std.proofs.Common.{rules}
use Rattle.files.proofs.table.FileTable.create.Goals as goal

-- Without an answer this would be proved too; with one, an edit that breaks it is refused sooner.
pub returns-clause-ok : goal.returns-clause-ok
returns-clause-ok c = search rules
