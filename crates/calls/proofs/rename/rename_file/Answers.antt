use Rattle.std.proofs.Common.{rules}
use Rattle.calls.proofs.rename.rename_file.Goals as goal

-- Without an answer this would be proved too; with one, an edit that breaks it is refused sooner.
pub returns-then-eq : goal.returns-then-eq
returns-then-eq c = search rules
