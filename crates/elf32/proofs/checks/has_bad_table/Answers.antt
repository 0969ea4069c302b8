use Rattle.std.proofs.Common.{rules}
use Rattle.image_model.specs.Checks.{has_bad_table}
use Rattle.elf32.proofs.checks.has_bad_table.Goals as goal

-- Without an answer this would be proved too; with one, an edit that breaks it is refused sooner.
pub returns : goal.returns
unfolding has_bad_table
returns c = search rules
