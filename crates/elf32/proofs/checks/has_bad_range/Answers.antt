use Rattle.std.proofs.Common.{rules}
use Rattle.image_model.specs.Checks.{has_bad_range}
use Rattle.elf32.proofs.checks.has_bad_range.Goals as goal

-- Without an answer this would be proved too; with one, an edit that breaks it is refused sooner.
pub returns-else-any_out_of_range : goal.returns-else-any_out_of_range
unfolding has_bad_range
returns-else-any_out_of_range c = search rules
