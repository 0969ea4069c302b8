use Rattle.std.proofs.Common.{rules}
use Rattle.image_model.specs.Checks.{meets_next}
use Rattle.elf32.proofs.segments.meets_next.Goals as goal

-- Without an answer this would be proved too; with one, an edit that breaks it is refused sooner.
pub returns-in-len1-up : goal.returns-in-len1-up
unfolding meets_next
returns-in-len1-up c = search rules
