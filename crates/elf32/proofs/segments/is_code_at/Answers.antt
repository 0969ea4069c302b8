use Rattle.std.proofs.Common.{rules}
use Rattle.image_model.specs.Checks.{is_code_at}
use Rattle.elf32.proofs.segments.is_code_at.Goals as goal

-- Without an answer this would be proved too; with one, an edit that breaks it is refused sooner.
pub returns-then-h-at : goal.returns-then-h-at
unfolding is_code_at
returns-then-h-at c = search rules
