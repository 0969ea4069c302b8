use Rattle.std.proofs.Common.{arith}
use Rattle.std.proofs.lemmas.Grind.{common_steps}
use Rattle.image_model.specs.Names.{segment_in}
use Rattle.elf32.proofs.segments.segment_of.Goals as goal

-- Without an answer this would be proved too; with one, an edit that breaks it is refused sooner.
pub returns : goal.returns
unfolding segment_in
returns c = grind (arith, common_steps)
