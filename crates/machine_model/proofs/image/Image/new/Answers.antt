use Rattle.std.proofs.Common.{rules}
use Rattle.machine_model.proofs.image.Image.new.Goals as goal

-- Without answers these would be proved too; with them, an edit that breaks one is refused sooner.
pub invariant_of-result : goal.invariant_of-result
invariant_of-result c = search rules

pub returns : goal.returns
returns c = search rules
