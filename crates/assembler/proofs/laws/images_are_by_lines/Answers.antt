use Rattle.assembler.proofs.ByLines.{by-lines}
use Rattle.assembler.proofs.laws.images_are_by_lines.Goals as goal

pub returns : goal.returns
returns c = by-lines
