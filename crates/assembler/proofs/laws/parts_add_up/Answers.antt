use Rattle.asm_statements.proofs.Parts.{parts-add-up}
use Rattle.assembler.proofs.laws.parts_add_up.Goals as goal

pub returns : goal.returns
returns c = parts-add-up
