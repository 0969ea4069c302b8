use Rattle.std.proofs.Common.{arith}
use Rattle.std.proofs.lemmas.Grind.{common_steps}
use Rattle.asm_text.proofs.number.number_value.Goals as goal

pub returns-in_err-magnitude-in-45 : goal.returns-in_err-magnitude-in-45
returns-in_err-magnitude-in-45 c = grind (arith, common_steps)

pub returns-in_err-magnitude-in_default : goal.returns-in_err-magnitude-in_default
returns-in_err-magnitude-in_default c = grind (arith, common_steps)

pub returns-in_ok-magnitude-in_default : goal.returns-in_ok-magnitude-in_default
returns-in_ok-magnitude-in_default c = grind (arith, common_steps)

pub below_zero-requires : goal.below_zero-requires
below_zero-requires c = c.in_ok-magnitude-in-45.ensures.bound

pub above_zero-requires : goal.above_zero-requires
above_zero-requires c = c.in_ok-magnitude-in_default.ensures.bound
