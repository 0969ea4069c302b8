use Rattle.std.proofs.Common.{arith, sym, ◌∙◌}
use Rattle.asm_statements.proofs.OperandLists.{operand-missing}
use Rattle.std.proofs.lemmas.Grind.{common_steps}
use Rattle.asm_statements.proofs.operands.read_operands.Goals as goal

pub returns-in-empty : goal.returns-in-empty
returns-in-empty c =
    sym (operand-missing c.args.source.now c.args.end c.slots-slot-items.result.now c.loop-slot.slot-index c.loop-slot.rest.now c.loop-slot.operands c.loop-slot-test.true c.in-empty.len_below) ∙ c.loop-slot.invariant.read

pub loop-slot-preserved : goal.loop-slot-preserved
loop-slot-preserved c = grind (arith, common_steps)

pub returns-in-empty-rest : goal.returns-in-empty-rest
returns-in-empty-rest c = grind (arith, common_steps)

pub returns-in-len1-up-rest : goal.returns-in-len1-up-rest
returns-in-len1-up-rest c = grind (arith, common_steps)
