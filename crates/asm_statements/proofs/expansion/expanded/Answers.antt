use Rattle.std.proofs.Common.{◌≡◌, ℤ, SFits, w64, to_z, of_z, to_z-of_z, ap, ◌∙◌}
use Rattle.std.specs.Prelude.{Option}
use Rattle.asm_statements.specs.{Expansion.expansion_of, declared.mnemonic.Mnemonic.Mnemonic, declared.operands.Operands.Operands, declared.expansion.Expansion.Expansion}
use Rattle.asm_statements.proofs.expansion.expanded.Goals as goal

-- the expansion of a mnemonic of this form, with the number as it is handed on
handed : (m form : Mnemonic) (o : Operands) (n : ℤ) (r : Option Expansion) → m ≡ form → SFits w64 n → r ≡ expansion_of form o (to_z w64 (of_z w64 n)) → r ≡ expansion_of m o n
handed m form o n r is fits made = rw is (made ∙ ap (expansion_of form o) (to_z-of_z fits))

pub returns-in-Immediate : goal.returns-in-Immediate
returns-in-Immediate c = handed _ _ c.args.operands.now c.args.number _ c.in-Immediate.is c.ranges.number c.immediate_instr.ensures

pub returns-in-Shift : goal.returns-in-Shift
returns-in-Shift c = handed _ _ c.args.operands.now c.args.number _ c.in-Shift.is c.ranges.number c.shift_instr.ensures

pub returns-in-Load : goal.returns-in-Load
returns-in-Load c = handed _ _ c.args.operands.now c.args.number _ c.in-Load.is c.ranges.number c.load_instr.ensures

pub returns-in-Store : goal.returns-in-Store
returns-in-Store c = handed _ _ c.args.operands.now c.args.number _ c.in-Store.is c.ranges.number c.store_instr.ensures

pub returns-in-Branch : goal.returns-in-Branch
returns-in-Branch c = handed _ _ c.args.operands.now c.args.number _ c.in-Branch.is c.ranges.number c.branch_instr.ensures

pub returns-in-Swapped : goal.returns-in-Swapped
returns-in-Swapped c = handed _ _ c.args.operands.now c.args.number _ c.in-Swapped.is c.ranges.number c.branch_instr-in-Swapped.ensures

pub returns-in-WithZero : goal.returns-in-WithZero
returns-in-WithZero c = handed _ _ c.args.operands.now c.args.number _ c.in-WithZero.is c.ranges.number (rw c.new.ensures at c.branch_instr-in-WithZero.ensures)

pub returns-in-FromZero : goal.returns-in-FromZero
returns-in-FromZero c = handed _ _ c.args.operands.now c.args.number _ c.in-FromZero.is c.ranges.number (rw c.new-in-FromZero.ensures at c.branch_instr-in-FromZero.ensures)

pub returns-in-Upper : goal.returns-in-Upper
returns-in-Upper c = handed _ _ c.args.operands.now c.args.number _ c.in-Upper.is c.ranges.number c.upper_instr.ensures

pub returns-in-Jal : goal.returns-in-Jal
returns-in-Jal c = handed _ _ c.args.operands.now c.args.number _ c.in-Jal.is c.ranges.number c.jump_instr.ensures

pub returns-in-Jalr : goal.returns-in-Jalr
returns-in-Jalr c = handed _ _ c.args.operands.now c.args.number _ c.in-Jalr.is c.ranges.number c.register_jump.ensures

pub returns-in-Jump : goal.returns-in-Jump
returns-in-Jump c = handed _ _ c.args.operands.now c.args.number _ c.in-Jump.is c.ranges.number (rw c.link_register.ensures at c.jump_instr-in-Jump.ensures)
