-- The bits of each operator fit their fields.
use Rattle.std.proofs.Common.{ℕ, ◌<◌, lit<}
use Rattle.memory_model.specs.declared.access.Width.{Width}
use Rattle.memory_model.specs.declared.access.Width.TheVariants as width
use Rattle.formats.specs.Table.{register_row, immediate_row, shift_row, load_row, store_row, branch_row}
use Rattle.formats.specs.declared.operators.Arithmetic.{Arithmetic}
use Rattle.formats.specs.declared.operators.Arithmetic.TheVariants.{Add, Sub, Sll, Slt, Sltu, Xor, Srl, Sra, Or, And, Mul, Mulh, Mulhsu, Mulhu, Div, Divu, Rem, Remu}
use Rattle.formats.specs.declared.operators.ImmediateOperator.{ImmediateOperator}
use Rattle.formats.specs.declared.operators.ImmediateOperator.TheVariants.{Addi, Slti, Sltiu, Xori, Ori, Andi}
use Rattle.formats.specs.declared.operators.ShiftOperator.{ShiftOperator}
use Rattle.formats.specs.declared.operators.ShiftOperator.TheVariants.{Slli, Srli, Srai}
use Rattle.formats.specs.declared.operators.LoadOperator.{LoadOperator}
use Rattle.formats.specs.declared.operators.LoadOperator.TheVariants.{Lb, Lh, Lw, Lbu, Lhu}
use Rattle.formats.specs.declared.operators.Condition.{Condition}
use Rattle.formats.specs.declared.operators.Condition.TheVariants.{Equal, NotEqual, Less, NotLess, Below, NotBelow}

pub register-funct3 : (x : Arithmetic) → (register_row x).funct3 < 8
register-funct3 x = elim x as (λ (x : Arithmetic). (register_row x).funct3 < 8) [ Add ↦ lit< tt | Sub ↦ lit< tt | Sll ↦ lit< tt | Slt ↦ lit< tt | Sltu ↦ lit< tt | Xor ↦ lit< tt | Srl ↦ lit< tt | Sra ↦ lit< tt | Or ↦ lit< tt | And ↦ lit< tt | Mul ↦ lit< tt | Mulh ↦ lit< tt | Mulhsu ↦ lit< tt | Mulhu ↦ lit< tt | Div ↦ lit< tt | Divu ↦ lit< tt | Rem ↦ lit< tt | Remu ↦ lit< tt ]

pub register-funct7 : (x : Arithmetic) → (register_row x).funct7 < 128
register-funct7 x = elim x as (λ (x : Arithmetic). (register_row x).funct7 < 128) [ Add ↦ lit< tt | Sub ↦ lit< tt | Sll ↦ lit< tt | Slt ↦ lit< tt | Sltu ↦ lit< tt | Xor ↦ lit< tt | Srl ↦ lit< tt | Sra ↦ lit< tt | Or ↦ lit< tt | And ↦ lit< tt | Mul ↦ lit< tt | Mulh ↦ lit< tt | Mulhsu ↦ lit< tt | Mulhu ↦ lit< tt | Div ↦ lit< tt | Divu ↦ lit< tt | Rem ↦ lit< tt | Remu ↦ lit< tt ]

pub immediate-funct3 : (x : ImmediateOperator) → (immediate_row x).funct3 < 8
immediate-funct3 x = elim x as (λ (x : ImmediateOperator). (immediate_row x).funct3 < 8) [ Addi ↦ lit< tt | Slti ↦ lit< tt | Sltiu ↦ lit< tt | Xori ↦ lit< tt | Ori ↦ lit< tt | Andi ↦ lit< tt ]

pub shift-funct3 : (x : ShiftOperator) → (shift_row x).funct3 < 8
shift-funct3 x = elim x as (λ (x : ShiftOperator). (shift_row x).funct3 < 8) [ Slli ↦ lit< tt | Srli ↦ lit< tt | Srai ↦ lit< tt ]

pub shift-funct7 : (x : ShiftOperator) → (shift_row x).funct7 < 128
shift-funct7 x = elim x as (λ (x : ShiftOperator). (shift_row x).funct7 < 128) [ Slli ↦ lit< tt | Srli ↦ lit< tt | Srai ↦ lit< tt ]

pub load-funct3 : (x : LoadOperator) → (load_row x).funct3 < 8
load-funct3 x = elim x as (λ (x : LoadOperator). (load_row x).funct3 < 8) [ Lb ↦ lit< tt | Lh ↦ lit< tt | Lw ↦ lit< tt | Lbu ↦ lit< tt | Lhu ↦ lit< tt ]

pub store-funct3 : (x : Width) → (store_row x).funct3 < 8
store-funct3 x = elim x as (λ (x : Width). (store_row x).funct3 < 8) [ width.Byte ↦ lit< tt | width.Half ↦ lit< tt | width.Word ↦ lit< tt ]

pub branch-funct3 : (x : Condition) → (branch_row x).funct3 < 8
branch-funct3 x = elim x as (λ (x : Condition). (branch_row x).funct3 < 8) [ Equal ↦ lit< tt | NotEqual ↦ lit< tt | Less ↦ lit< tt | NotLess ↦ lit< tt | Below ↦ lit< tt | NotBelow ↦ lit< tt ]
