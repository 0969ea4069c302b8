-- How instructions are written, with the registers' ABI names (RISC-V Unprivileged ISA 20191213, chapter 25).
use Rattle.std.specs.Prelude.{ℕ, ℤ, false, List, [], ◌∷◌, ◌++◌, codes, decimal, slice_index_or}
use Rattle.std.specs.Fmt.{signed_decimal, digits}
use Rattle.formats.specs.Table.{branch_row, load_row, store_row, immediate_row, shift_row, register_row}
use Rattle.formats.specs.declared.instr.Instr.{Instr}
use Rattle.formats.specs.declared.instr.Instr.TheVariants as instr

-- the names of x0 to x31
abbrev pub register_names : List (List ℕ)
register_names =
    codes "zero" ∷ codes "ra" ∷ codes "sp" ∷ codes "gp" ∷ codes "tp" ∷ codes "t0" ∷ codes "t1" ∷ codes "t2" ∷
    codes "s0" ∷ codes "s1" ∷ codes "a0" ∷ codes "a1" ∷ codes "a2" ∷ codes "a3" ∷ codes "a4" ∷ codes "a5" ∷
    codes "a6" ∷ codes "a7" ∷ codes "s2" ∷ codes "s3" ∷ codes "s4" ∷ codes "s5" ∷ codes "s6" ∷ codes "s7" ∷
    codes "s8" ∷ codes "s9" ∷ codes "s10" ∷ codes "s11" ∷ codes "t3" ∷ codes "t4" ∷ codes "t5" ∷ codes "t6" ∷ []

abbrev pub register_name : ℕ → List ℕ
register_name number = slice_index_or register_names number []

-- ` a,b`
abbrev pub with_two : List ℕ → List ℕ → List ℕ
with_two a b = codes " " ++ (a ++ (codes "," ++ b))

-- ` a,b,c`
abbrev pub with_three : List ℕ → List ℕ → List ℕ → List ℕ
with_three a b c = codes " " ++ (a ++ (codes "," ++ (b ++ (codes "," ++ c))))

-- ` rd,rs1,imm`, and ` rs1,rs2,offset` of a branch
abbrev pub with_number : ℕ → ℕ → ℤ → List ℕ
with_number a b number = with_three (register_name a) (register_name b) (signed_decimal number)

-- ` register,imm(rs1)`
abbrev pub with_address : ℕ → ℕ → ℤ → List ℕ
with_address register rs1 imm = with_two (register_name register) (signed_decimal imm ++ (codes "(" ++ (register_name rs1 ++ codes ")")))

-- ` rd,0x` and the upper bits in hexadecimal
abbrev pub with_upper : ℕ → ℕ → List ℕ
with_upper rd imm = codes " " ++ (register_name rd ++ (codes ",0x" ++ digits 16 false imm))

-- the mnemonic of an instruction
abbrev pub mnemonic_of : Instr → List ℕ
mnemonic_of (instr.Lui rd imm) = codes "lui"
mnemonic_of (instr.Auipc rd imm) = codes "auipc"
mnemonic_of (instr.Jal rd offset) = codes "jal"
mnemonic_of (instr.Jalr rd rs1 imm) = codes "jalr"
mnemonic_of (instr.Branch condition rs1 rs2 offset) = (branch_row condition).mnemonic
mnemonic_of (instr.Load operator rd rs1 imm) = (load_row operator).mnemonic
mnemonic_of (instr.Store width rs1 rs2 imm) = (store_row width).mnemonic
mnemonic_of (instr.Immediate operator rd rs1 imm) = (immediate_row operator).mnemonic
mnemonic_of (instr.Shift operator rd rs1 amount) = (shift_row operator).mnemonic
mnemonic_of (instr.Register operator rd rs1 rs2) = (register_row operator).mnemonic
mnemonic_of instr.Fence = codes "fence"
mnemonic_of instr.FenceI = codes "fence.i"
mnemonic_of instr.Ecall = codes "ecall"
mnemonic_of instr.Ebreak = codes "ebreak"

-- its operands with a blank before them; nothing where there are none
abbrev pub operands_text : Instr → List ℕ
operands_text (instr.Lui rd imm) = with_upper rd imm
operands_text (instr.Auipc rd imm) = with_upper rd imm
operands_text (instr.Jal rd offset) = with_two (register_name rd) (signed_decimal offset)
operands_text (instr.Jalr rd rs1 imm) = with_address rd rs1 imm
operands_text (instr.Branch condition rs1 rs2 offset) = with_number rs1 rs2 offset
operands_text (instr.Load operator rd rs1 imm) = with_address rd rs1 imm
operands_text (instr.Store width rs1 rs2 imm) = with_address rs2 rs1 imm
operands_text (instr.Immediate operator rd rs1 imm) = with_number rd rs1 imm
operands_text (instr.Shift operator rd rs1 amount) = with_three (register_name rd) (register_name rs1) (decimal amount)
operands_text (instr.Register operator rd rs1 rs2) = with_three (register_name rd) (register_name rs1) (register_name rs2)
operands_text instr.Fence = []
operands_text instr.FenceI = []
operands_text instr.Ecall = []
operands_text instr.Ebreak = []

-- the text of an instruction
abbrev pub text_of : Instr → List ℕ
text_of i = mnemonic_of i ++ operands_text i
