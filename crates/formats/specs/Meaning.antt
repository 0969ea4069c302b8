-- What each instruction word means (RISC-V Unprivileged ISA 20191213, chapter 24, RV32I and M).
use Rattle.std.specs.Prelude.{ℕ, ℤ, ◌≡◌}
use Rattle.formats.specs.Fields.{opcode, funct3, funct7, rd_of, rs1_of, rs2_of, immediate_i, immediate_s, immediate_b, immediate_u, immediate_j}
use Rattle.formats.specs.Table.{branch_row, load_row, store_row, immediate_row, shift_row, register_row}
use Rattle.formats.specs.declared.instr.Instr.{Instr}
use Rattle.formats.specs.declared.instr.Instr.TheVariants as instr

-- a U-type word of this opcode
abbrev pub IsU : ℕ → ℕ → ℕ → ℕ → Type 0
IsU w o rd imm = (opcode w ≡ o) × (rd ≡ rd_of w) × (imm ≡ immediate_u w)

-- an I-type word of this opcode and funct3
abbrev pub IsI : ℕ → ℕ → ℕ → ℕ → ℕ → ℤ → Type 0
IsI w o f rd rs1 imm = (opcode w ≡ o) × (funct3 w ≡ f) × (rd ≡ rd_of w) × (rs1 ≡ rs1_of w) × (imm ≡ immediate_i w)

-- an S-type word, of a store of this funct3
abbrev pub IsS : ℕ → ℕ → ℕ → ℕ → ℤ → Type 0
IsS w f rs1 rs2 imm = (opcode w ≡ 0b0100011) × (funct3 w ≡ f) × (rs1 ≡ rs1_of w) × (rs2 ≡ rs2_of w) × (imm ≡ immediate_s w)

-- a B-type word, of a branch of this funct3
abbrev pub IsB : ℕ → ℕ → ℕ → ℕ → ℤ → Type 0
IsB w f rs1 rs2 offset = (opcode w ≡ 0b1100011) × (funct3 w ≡ f) × (rs1 ≡ rs1_of w) × (rs2 ≡ rs2_of w) × (offset ≡ immediate_b w)

-- a shift by an immediate, of this funct3 and funct7; the amount stands in the place of rs2
abbrev pub IsShift : ℕ → ℕ → ℕ → ℕ → ℕ → ℕ → Type 0
IsShift w f g rd rs1 amount = (opcode w ≡ 0b0010011) × (funct3 w ≡ f) × (funct7 w ≡ g) × (rd ≡ rd_of w) × (rs1 ≡ rs1_of w) × (amount ≡ rs2_of w)

-- an R-type word of this funct3 and funct7
abbrev pub IsR : ℕ → ℕ → ℕ → ℕ → ℕ → ℕ → Type 0
IsR w f g rd rs1 rs2 = (opcode w ≡ 0b0110011) × (funct3 w ≡ f) × (funct7 w ≡ g) × (rd ≡ rd_of w) × (rs1 ≡ rs1_of w) × (rs2 ≡ rs2_of w)

-- The word means the instruction: a clause for each format, whose operator has its row in the table. A word that means none is illegal.
abbrev pub Means : ℕ → Instr → Type 0
Means w (instr.Lui rd imm) = IsU w 0b0110111 rd imm
Means w (instr.Auipc rd imm) = IsU w 0b0010111 rd imm
Means w (instr.Jal rd offset) = (opcode w ≡ 0b1101111) × (rd ≡ rd_of w) × (offset ≡ immediate_j w)
Means w (instr.Jalr rd rs1 imm) = IsI w 0b1100111 0b000 rd rs1 imm
Means w (instr.Branch condition rs1 rs2 offset) = IsB w (branch_row condition).funct3 rs1 rs2 offset
Means w (instr.Load operator rd rs1 imm) = IsI w 0b0000011 (load_row operator).funct3 rd rs1 imm
Means w (instr.Store width rs1 rs2 imm) = IsS w (store_row width).funct3 rs1 rs2 imm
Means w (instr.Immediate operator rd rs1 imm) = IsI w 0b0010011 (immediate_row operator).funct3 rd rs1 imm
Means w (instr.Shift operator rd rs1 amount) = IsShift w (shift_row operator).funct3 (shift_row operator).funct7 rd rs1 amount
Means w (instr.Register operator rd rs1 rs2) = IsR w (register_row operator).funct3 (register_row operator).funct7 rd rs1 rs2
Means w instr.Fence = (opcode w ≡ 0b0001111) × (funct3 w ≡ 0b000)
Means w instr.FenceI = (opcode w ≡ 0b0001111) × (funct3 w ≡ 0b001)
Means w instr.Ecall = w ≡ 0x00000073
Means w instr.Ebreak = w ≡ 0x00100073
