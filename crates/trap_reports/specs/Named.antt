-- The address that an instruction names.
use Rattle.std.specs.Prelude.{ℕ, ℤ, ◌-◌, ◌%◌, Option, Some, None}
use Rattle.formats.specs.declared.instr.Instr.{Instr}
use Rattle.formats.specs.declared.instr.Instr.TheVariants as instr
use Rattle.formats.specs.Table.{instr_of}
use Rattle.machine_model.specs.Effects.{ArchitecturalState, reg, moved}

-- the address that a register and an immediate name
abbrev pub beside : ArchitecturalState → ℕ → ℤ → ℕ
beside h r imm = moved (reg h r) imm

-- the address of a load or a store, or of the instruction to which a jump goes, or a branch that is taken
abbrev pub named_by : Instr → ArchitecturalState → Option ℕ
named_by (instr.Jal rd offset) h = Some (moved h.pc offset)
named_by (instr.Jalr rd rs1 imm) h = Some (beside h rs1 imm - beside h rs1 imm % 2)
named_by (instr.Branch condition rs1 rs2 offset) h = Some (moved h.pc offset)
named_by (instr.Load operator rd rs1 imm) h = Some (beside h rs1 imm)
named_by (instr.Store width rs1 rs2 imm) h = Some (beside h rs1 imm)
named_by _ h = None

-- the same of a word that may mean no instruction
abbrev pub named_by_any : Option Instr → ArchitecturalState → Option ℕ
named_by_any None h = None
named_by_any (Some i) h = named_by i h

-- the address that a word names, if a word is there and means an instruction
abbrev pub named_in : Option ℕ → ArchitecturalState → Option ℕ
named_in None h = None
named_in (Some word) h = named_by_any (instr_of word) h
