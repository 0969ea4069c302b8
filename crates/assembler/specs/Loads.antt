-- What instructions come to when they are carried out, as those of `li` and `la`.
use Rattle.std.specs.Prelude.{ℕ, ◌+◌, ◌*◌, ◌%◌, ◌^◌, List, [], ◌∷◌, Option, Some, None}
use Rattle.std.specs.Option.{option_and_then}
use Rattle.formats.specs.declared.instr.Instr.{Instr}
use Rattle.machine_model.specs.Effects.{ArchitecturalState, InstructionEffect, put, effect}

-- the architectural state that an instruction makes, if it stops at no call and no trap
abbrev pub architectural_of : InstructionEffect → Option ArchitecturalState
architectural_of (InstructionEffect.Becomes h) = Some h
architectural_of _ = None

abbrev pub carried_out : List Instr → ArchitecturalState → Option ArchitecturalState
carried_out [] h = Some h
carried_out (i ∷ instructions) h = option_and_then (λ g. carried_out instructions g) (architectural_of (effect i h))

-- a value in a register, and the pc after so many words
abbrev pub with_value : ArchitecturalState → ℕ → ℕ → ℕ → ArchitecturalState
with_value h rd value words = record { registers = put h.registers rd value; pc = (h.pc + 4 * words) % 2 ^ 32; memory = h.memory }
