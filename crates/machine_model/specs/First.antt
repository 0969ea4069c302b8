-- The state in which a program begins.
use Rattle.std.specs.Prelude.{ℕ, ◌-◌, ◌/◌, ◌&&◌, Bool, true, false, nat_le, nat_lt, if◌then◌else◌, List, [], ◌∷◌, replicate, slice_index, slice_set, Option, Some, None}
use Rattle.memory_model.specs.Access.{cell_with}
use Rattle.memory_model.specs.Memory.{Cell, memory_of}
use Rattle.machine_model.specs.States.{State, architectural, state}
use Rattle.machine_model.specs.declared.image.Segment.{Segment}
use Rattle.machine_model.specs.Images.{Program, first_page, last_page}

abbrev pub has_page : Segment → ℕ → Bool
has_page s page = nat_le (first_page s) page && nat_le page (last_page s)

-- the byte at an address of a segment's pages: the file's, and 0 before and after them
abbrev pub byte_at : Segment → ℕ → ℕ
byte_at s a = if nat_le s.vaddr a then slice_index s.bytes (a - s.vaddr) else 0

-- the stack: four pages of zeros that may be read and written, the last below 0x80000000
abbrev pub stack_cell : ℕ → Option Cell
stack_cell a = if nat_le 0x7FFFC000 a && nat_lt a 0x80000000 then Some (cell_with (record { read = true; write = true; execute = false }) 0) else None

-- what stands at an address at first: the byte of the first segment that has its page, else the stack, else nothing
abbrev pub first_cell : List Segment → ℕ → Option Cell
first_cell [] a = stack_cell a
first_cell (s ∷ ss) a = if has_page s (a / 4096) then Some (cell_with s.rights (byte_at s a)) else first_cell ss a

-- the registers at first: all 0 but the stack pointer, x2, which is the end of the stack
abbrev pub first_registers : List ℕ
first_registers = slice_set (replicate 32 0) 2 0x80000000

abbrev pub first_state : Program → State
first_state p = state (architectural first_registers p.entry (memory_of (first_cell p.segments))) 0
