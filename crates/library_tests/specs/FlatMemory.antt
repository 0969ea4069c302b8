-- A memory of a list of bytes, from address 0 on, with all rights.
use Rattle.std.specs.Prelude.{ℕ, true, List, slice_get, option_map}
use Rattle.memory_model.specs.Memory.{Memory, Cell, memory_of}

-- a byte with all rights
abbrev pub cell_of : ℕ → Cell
cell_of byte = record { byte = byte; rights = record { read = true; write = true; execute = true } }

-- the memory whose bytes, from address 0 on, are these
abbrev pub memory_of_bytes : List ℕ → Memory
memory_of_bytes bytes = memory_of (λ a. option_map cell_of (slice_get bytes a))
