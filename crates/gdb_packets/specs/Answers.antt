-- What gdb is told of a machine, and of a text in parts.
use Rattle.std.specs.Prelude.{ℕ, zero, suc, ◌+◌, ◌-◌, ◌^◌, nat_le, min, if◌then◌else◌, List, [], ◌∷◌, ◌++◌, length, take, Option, Some, None}
use Rattle.std.specs.FinMap.{get}
use Rattle.std.specs.Int.{w32, w64, to_le_bytes}
use Rattle.memory_model.specs.Memory.{Memory, Cell}
use Rattle.machine_model.specs.Effects.{ArchitecturalState, reg}
use Rattle.machine_model.specs.States.{State}

-- the first n registers, the lowest byte of each first
abbrev pub registers : ArchitecturalState → ℕ → List ℕ
registers h zero = []
registers h (suc n) = registers h n ++ to_le_bytes w32 (reg h n)

-- the registers, the pc and the count
unfoldable pub machine_bytes : State → List ℕ
machine_bytes s = (registers s.architectural 32 ++ to_le_bytes w32 s.architectural.pc) ++ to_le_bytes w64 s.count

abbrev pub with_cell : Option Cell → List ℕ → List ℕ
with_cell None rest = []
with_cell (Some cell) rest = cell.byte ∷ rest

-- n bytes from an address on, or as many as are there
abbrev pub bytes_from : Memory → ℕ → ℕ → List ℕ
bytes_from memory at zero = []
bytes_from memory at (suc n) = with_cell (get memory at) (bytes_from memory (at + 1) n)

-- what is told of n bytes from an address on: 4096 at once, and none past the greatest address
abbrev pub told : Memory → ℕ → ℕ → List ℕ
told memory at n = bytes_from memory at (min (min n 4096) (2 ^ 32 - at))

-- at most n bytes of what is left: after `l` where no more is left then, and else after `m`
abbrev pub part : ℕ → List ℕ → List ℕ
part n left = (if nat_le (length left) n then 108 else 109) ∷ take n left
