-- What locations hold in a state.
use Rattle.std.specs.Prelude.{ℕ, zero, suc, ◌+◌, ◌%◌, ◌^◌, List, [], ◌∷◌, ◌++◌, Option, Some, option_map}
use Rattle.std.specs.List.{flat_map}
use Rattle.std.specs.FinMap.{get}
use Rattle.memory_model.specs.Memory.{Memory}
use Rattle.machine_model.specs.Effects.{reg}
use Rattle.machine_model.specs.States.{State}
use Rattle.timeline.specs.declared.location.Location.{Location}
use Rattle.timeline.specs.declared.location.Location.TheVariants.{Register, Bytes}

-- the byte at an address, if a page is there
abbrev pub byte_in : Memory → ℕ → Option ℕ
byte_in memory at = option_map (λ c. c.byte) (get memory at)

-- the bytes at n addresses from one on; after the greatest address comes 0
unfoldable pub bytes_from : Memory → ℕ → ℕ → List (Option ℕ)
bytes_from memory at zero = []
bytes_from memory at (suc n) = bytes_from memory at n ++ byte_in memory ((at + n) % 2 ^ 32) ∷ []

-- what a location holds: the word of a register, or bytes
abbrev pub held_by : State → Location → List (Option ℕ)
held_by s (Register r) = Some (reg s.architectural r) ∷ []
held_by s (Bytes at length) = bytes_from s.architectural.memory at length

-- what locations hold, one after the other
abbrev pub held_in : List Location → State → List (Option ℕ)
held_in locations s = flat_map (held_by s) locations
