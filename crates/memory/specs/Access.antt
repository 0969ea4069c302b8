-- What is done with bytes.
use Rattle.std.specs.Prelude.{◌≡◌, ℕ, ◌+◌, ◌<◌, Bool, List, length, slice_index, Some}
use Rattle.std.specs.FinMap.{get}
use Rattle.memory_model.specs.Memory.{Memory}
use Rattle.memory_model.specs.Access.{cell_with, to_read, to_write}
use Rattle.memory_model.specs.declared.access.Rights.{Rights}
use Rattle.memory.specs.declared.copying.Access.{Access}
use Rattle.memory.specs.declared.copying.Access.TheVariants.{Read, Write}

-- the right that an access needs
abbrev pub right_of : Access → Rights → Bool
right_of Read = to_read
right_of Write = to_write

-- these bytes stand from an address on, all with these rights
abbrev pub Stand : Memory → ℕ → List ℕ → Rights → Type 0
Stand memory at bytes rights = (j : ℕ) → j < length bytes → get memory (at + j) ≡ Some (cell_with rights (slice_index bytes j))
