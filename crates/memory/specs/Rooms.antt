-- Room for a copy of a memory.
use Rattle.std.specs.Prelude.{◌≡◌, ℕ, if◌then◌else◌, List, [], ◌∷◌, length, Option, Some, None}
use Rattle.std.specs.FinMap.{get}
use Rattle.memory_model.specs.Memory.{Memory, Cell}
use Rattle.memory.specs.Pages.{Pages}

-- what stands at an address, but for its byte where that may be written
abbrev pub form_of : Option Cell → Option Cell
form_of None = None
form_of (Some cell) = Some (record { byte = if cell.rights.write then 0 else cell.byte; rights = cell.rights })

-- the two memories differ in nothing but bytes that may be written
abbrev pub IsRoomFor : Memory → Memory → Type 0
IsRoomFor room memory = (a : ℕ) → form_of (get room a) ≡ form_of (get memory a)

-- the runs have the same place and rights, and as many words
pub record IsAlike (p q : Pages) : Type 0 where
  pub first : p.first ≡ q.first
  pub read : p.read ≡ q.read
  pub execute : p.execute ≡ q.execute
  pub words : length p.words ≡ length q.words

-- one by one
abbrev pub AreAlike : List Pages → List Pages → Type 0
AreAlike [] [] = Unit {0}
AreAlike (p ∷ ps) (q ∷ qs) = IsAlike p q × AreAlike ps qs
AreAlike ps qs = ⊥
