-- A memory by its words: four bytes with the rights of their page.
use Rattle.std.specs.Prelude.{◌≡◌, ℕ, ◌/◌, ◌%◌, Bool, true, if◌then◌else◌, List, slice_index, Option, Some, None, option_map, Result, Ok, Err}
use Rattle.memory_model.specs.Bytes.{value_in}
use Rattle.memory_model.specs.Memory.{Memory, Cell, memory_of}
use Rattle.memory_model.specs.declared.access.Rights.{Rights}
use Rattle.memory_model.specs.declared.access.BusFault.{BusFault}
use Rattle.memory_model.specs.declared.access.BusFault.TheVariants.{Unmapped, NoRight}

-- a word's four bytes, and the rights of its page
pub record Word : Type 0 where
  pub bytes : List ℕ
  pub rights : Rights

abbrev pub cell_of : ℕ → Word → Cell
cell_of j w = record { byte = slice_index w.bytes j; rights = w.rights }

-- the cell at an address, of the words by their numbers
abbrev pub cell_at : (ℕ → Option Word) → ℕ → Option Cell
cell_at words a = option_map (cell_of (a % 4)) (words (a / 4))

abbrev pub memory_of_words : (ℕ → Option Word) → Memory
memory_of_words words = memory_of (cell_at words)

-- n bytes of a word that may be used by a right
abbrev pub word_taken : (Rights → Bool) → Option Word → ℕ → ℕ → Result ℕ BusFault
word_taken right None j n = Err Unmapped
word_taken right (Some w) j n = if right w.rights then Ok (value_in w.bytes j n) else Err NoRight

-- why a word may not be used by a right
abbrev pub word_fault : (Rights → Bool) → Option Word → Option BusFault
word_fault right None = Some Unmapped
word_fault right (Some w) = if right w.rights then None else Some NoRight

-- these are the bytes of a word that may be read
abbrev pub IsReadable : Option Word → List ℕ → Type 0
IsReadable None bytes = ⊥
IsReadable (Some w) bytes = (w.rights.read ≡ true) × (w.bytes ≡ bytes)
