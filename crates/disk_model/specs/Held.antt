-- What stands on a disk: two halves of records, of which byte 0 selects one.
use Rattle.std.specs.Prelude.{◌≡◌, ℕ, ◌+◌, ◌%◌, ◌<◌, ◌==◌, Bool, true, false, List, [], ◌∷◌, ◌++◌, length, slice_index}
use Rattle.disk_model.specs.declared.change.Change.{Change}
use Rattle.disk_model.specs.declared.change.NamedFile.{NamedFile}
use Rattle.disk_model.specs.Files.{Follow, files_after}
use Rattle.disk_model.specs.Spelling.{sized_body, gate_after}

-- these bytes stand on the disk from this place on
abbrev pub HasBytes : List ℕ → ℕ → List ℕ → Type 0
HasBytes disk at bytes = (i : ℕ) → i < length bytes → slice_index disk (at + i) ≡ slice_index bytes i

-- the half that this byte 0 selects by its low bit: `false` is half 0, `true` is half 1
abbrev pub selected_half : ℕ → Bool
selected_half b = b % 2 == 1

-- the place of a half's first gate
abbrev pub start_of : Bool → ℕ
start_of false = 64
start_of true = 1048576

-- the place after a half; each half has 1,048,512 bytes
abbrev pub end_of : Bool → ℕ
end_of false = 1048576
end_of true = 2097088

-- a record of these changes stands after an open gate at this place, and the next gate lies before `last`
pub record IsRecord (disk : List ℕ) (last gate : ℕ) (cs : List Change) : Type 0 where
  pub opened : slice_index disk gate ≡ 1
  pub within : gate_after gate cs < last
  pub stands : HasBytes disk (gate + 1) (sized_body cs)

-- records of these groups of changes stand one after the other, from this gate up to that one
abbrev pub Records : List ℕ → ℕ → ℕ → List (List Change) → ℕ → Type 0
Records disk last gate [] upto = upto ≡ gate
Records disk last gate (cs ∷ css) upto = IsRecord disk last gate cs × Records disk last (gate_after gate cs) css upto

-- the changes of all groups, in order
abbrev pub joined : List (List Change) → List Change
joined [] = []
joined (cs ∷ css) = cs ++ joined css

-- the half has records up to this gate, and their changes, possible in this order, make these files
pub record Reads (disk : List ℕ) (half : Bool) (upto : ℕ) (files : List NamedFile) : Type 0 where
  pub groups : List (List Change)
  pub records : Records disk (end_of half) (start_of half) groups upto
  pub possible : Follow [] (joined groups)
  pub makes : files ≡ files_after [] (joined groups)

-- the disk holds these files: the selected half has records that make them, up to this gate, the first that is not open
pub record IsHeldTo (disk : List ℕ) (upto : ℕ) (files : List NamedFile) : Type 0 where
  pub size : length disk ≡ 2097152
  pub reads : Reads disk (selected_half (slice_index disk 0)) upto files
  pub closed : slice_index disk upto ≡ 1 → ⊥

-- the disk holds these files, up to some gate
abbrev pub IsHeld : List ℕ → List NamedFile → Type 0
IsHeld disk files = (upto : ℕ) × IsHeldTo disk upto files
