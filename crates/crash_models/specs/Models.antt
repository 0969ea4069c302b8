-- What a crash may leave of the files, under four models of a disk. The changes since the last sync are given, and the files then.
-- Moment t is after the first t of these changes; moment 0 is the last sync.
use Rattle.std.specs.Prelude.{◌≡◌, ◌↔◌, ℕ, zero, suc, ◌+◌, ◌*◌, ◌<◌, ◌≤◌, List, [], ◌∷◌, ◌++◌, length, take, slice_get, slice_index, Option, Some, None, min, if◌then◌else◌}
use Rattle.std.specs.List.{AllByRecursion}
use Rattle.disk_model.specs.declared.change.NamedFile.{NamedFile}
use Rattle.disk_model.specs.declared.change.Change.{Change}
use Rattle.disk_model.specs.declared.change.Change.TheVariants.{Create, Write, Empty, Remove, Rename}
use Rattle.disk_model.specs.Files.{files_after, place_named}
use Rattle.disk_model.specs.Numbers.{Numbered, at_place, file_of, lives, numbered_after}

-- the files at a moment, with their numbers
abbrev pub at_moment : Numbered → List Change → ℕ → Numbered
at_moment files changes t = numbered_after files (take t changes)

-- the number of the file of this name
abbrev pub number_named : Numbered → List ℕ → Option ℕ
number_named files name = at_place files.numbers (place_named files.living name)

-- the file of this name
abbrev pub file_named : List NamedFile → List ℕ → Option NamedFile
file_named files name = at_place files (place_named files name)

-- the bytes of a file that may be there; none where there is no file
abbrev pub bytes_of : Option NamedFile → List ℕ
bytes_of None = []
bytes_of (Some file) = file.bytes

-- Cells: what the disk holds of each name, of each file's length, and of 512 bytes of it. Each is as at a moment of its own: of a
-- name; of the length of the file of this number; of its 512 bytes from 512 k on.
pub record Moments : Type 0 where
  pub name : List ℕ → ℕ
  pub size : ℕ → ℕ
  pub bytes : ℕ → ℕ → ℕ

-- the bytes that the file of this number had last, up to a moment; none before it was made
abbrev pub bytes_at : Numbered → List Change → ℕ → ℕ → List ℕ
bytes_at files changes number zero = bytes_of (file_of files number)
bytes_at files changes number (suc t) = if lives (at_moment files changes (suc t)) number then bytes_of (file_of (at_moment files changes (suc t)) number) else bytes_at files changes number t

-- these bytes are the file's: the length as at its moment, and each byte as at the moment of its 512 bytes
pub record HasBytes (files : Numbered) (changes : List Change) (m : Moments) (number : ℕ) (bytes : List ℕ) : Type 0 where
  pub size : length bytes ≡ length (bytes_at files changes number (m.size number))
  pub each : (k j : ℕ) → j < 512 → 512 * k + j < length bytes
      → slice_index bytes (512 * k + j) ≡ slice_index (bytes_at files changes number (m.bytes number k)) (512 * k + j)

-- the file of this name is so, at these moments: none of the name where there was none; else it has the bytes of the file that had it
abbrev pub IsNamed : Numbered → List Change → Moments → List ℕ → Option ℕ → Option ℕ → List NamedFile → Type 0
IsNamed files changes m name None None left = Unit {0}
IsNamed files changes m name None (Some place) left = ⊥
IsNamed files changes m name (Some number) None left = ⊥
IsNamed files changes m name (Some number) (Some place) left = HasBytes files changes m number (bytes_of (slice_get left place))

-- these files are left where each cell is as at its moment, and no two of them have one name
pub record IsLeftAt (files : Numbered) (changes : List Change) (m : Moments) (left : List NamedFile) : Type 0 where
  pub named : (name : List ℕ) → IsNamed files changes m name (number_named (at_moment files changes (m.name name)) name) (place_named left name) left
  pub distinct : (place : ℕ) (file : NamedFile) → slice_get left place ≡ Some file → place_named left file.name ≡ Some place

-- both names of a rename are on the same side of it
abbrev pub RenamesWhole : Numbered → List Change → Moments → Type 0
RenamesWhole files changes m = (t place : ℕ) (old new : NamedFile) → slice_get changes t ≡ Some (Rename place new.name)
    → slice_get (at_moment files changes t).living place ≡ Some old
    → (suc t ≤ m.name old.name) ↔ (suc t ≤ m.name new.name)

-- change u writes 512 bytes of the file of this number, from 512 k on, or a gap there
pub record Touches (files : Numbered) (changes : List Change) (u number k : ℕ) : Type 0 where
  pub place : ℕ
  pub offset : ℕ
  pub bytes : List ℕ
  pub writes : slice_get changes u ≡ Some (Write place offset bytes)
  pub file : slice_get (at_moment files changes u).numbers place ≡ Some number
  pub ends : 512 * k < offset + length bytes
  pub begins : min offset (length (bytes_at files changes number u)) < 512 * k + 512

-- change u makes the file of this number longer, and these 512 bytes of it end after its old end
pub record Lengthens (files : Numbered) (changes : List Change) (u number k : ℕ) : Type 0 where
  pub touches : Touches files changes u number k
  pub longer : length (bytes_at files changes number u) < touches.offset + length touches.bytes
  pub past : length (bytes_at files changes number u) < 512 * k + 512

-- change u empties the file of this number
pub record Empties (files : Numbered) (changes : List Change) (u number : ℕ) : Type 0 where
  pub place : ℕ
  pub empties : slice_get changes u ≡ Some (Empty place)
  pub file : slice_get (at_moment files changes u).numbers place ≡ Some number

-- no bytes are lost by an emptying after which the length is not yet: what is as after it was written since
abbrev pub EmptiesWhole : Numbered → List Change → Moments → Type 0
EmptiesWhole files changes m = (u number k : ℕ) → Empties files changes u number → m.size number ≤ u → u < m.bytes number k
    → (v : ℕ) × (u < v) × (v < m.bytes number k) × Touches files changes v number k

-- no moment is past the last change
pub record AreWithin (changes : List Change) (m : Moments) : Type 0 where
  pub name : (n : List ℕ) → m.name n ≤ length changes
  pub size : (number : ℕ) → m.size number ≤ length changes
  pub bytes : (number k : ℕ) → m.bytes number k ≤ length changes

-- posix: each cell is as at a moment of its own; but a rename is whole, and so is an emptying
pub record IsPosix (files : Numbered) (changes : List Change) (m : Moments) : Type 0 where
  pub within : AreWithin changes m
  pub renames : RenamesWhole files changes m
  pub empties : EmptiesWhole files changes m

-- ordered: names and lengths are as at one moment; each write up to it that made its file longer has its bytes there; and bytes are
-- as after an emptying just where the length is
pub record IsOrdered (files : Numbered) (changes : List Change) (m : Moments) (at : ℕ) : Type 0 where
  pub within : AreWithin changes m
  pub name : (n : List ℕ) → m.name n ≡ at
  pub size : (number : ℕ) → m.size number ≡ at
  pub longer : (u number k : ℕ) → Lengthens files changes u number k → suc u ≤ at → suc u ≤ m.bytes number k
  pub emptied : (u number k : ℕ) → Empties files changes u number → (suc u ≤ at) ↔ (suc u ≤ m.bytes number k)

-- change u makes the file of this number
abbrev pub Makes : Numbered → List Change → ℕ → ℕ → Type 0
Makes files changes u number = (name : List ℕ) × (slice_get changes u ≡ Some (Create name)) × ((at_moment files changes u).made ≡ number)

-- delayed: names are as at one moment, and each length is as at a moment of its own up to that: no earlier than the file was made, or
-- emptied last, up to the moment of names. To that moment of its length bytes are ordered
pub record IsDelayed (files : Numbered) (changes : List Change) (m : Moments) (at : ℕ) : Type 0 where
  pub within : AreWithin changes m
  pub name : (n : List ℕ) → m.name n ≡ at
  pub size : (number : ℕ) → m.size number ≤ at
  pub made : (u number : ℕ) → Makes files changes u number → suc u ≤ at → suc u ≤ m.size number
  pub shorter : (u number : ℕ) → Empties files changes u number → suc u ≤ at → suc u ≤ m.size number
  pub longer : (u number k : ℕ) → Lengthens files changes u number k → suc u ≤ m.size number → suc u ≤ m.bytes number k
  pub emptied : (u number k : ℕ) → Empties files changes u number → (suc u ≤ m.size number) ↔ (suc u ≤ m.bytes number k)

-- bench: all cells are as at one moment
pub record IsBench (changes : List Change) (m : Moments) (at : ℕ) : Type 0 where
  pub within : AreWithin changes m
  pub name : (n : List ℕ) → m.name n ≡ at
  pub size : (number : ℕ) → m.size number ≡ at
  pub bytes : (number k : ℕ) → m.bytes number k ≡ at

-- posix may leave these files
abbrev pub PosixLeaves : Numbered → List Change → List NamedFile → Type 0
PosixLeaves files changes left = (m : Moments) × IsPosix files changes m × IsLeftAt files changes m left

-- ordered may leave these files
abbrev pub OrderedLeaves : Numbered → List Change → List NamedFile → Type 0
OrderedLeaves files changes left = (m : Moments) × (at : ℕ) × IsOrdered files changes m at × IsLeftAt files changes m left

-- delayed may leave these files
abbrev pub DelayedLeaves : Numbered → List Change → List NamedFile → Type 0
DelayedLeaves files changes left = (m : Moments) × (at : ℕ) × IsDelayed files changes m at × IsLeftAt files changes m left

-- bench may leave these files
abbrev pub BenchLeaves : Numbered → List Change → List NamedFile → Type 0
BenchLeaves files changes left = (m : Moments) × (at : ℕ) × IsBench changes m at × IsLeftAt files changes m left
