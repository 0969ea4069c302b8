-- Files, and what a change does to them.
use Rattle.std.specs.Prelude.{◌≡◌, ℕ, ◌+◌, ◌-◌, ◌<◌, ◌≤◌, ◌^◌, List, [], ◌∷◌, ◌++◌, length, take, drop, replicate, slice_get, slice_set, if◌then◌else◌, Option, Some, None, Bool, nat_le, ◌&&◌, ◌==◌, not}
use Rattle.std.specs.Str.{bytes_eq}
use Rattle.std.specs.List.{AllByRecursion, position, remove}
use Rattle.disk_model.specs.Limits.{most_files, longest_name, longest_file, longest_file_write}
use Rattle.disk_model.specs.declared.change.NamedFile.{NamedFile}
use Rattle.disk_model.specs.declared.change.Change.{Change}
use Rattle.disk_model.specs.declared.change.Change.TheVariants.{Create, Write, Empty, Remove, Rename}

-- the old bytes with these from the offset on; a gap between the old end and the offset is zeros
abbrev pub patched : List ℕ → ℕ → List ℕ → List ℕ
patched old offset bytes = take offset old ++ replicate (offset - length old) 0 ++ bytes ++ drop (offset + length bytes) old

-- the files where the file at this place, if there is one, has its bytes changed so
abbrev pub with_bytes : List NamedFile → ℕ → Option NamedFile → (List ℕ → List ℕ) → List NamedFile
with_bytes files place None f = files
with_bytes files place (Some file) f = slice_set files place (record { name = file.name; bytes = f file.bytes })

-- the files where the file at this place, if there is one, has this name
abbrev pub with_name : List NamedFile → ℕ → Option NamedFile → List ℕ → List NamedFile
with_name files place None name = files
with_name files place (Some file) name = slice_set files place (record { name = name; bytes = file.bytes })

-- the place of the first file of this name
abbrev pub place_named : List NamedFile → List ℕ → Option ℕ
place_named files name = position (λ (f : NamedFile). bytes_eq f.name name) files

-- the list without what stands at this place, if a place is given; what came after it moves down by one
abbrev pub without : {A : Type 0} → List A → Option ℕ → List A
without xs None = xs
without xs (Some place) = remove xs place

-- the place of the file that loses its name, if one does, where a file that may be there gets this name: another one that had it
abbrev pub loser : List NamedFile → Option NamedFile → List ℕ → Option ℕ
loser files None name = None
loser files (Some file) name = if bytes_eq file.name name then None else place_named files name

-- The files after a change. Each names a file by its place among those that live before it. A file that is renamed keeps its
-- place, and a file that had the new name is gone. A change that names a file that is not there changes nothing.
abbrev pub changed : List NamedFile → Change → List NamedFile
changed files (Create name) = files ++ record { name = name; bytes = [] } ∷ []
changed files (Write place offset bytes) = with_bytes files place (slice_get files place) (λ old. patched old offset bytes)
changed files (Empty place) = with_bytes files place (slice_get files place) (λ old. [])
changed files (Remove place) = without files (Some place)
changed files (Rename place name) = without (with_name files place (slice_get files place) name) (loser files (slice_get files place) name)

-- the files after these changes, the first of them first
abbrev pub files_after : List NamedFile → List Change → List NamedFile
files_after files [] = files
files_after files (c ∷ cs) = files_after (changed files c) cs

-- a byte of a file's name: 0x21 to 0x7E, without the slash
abbrev pub IsNameByte : ℕ → Type 0
IsNameByte b = (33 ≤ b) × (b ≤ 126) × (b ≡ 47 → ⊥)

-- the same as a test
abbrev pub is_name_byte : ℕ → Bool
is_name_byte b = nat_le 33 b && nat_le b 126 && not (b == 47)

-- a name: 1 to 32 bytes of names
abbrev pub IsName : List ℕ → Type 0
IsName name = (1 ≤ length name) × (length name ≤ longest_name) × AllByRecursion IsNameByte name

-- a change that a record may spell, whatever files there are: a name has 1 to 32 bytes, a write 1 to 1,024
abbrev pub IsFormed : Change → Type 0
IsFormed (Create name) = IsName name
IsFormed (Write place offset bytes) = (place < 2 ^ 16) × (offset < 2 ^ 32) × (1 ≤ length bytes) × (length bytes ≤ longest_file_write) × AllByRecursion (λ b. b < 256) bytes
IsFormed (Empty place) = place < 2 ^ 16
IsFormed (Remove place) = place < 2 ^ 16
IsFormed (Rename place name) = (place < 2 ^ 16) × IsName name

-- a change that may come to these files, if it is formed. A creation has a new name, and makes at most 32 files. Every other change
-- names a file that is there. A write ends at 16,384 bytes at most; a renaming gives another name than the file has
abbrev pub MayCome : List NamedFile → Change → Type 0
MayCome files (Create name) = AllByRecursion (λ (f : NamedFile). f.name ≡ name → ⊥) files × (length files < most_files)
MayCome files (Write place offset bytes) = (place < length files) × (offset + length bytes ≤ longest_file)
MayCome files (Empty place) = place < length files
MayCome files (Remove place) = place < length files
MayCome files (Rename place name) = (place < length files) × ((f : NamedFile) → slice_get files place ≡ Some f → f.name ≡ name → ⊥)

-- a possible change: it is formed, and may come to these files
abbrev pub IsPossible : List NamedFile → Change → Type 0
IsPossible files c = IsFormed c × MayCome files c

-- each of these changes is formed, and may come where it comes
abbrev pub Follow : List NamedFile → List Change → Type 0
Follow files [] = Unit {0}
Follow files (c ∷ cs) = IsFormed c × MayCome files c × Follow (changed files c) cs

-- possible changes make these files from nothing
abbrev pub IsMade : List NamedFile → Type 0
IsMade files = (all : List Change) × Follow [] all × (files ≡ files_after [] all)

-- each byte of a file's name, and each byte that it has, is below 256
abbrev pub FileHoldsBytes : NamedFile → Type 0
FileHoldsBytes f = AllByRecursion (λ b. b < 256) f.name × AllByRecursion (λ b. b < 256) f.bytes

-- each of these files holds bytes
abbrev pub FilesHoldBytes : List NamedFile → Type 0
FilesHoldBytes files = AllByRecursion FileHoldsBytes files
