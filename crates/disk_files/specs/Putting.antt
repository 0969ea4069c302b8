-- A file that is put on a disk.
use Rattle.std.specs.Prelude.{◌≡◌, ℕ, ◌+◌, List, [], ◌∷◌, length, if◌then◌else◌}
use Rattle.std.specs.Str.{bytes_eq}
use Rattle.disk_model.specs.declared.change.Change.{Change}
use Rattle.disk_model.specs.declared.change.NamedFile.{NamedFile}
use Rattle.disk_model.specs.Files.{Follow, files_after}
use Rattle.disk_model.specs.Held.{IsHeldTo}
use Rattle.disk_model.specs.Storage.{Storage, cut}
use Rattle.disk_model.specs.Runs.{first_storage}
use Rattle.group_commit.specs.Stages.{length_all}

-- the files once the file of this name has these bytes: every other file stays as it is and where it is, and a file that is new is
-- the last
abbrev pub with_file : List NamedFile → List ℕ → List ℕ → List NamedFile
with_file [] name bytes = record { name = name; bytes = bytes } ∷ []
with_file (f ∷ files) name bytes =
    if bytes_eq f.name name then record { name = f.name; bytes = bytes } ∷ files
    else f ∷ with_file files name bytes

-- these changes are possible in order, and make the new files of the old
pub record Makes (old new : List NamedFile) (changes : List Change) : Type 0 where
  pub possible : Follow old changes
  pub made : new ≡ files_after old changes

-- The storage has just begun to commit a put on this disk: changes that are possible in order on the files that the disk holds, by
-- which the file of this name gets these bytes. All of them are committed with the group that has begun.
pub record IsPut (disk name bytes : List ℕ) (storage : Storage) : Type 0 where
  pub gate : ℕ
  pub files : List NamedFile
  pub changes : List Change
  pub held : IsHeldTo disk gate files
  pub makes : Makes files (with_file files name bytes) changes
  pub begun : storage ≡ cut (first_storage disk gate) changes (with_file files name bytes)
  pub all : storage.next_committed ≡ length changes

-- how many writes are in flight and in the stages to come
abbrev pub writes_left : Storage → ℕ
writes_left storage = length storage.device.in_flight + length_all storage.stages
