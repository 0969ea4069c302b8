-- The changes of a checkpoint, which make the files from nothing.
use Rattle.std.specs.Prelude.{◌≡◌, ℕ, zero, suc, ◌+◌, ◌<◌, ◌≤◌, Bool, List, [], ◌∷◌, ◌++◌, length, take, drop}
use Rattle.std.specs.List.{AllByRecursion}
use Rattle.disk_model.specs.declared.change.Change.{Change}
use Rattle.disk_model.specs.declared.change.Change.TheVariants.{Create, Write}
use Rattle.disk_model.specs.declared.change.NamedFile.{NamedFile}
use Rattle.disk_model.specs.Files.{Follow, files_after}
use Rattle.disk_model.specs.Limits.{most_files, longest_file, longest_file_write}
use Rattle.disk_model.specs.Spelling.{gate_after}
use Rattle.disk_model.specs.Held.{start_of, end_of}

-- writes of `size` bytes, the last shorter, of the file at this place from an offset on; the first argument is at least the length
abbrev pub writes_from : ℕ → ℕ → ℕ → ℕ → List ℕ → List Change
writes_from zero size place offset bytes = []
writes_from (suc n) size place offset [] = []
writes_from (suc n) size place offset (b ∷ bytes) = Write place offset (take size (b ∷ bytes)) ∷ writes_from n size place (offset + size) (drop size (b ∷ bytes))

-- the changes that make the file at this place: its creation, and writes of the most bytes, the last shorter
unfoldable pub changes_making : ℕ → NamedFile → List Change
changes_making place file = Create file.name ∷ writes_from (length file.bytes) longest_file_write place 0 file.bytes

-- the changes that make these files, the first of them at this place
abbrev pub rebuild_from : ℕ → List NamedFile → List Change
rebuild_from place [] = []
rebuild_from place (file ∷ files) = changes_making place file ++ rebuild_from (place + 1) files

-- the changes that make all files
unfoldable pub rebuild : List NamedFile → List Change
rebuild files = rebuild_from 0 files

-- a checkpoint of these files is possible: they are within their limits, its changes make them again, and its record fits into
-- either half
pub record CanBeRebuilt (files : List NamedFile) : Type 0 where
  pub few : length files ≤ most_files
  pub short : AllByRecursion (λ (f : NamedFile). length f.bytes ≤ longest_file) files
  pub possible : Follow [] (rebuild files)
  pub makes : files_after [] (rebuild files) ≡ files
  pub fits : (half : Bool) → gate_after (start_of half) (rebuild files) < end_of half
