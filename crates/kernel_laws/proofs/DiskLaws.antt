-- What the laws of the disk say. The lemmas here that rest on them have them as a premise, and the function whose proof is such
-- a lemma calls them.
use Rattle.std.proofs.Common.{ℕ, ◌≤◌, List, ◌++◌, length, take}
use Rattle.disk_model.specs.declared.change.Change.{Change}
use Rattle.disk_model.specs.declared.change.NamedFile.{NamedFile}
use Rattle.disk_model.specs.Crash.{IsCrashOf}
use Rattle.disk_model.specs.Files.{Follow, IsFormed, IsMade, MayCome, FilesHoldBytes, changed, files_after}
use Rattle.disk_model.specs.Held.{IsHeldTo, IsHeld}
use Rattle.disk_model.specs.Rebuild.{CanBeRebuilt}
use Rattle.disk_model.specs.Runs.{Move, IsOrderly, changes_in_moves, first_run, run_after}

-- the disk of any run has its group in order
abbrev pub OrderLaw : Type 0
OrderLaw = (disk : List ℕ) (gate : ℕ) (files : List NamedFile) (moves : List Move) → IsOrderly (run_after files (first_run disk gate) moves)

-- what a crash leaves, and what is so of files that possible changes made
pub record DiskLaws : Type 0 where
  pub crashes : (disk : List ℕ) (gate : ℕ) (files : List NamedFile) → IsHeldTo disk gate files
      → (moves : List Move) → Follow files (changes_in_moves moves)
      → (left : List ℕ) → IsCrashOf (run_after files (first_run disk gate) moves).storage.device left
      → (k : ℕ) × ((run_after files (first_run disk gate) moves).storage.committed ≤ k) × (k ≤ length (changes_in_moves moves))
      × IsHeld left (files_after files (take k (changes_in_moves moves)))
  pub made : (disk : List ℕ) (gate : ℕ) (files : List NamedFile) → IsHeldTo disk gate files → IsMade files
  pub change : (files : List NamedFile) (c : Change) → IsMade files → IsFormed c → MayCome files c → IsMade (changed files c)
  pub rebuilt : (files : List NamedFile) → IsMade files → CanBeRebuilt files
  pub bytes : (files : List NamedFile) → IsMade files → FilesHoldBytes files
  pub possible : (files : List NamedFile) (first after : List Change) → Follow files first → Follow (files_after files first) after → Follow files (first ++ after)
