-- Whole runs of a disk.
use Rattle.std.specs.Prelude.{◌≡◌, ℕ, ◌<◌, ◌≤◌, true, false, List, [], ◌∷◌, ◌++◌, length, drop, slice_index}
use Rattle.std.specs.List.{AllByRecursion}
use Rattle.disk_model.specs.declared.change.Change.{Change}
use Rattle.disk_model.specs.declared.change.NamedFile.{NamedFile}
use Rattle.disk_model.specs.Files.{files_after}
use Rattle.disk_model.specs.Held.{selected_half}
use Rattle.disk_model.specs.declared.change.Piece.{Piece}
use Rattle.disk_model.specs.Storage.{Device, Storage, is_empty, is_quiet, cut, completed, failed}

-- A run goes on by these: a change comes; a group is cut; the write that begins there is complete, or has failed.
pub data Move : Type 0 where
  Comes : (c : Change) → Move
  Cuts : Move
  Completes : (at : ℕ) → Move
  Fails : (at : ℕ) → Move

-- all changes so far, and the storage
pub record Run : Type 0 where
  pub changes : List Change
  pub storage : Storage

-- the device with this disk, nothing in flight and nothing failed
abbrev pub quiet : List ℕ → Device
quiet disk = record { disk = disk; in_flight = []; failed = [] }

-- the storage of a run from this disk, whose first gate that is not open is there
abbrev pub first_storage : List ℕ → ℕ → Storage
first_storage disk gate = record {
  device = quiet disk;
  stages = [];
  half = selected_half (slice_index disk 0);
  gate = gate;
  committed = 0;
  next_half = selected_half (slice_index disk 0);
  next_gate = gate;
  next_committed = 0;
}

-- a run from this disk, before any change
abbrev pub first_run : List ℕ → ℕ → Run
first_run disk gate = record { changes = []; storage = first_storage disk gate }

-- the run after a move; the files are those that the run began with
abbrev pub moved : List NamedFile → Run → Move → Run
moved files r (Comes c) = record r { changes = r.changes ++ c ∷ [] }
moved files r Cuts = record r { storage = cut r.storage (drop r.storage.committed r.changes) (files_after files r.changes) }
moved files r (Completes at) = record r { storage = completed r.storage at }
moved files r (Fails at) = record r { storage = failed r.storage at }

-- the run after these moves, the first of them first
abbrev pub run_after : List NamedFile → Run → List Move → Run
run_after files r [] = r
run_after files r (m ∷ ms) = run_after files (moved files r m) ms

-- the changes that come in these moves
abbrev pub changes_in_moves : List Move → List Change
changes_in_moves [] = []
changes_in_moves (Comes c ∷ ms) = c ∷ changes_in_moves ms
changes_in_moves (Cuts ∷ ms) = changes_in_moves ms
changes_in_moves (Completes at ∷ ms) = changes_in_moves ms
changes_in_moves (Fails at ∷ ms) = changes_in_moves ms

-- How the storage of a run stands, whatever its disk holds. At most all changes are committed, and no stage is without a piece.
-- With nothing in flight and nothing failed no stage is left to be submitted; else there is a group on its way, with which more
-- changes are committed, at most all.
pub record IsOrderly (r : Run) : Type 0 where
  pub among : r.storage.committed ≤ length r.changes
  pub pieces : AllByRecursion (λ (stage : List Piece). is_empty stage ≡ false) r.storage.stages
  pub none : is_quiet r.storage.device ≡ true → r.storage.stages ≡ []
  pub more : is_quiet r.storage.device ≡ false → r.storage.committed < r.storage.next_committed
  pub most : is_quiet r.storage.device ≡ false → r.storage.next_committed ≤ length r.changes
