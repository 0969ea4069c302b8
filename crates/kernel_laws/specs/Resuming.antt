-- Runs one after the other, each booted on the disk that a crash of the one before left.
use Rattle.std.specs.Prelude.{◌≡◌, ℕ, ◌≤◌, List, [], ◌∷◌, length, take}
use Rattle.disk_model.specs.declared.change.Change.{Change}
use Rattle.disk_model.specs.Files.{files_after}
use Rattle.disk_model.specs.Crash.{IsCrashOf}
use Rattle.kernel_model.specs.Answers.{committed}
use Rattle.kernel_model.specs.Bytes.{ProgramsHoldBytes, TapesHoldBytes}
use Rattle.kernel_model.specs.Paths.{changes_in_log}
use Rattle.kernel_model.specs.World.{World, Boot, HoldsItsFiles, run_of}
use Rattle.kernel_model.specs.declared.event.Event.{Event}

-- a boot whose runs survive crashes: its disk holds the files that it names, and the memory of each program and each tape hold
-- bytes
pub record IsSound (b : Boot) : Type 0 where
  pub held : HoldsItsFiles b
  pub programs : ProgramsHoldBytes b
  pub tapes : TapesHoldBytes b

-- a crash of the run that is here may leave this disk
abbrev pub MayLeave : World → List ℕ → Type 0
MayLeave w disk = IsCrashOf w.storage.device disk

-- these are the first changes of the run, and each committed change is among them
pub record IsPrefix (w : World) (kept : List Change) : Type 0 where
  pub first : kept ≡ take (length kept) (changes_in_log w.log)
  pub every_committed : committed w ≤ length kept

-- the next run begins with the files after a prefix of this run's changes, each committed one among them
pub record GoesOn (b : Boot) (w : World) (next : Boot) : Type 0 where
  pub kept : List Change
  pub prefix : IsPrefix w kept
  pub files : next.files ≡ files_after b.files kept

-- the events of a run that ended in a crash, and the boot of the run after it
pub record Crashed : Type 0 where
  pub events : List Event
  pub next : Boot

-- from this boot on, each of these runs ends in a crash, and the next one is booted on a disk that the crash may leave
abbrev pub AreRuns : Boot → List Crashed → Type 0
AreRuns b [] = IsSound b
AreRuns b (r ∷ rs) = IsSound b × MayLeave (run_of b r.events) r.next.disk × AreRuns r.next rs

-- the boot of the last run
abbrev pub last_boot : Boot → List Crashed → Boot
last_boot b [] = b
last_boot b (r ∷ rs) = last_boot r.next rs

-- for each run there is a prefix of its changes, each committed one among them
abbrev pub ArePrefixes : Boot → List Crashed → List (List Change) → Type 0
ArePrefixes b [] [] = Unit {0}
ArePrefixes b [] (kept ∷ prefixes) = ⊥
ArePrefixes b (r ∷ rs) [] = ⊥
ArePrefixes b (r ∷ rs) (kept ∷ prefixes) = IsPrefix (run_of b r.events) kept × ArePrefixes r.next rs prefixes
