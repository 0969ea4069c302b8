-- What a whole run promises of its files if it ends in a crash.
use Rattle.std.specs.Prelude.{ℕ, ◌≤◌, List, length, take}
use Rattle.disk_model.specs.Files.{files_after}
use Rattle.disk_model.specs.Held.{IsHeld}
use Rattle.disk_model.specs.Crash.{IsCrashOf}
use Rattle.kernel_model.specs.Paths.{changes_in_log}
use Rattle.kernel_model.specs.World.{World, Boot}
use Rattle.kernel_model.specs.Answers.{committed}

-- The disk holds the files that a prefix of the run's changes made of the boot's, and each committed change is in that prefix.
pub record HoldsPrefix (b : Boot) (w : World) (disk : List ℕ) : Type 0 where
  pub count : ℕ
  pub every_committed : committed w ≤ count
  pub among : count ≤ length (changes_in_log w.log)
  pub held : IsHeld disk (files_after b.files (take count (changes_in_log w.log)))

-- If the run ends here in a crash, then whatever disk the crash leaves holds the files after such a prefix. A moment is between
-- events: within an event at most one completion comes first, and then submissions follow, so that each disk in between is one
-- that a crash after the event may leave, by the law `disk_model::moves_leave_no_other_disks`.
abbrev pub SurvivesCrash : Boot → World → Type 0
SurvivesCrash b w = (left : List ℕ) → IsCrashOf w.storage.device left → HoldsPrefix b w left
