-- What the parts of a running kernel keep of the run.
use Rattle.std.specs.Prelude.{◌≡◌, ℕ, ◌+◌, ◌*◌, ◌^◌, ◌≤◌, true, List, length, map, slice_get, Some, None, is_some, IfSome}
use Rattle.std.specs.List.{AllByRecursion}
use Rattle.disk_model.specs.Files.{IsFormed, IsMade}
use Rattle.commit_deps.specs.Keeps.{Keeps}
use Rattle.disk_model.specs.Limits.{most_files}
use Rattle.pipes.specs.Seen.{Seen, Shows}
use Rattle.pipes.specs.Stepping.{HasAtMost}
use Rattle.processes.specs.Parts.{part_of}
use Rattle.kernel_model.specs.Paths.{changes_in_log}
use Rattle.kernel_model.specs.Loans.{is_waiting}
use Rattle.kernel_model.specs.Shown.{told}
use Rattle.kernel_model.specs.World.{World}
use Rattle.kernel_step.specs.Seen.{AreScreens, Withholds}
use Rattle.kernel_step.specs.Tasks.{machine_of, out_of, status_of, process_of, bare, needed}
use Rattle.kernel_step.specs.Waiting.{is_asleep}
use Rattle.kernel_step.specs.declared.system.System.{System}
use Rattle.kernel_step.specs.declared.task.Task.{Task}

-- the task at this place keeps what the run says of its process, where so many Enters were served
pub record IsTask (w : World) (served place : ℕ) (t : Task) : Type 0 where
  pub number : t.pid ≡ place + 1
  pub trace : Withholds w.storage.committed (told (place + 1) w.log) t.trace
  pub budget : (machine_of t).count + needed (out_of t) ≤ 2 ^ 40
  pub waits : is_waiting (place + 1) w.log ≡ is_asleep served t.waited
  pub since : IfSome t.waited (λ before. before ≤ served)
  pub running : is_some (out_of t) ≡ true → status_of t ≡ None

-- so do all tasks
pub record AreTasks (w : World) (served : ℕ) (tasks : List Task) : Type 0 where
  pub processes : map process_of tasks ≡ map bare w.sync.processes
  pub each : (place : ℕ) (t : Task) → slice_get tasks place ≡ Some t → IsTask w served place t

-- the changes are those of the log, and each can be spelled; the files are those of the run, and possible changes make them; at
-- most 32 were there at first, and each event made at most one more
pub record AreChanges (w : World) (system : System) : Type 0 where
  pub changes : system.changes.items ≡ changes_in_log w.log
  pub formed : AllByRecursion IsFormed (changes_in_log w.log)
  pub files : system.files ≡ w.sync.files
  pub made : IsMade w.sync.files.living
  pub fresh : w.sync.files.made ≤ most_files + length w.log

-- the pipes are those of the run, and each event added no more than 16 descriptors to an end
pub record ArePipes (w : World) (seen : List Seen) : Type 0 where
  pub shown : Shows w.sync.pipes seen
  pub few : AllByRecursion (HasAtMost (16 * length w.log)) w.sync.pipes

-- all parts keep what the run says; the table of processes has the parts of the run's processes
pub record Mirrors (w : World) (tasks : List Task) (system : System) : Type 0 where
  pub each : AreTasks w system.served tasks
  pub changes : AreChanges w system
  pub tapes : system.tapes ≡ w.sync.tapes
  pub parts : system.processes.parts ≡ map part_of w.sync.processes
  pub pipes : ArePipes w system.pipes
  pub counted : system.served ≤ length w.log
  pub kept : Keeps w.log system.dependencies.marks
  pub screens : AreScreens w.storage.committed w.log system.screens.items
  pub committer : system.committer ≡ w.storage
