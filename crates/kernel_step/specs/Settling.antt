-- What a loan's result does to the parts of a running kernel.
use Rattle.std.specs.Prelude.{◌≡◌, ℕ, ◌+◌, ◌^◌, ◌<◌, List, [], ◌∷◌, ◌++◌, length, Option, Some, None, option_to_list, slice_get, slice_set}
use Rattle.machine_model.specs.States.{State}
use Rattle.commit_deps.specs.Kept.{Marked}
use Rattle.kernel_model.specs.declared.answer.Answer.{Answer}
use Rattle.kernel_model.specs.declared.answer.Answer.TheVariants as answer_of
use Rattle.kernel_model.specs.declared.answer.Outcome.{Outcome}
use Rattle.kernel_model.specs.declared.answer.Refused.TheVariants.{OutOfMemory}
use Rattle.kernel_model.specs.declared.event.Event.TheVariants.{Turn, Enter}
use Rattle.held_output.specs.Withheld.{IsSame}
use Rattle.kernel_step.specs.Entering.{IsSameTask, IsSameSystem, IsDone}
use Rattle.kernel_step.specs.Parts.{IsOwnNoted}
use Rattle.kernel_step.specs.Ready.{MayEnter}
use Rattle.kernel_step.specs.Tasks.{machine_of, out_of}
use Rattle.kernel_step.specs.declared.loan.Done.{Done}
use Rattle.kernel_step.specs.declared.loan.Rejected.{Rejected}
use Rattle.kernel_step.specs.declared.running.Running.{Running}
use Rattle.kernel_step.specs.declared.system.System.{System}
use Rattle.kernel_step.specs.declared.task.Task.{Task}

-- the result is of the loan that the task is out on
pub record IsLoanOf (t : Task) (d : Done) : Type 0 where
  pub out : out_of t ≡ Some d.quantum
  pub number : t.loans ≡ d.number
  pub began : machine_of t ≡ d.began.value

-- the task once it is back with this machine, though there may be room for more
pub record IsBack (m : State) (old new : Task) : Type 0 where
  pub pid : new.pid ≡ old.pid
  pub machine : machine_of new ≡ m
  pub trace : IsSame old.trace new.trace
  pub waited : new.waited ≡ old.waited
  pub loans : new.loans ≡ old.loans
  pub out : out_of new ≡ None

-- nothing else of what is shared has changed but the marks
pub record IsTurnNoted (pid : ℕ) (old new : System) : Type 0 where
  pub noted : IsOwnNoted pid old.dependencies.marks new.dependencies.marks
  pub footprints : new.footprints.footprints ≡ old.footprints.footprints
  pub changes : new.changes.items ≡ old.changes.items
  pub files : new.files ≡ old.files
  pub tapes : new.tapes ≡ old.tapes
  pub pipes : new.pipes ≡ old.pipes
  pub parts : new.processes.parts ≡ old.processes.parts
  pub served : new.served ≡ old.served
  pub screens : new.screens.items ≡ old.screens.items
  pub committer : new.committer ≡ old.committer

-- a result of the process at this place may become a Turn: the place is there, a loan is out, and there is room to count its
-- instructions
pub record MaySettleTurn (place : ℕ) (r : Running) : Type 0 where
  pub within : place < length r.tasks.items
  pub some : 0 < r.out
  pub few : r.ran < 2 ^ 63

-- a result became a Turn: the task at this place is back, and one loan fewer is out; the Turn is noted and joined the history, and
-- its instructions are counted
pub record IsTurnSettled (d : Done) (place : ℕ) (old new : Running) (a : Answer) : Type 0 where
  pub task : Task
  pub there : slice_get old.tasks.items place ≡ Some task
  pub after : Task
  pub back : IsBack d.machine task after
  pub tasks : new.tasks.items ≡ slice_set old.tasks.items place after
  pub system : IsTurnNoted d.pid old.system new.system
  pub history : new.history.items ≡ old.history.items ++ Turn d.pid d.count ∷ []
  pub ran : new.ran ≡ old.ran + d.count
  pub out : new.out + 1 ≡ old.out
  pub last_lent : new.last_lent ≡ old.last_lent
  pub answer : a ≡ answer_of.Settled d.count d.stop None

-- what is shared, with these marks
abbrev pub marked_with : System → List Marked → System
marked_with s marks = record s { dependencies = record { marks = marks; room = 0 } }

-- a Turn of process pid and its Enter are done, whose machine came here, and which made this child, if it made one
pub record IsTurnEntered (pid : ℕ) (m : State) (old new : Task) (before later : System) (outcome : Outcome) (child : Option Task) : Type 0 where
  pub middle : Task
  pub back : IsBack m old middle
  pub marks : List Marked
  pub turn : IsOwnNoted pid before.dependencies.marks marks
  pub entered : IsDone pid middle new (marked_with before marks) later outcome child

-- a result of the process at this place may become a Turn and an Enter: the process may enter by its machine, a loan is out, and
-- there is room to count its instructions
pub record MaySettleCall (d : Done) (place : ℕ) (r : Running) : Type 0 where
  pub within : place < length r.tasks.items
  pub fine : (t : Task) → slice_get r.tasks.items place ≡ Some t → MayEnter r.system d.pid d.machine t.trace
  pub some : 0 < r.out
  pub few : r.ran < 2 ^ 63

-- a result became a Turn and an Enter of the task at this place, which joined the history; its instructions are counted, one loan
-- fewer is out, and a child that it made comes after all tasks
pub record IsCallSettled (d : Done) (place : ℕ) (old new : Running) (a : Answer) : Type 0 where
  pub task : Task
  pub there : slice_get old.tasks.items place ≡ Some task
  pub after : Task
  pub child : Option Task
  pub outcome : Outcome
  pub entered : IsTurnEntered d.pid d.machine task after old.system new.system outcome child
  pub tasks : new.tasks.items ≡ slice_set old.tasks.items place after ++ option_to_list child
  pub history : new.history.items ≡ old.history.items ++ Turn d.pid d.count ∷ Enter d.pid ∷ []
  pub ran : new.ran ≡ old.ran + d.count
  pub out : new.out + 1 ≡ old.out
  pub last_lent : new.last_lent ≡ old.last_lent
  pub answer : a ≡ answer_of.Settled d.count d.stop (Some outcome)

-- a result was not taken back, and nothing has changed, though there may be room for more, also with the task at this place
pub record IsNotSettled (place : ℕ) (old new : Running) : Type 0 where
  pub task : Task
  pub there : slice_get old.tasks.items place ≡ Some task
  pub after : Task
  pub same : IsSameTask task after
  pub tasks : new.tasks.items ≡ slice_set old.tasks.items place after
  pub system : IsSameSystem old.system new.system
  pub history : new.history.items ≡ old.history.items
  pub ran : new.ran ≡ old.ran
  pub out : new.out ≡ old.out
  pub last_lent : new.last_lent ≡ old.last_lent

-- memory ran out, and the result is handed back
pub record LackedMemory (d : Done) (r : Rejected) : Type 0 where
  pub cause : r.why ≡ OutOfMemory
  pub back : r.done ≡ d
