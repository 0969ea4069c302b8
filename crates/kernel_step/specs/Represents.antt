-- What the parts of a running kernel stand for.
use Rattle.std.specs.Prelude.{◌≡◌, ℕ, ◌+◌, ◌*◌, ◌^◌, ◌≤◌, List, length, map, Result}
use Rattle.footprints.specs.Footprints.{AreFootprints}
use Rattle.kernel_model.specs.World.{Boot, run_of}
use Rattle.kernel_model.specs.Answers.{Kernel, Applies}
use Rattle.kernel_model.specs.declared.answer.Answer.{Answer}
use Rattle.kernel_model.specs.declared.answer.Refused.{Refused}
use Rattle.kernel_model.specs.declared.event.Event.{Event}
use Rattle.kernel_step.specs.Counted.{IsCounted}
use Rattle.kernel_step.specs.Loaned.{Settles}
use Rattle.kernel_step.specs.Mirrors.{Mirrors}
use Rattle.kernel_step.specs.Tasks.{lending_of, count_out, AreFewLoans}
use Rattle.kernel_step.specs.declared.loan.Done.{Done}
use Rattle.kernel_step.specs.declared.loan.Rejected.{Rejected}
use Rattle.kernel_step.specs.declared.running.Running.{Running}
use Rattle.kernel_step.specs.declared.system.System.{System}
use Rattle.kernel_step.specs.declared.task.Task.{Task}

-- what a kernel with this history and these tasks is to its callers
abbrev pub kernel_of : Boot → List Event → List Task → ℕ → Kernel
kernel_of b history tasks last_lent = record { boot = b; history = history; lendings = map lending_of tasks; last_lent = last_lent }

-- the same of its parts
abbrev pub kernel_in : Boot → Running → Kernel
kernel_in b r = kernel_of b r.history.items r.tasks.items r.last_lent

-- the parts keep what the run says, the footprints of its Enters among it; the history has room for two events of each loan that is
-- out, and each loan that is back has come to an event
pub record KeepsRun (b : Boot) (history : List Event) (tasks : List Task) (system : System) : Type 0 where
  pub mirrors : Mirrors (run_of b history) tasks system
  pub footprints : AreFootprints history (run_of b history).log system.footprints.footprints
  pub room : length history + 2 * count_out tasks ≤ 2 ^ 40
  pub loans : AreFewLoans (length history) (map lending_of tasks)

-- the parts are those of the run that was booted from this, and count its instructions and the tasks that are out on loan
pub record Represents (b : Boot) (r : Running) : Type 0 where
  pub parts : KeepsRun b r.history.items r.tasks.items r.system
  pub counted : IsCounted b r.history.items r.ran
  pub out : r.out ≡ count_out r.tasks.items

-- After an event the parts stand for the run with it, and the answer is its own; where it is refused, nothing has changed.
pub record Steps (b : Boot) (e : Event) (old new : Running) (result : Result Answer Refused) : Type 0 where
  pub stands : Represents b new
  pub applies : Applies (kernel_in b old) e (kernel_in b new) result

-- After a loan's result is taken back the parts stand for the run with its events; where it is refused, nothing has changed.
pub record TakesBack (b : Boot) (done : Done) (old new : Running) (result : Result Answer Rejected) : Type 0 where
  pub stands : Represents b new
  pub settles : Settles (kernel_in b old) done (kernel_in b new) result
