-- What a running kernel's tasks stand for.
use Rattle.std.specs.Prelude.{◌≡◌, ℕ, ◌+◌, ◌≤◌, List, [], Option, Some, None, is_some, count_by, slice_get, slice_set}
use Rattle.machine_model.specs.States.{State, run}
use Rattle.machine_model.specs.declared.stop.Stop.{Stop}
use Rattle.kernel_model.specs.Shown.{end_in}
use Rattle.kernel_model.specs.State.{Process}
use Rattle.kernel_model.specs.Answers.{Lending}
use Rattle.held_output.specs.Withheld.{whats}
use Rattle.kernel_step.specs.Whereabouts.{state_in, quantum_in}
use Rattle.kernel_step.specs.declared.task.Task.{Task}
use Rattle.kernel_step.specs.declared.whereabouts.Whereabouts.TheVariants.{Here}

-- the state of its machine, or that with which it was lent
abbrev pub machine_of : Task → State
machine_of t = state_in t.whereabouts

-- the quantum of the loan on which it is out
abbrev pub out_of : Task → Option ℕ
out_of t = quantum_in t.whereabouts

-- the status with which its process has ended, if it has
abbrev pub status_of : Task → Option ℕ
status_of t = end_in (whats t.trace.items)

-- a process without what the table of processes alone keeps of it
abbrev pub bare : Process → Process
bare p = record { state = p.state; descriptors = []; children = []; status = p.status }

-- the process that a task is, without that
abbrev pub process_of : Task → Process
process_of t = record { state = machine_of t; descriptors = []; children = []; status = status_of t }

-- how a task stands with its loans
abbrev pub lending_of : Task → Lending
lending_of t = record { loans = t.loans; out = out_of t }

-- how many tasks are out on loan
abbrev pub count_out : List Task → ℕ
count_out tasks = count_by (λ (t : Task). is_some (out_of t)) tasks

-- how many loans of a process have come to no event yet
abbrev pub unsettled : Option ℕ → ℕ
unsettled None = 0
unsettled (Some quantum) = 1

-- each process had no more loans than there are events, but for the one that it is out on
pub record AreFewLoans (events : ℕ) (lendings : List Lending) : Type 0 where
  pub each : (place : ℕ) (l : Lending) → slice_get lendings place ≡ Some l → l.loans ≤ events + unsettled l.out

-- how many instructions a loan of this quantum may come to, the reply to a call among them
abbrev pub needed : Option ℕ → ℕ
needed None = 0
needed (Some quantum) = quantum + 1

-- the task at this place ran at most n instructions here, and came so far
pub record RanAt (old new : List Task) (place n count : ℕ) (stop : Stop) : Type 0 where
  pub task : Task
  pub there : slice_get old place ≡ Some task
  pub here : out_of task ≡ None
  pub after : new ≡ slice_set old place (record task { whereabouts = Here (run n (machine_of task)).state })
  pub counts : count ≡ (run n (machine_of task)).count
  pub stops : stop ≡ (run n (machine_of task)).stop
  pub within : (run n (machine_of task)).state.count ≤ (machine_of task).count + n
