-- The refusals of a process's events, by its task.
use Rattle.std.specs.Prelude.{◌≡◌, ℕ, ◌+◌, ◌*◌, ◌^◌, ◌<◌, nat_le, Bool, List, length, map, slice_get, Option, Some, is_some}
use Rattle.kernel_model.specs.declared.answer.Refused.{Refused}
use Rattle.kernel_model.specs.State.{process_at}
use Rattle.kernel_model.specs.Answers.{lending_at, quantum_out, turn_refusal, enter_refusal}
use Rattle.kernel_step.specs.Tasks.{process_of, lending_of, count_out}
use Rattle.kernel_step.specs.declared.task.Task.{Task}

-- a history of this length has no room for one more event, with two kept for each loan that is out
abbrev pub full_of : ℕ → List Task → Bool
full_of events tasks = nat_le (2 ^ 40) (events + 2 * count_out tasks)

-- the process of this number is out on loan
abbrev pub lent_of : List Task → ℕ → Bool
lent_of tasks pid = is_some (quantum_out (lending_at (map lending_of tasks) pid))

-- why a Turn is refused
abbrev pub turn_refusal_of : List Task → Bool → ℕ → ℕ → Option Refused
turn_refusal_of tasks full pid n = turn_refusal (process_at (map process_of tasks) pid) (lent_of tasks pid) full n

-- why an Enter is refused
abbrev pub enter_refusal_of : List Task → Bool → ℕ → Option Refused
enter_refusal_of tasks full pid = enter_refusal (process_at (map process_of tasks) pid) (lent_of tasks pid) full

-- the task of a process stands at this place
pub record IsPlaceOf (tasks : List Task) (pid place : ℕ) : Type 0 where
  pub number : pid ≡ place + 1
  pub there : place < length tasks

-- this is the task of a process
pub record IsTaskOf (tasks : List Task) (pid : ℕ) (t : Task) : Type 0 where
  pub place : ℕ
  pub placed : IsPlaceOf tasks pid place
  pub there : slice_get tasks place ≡ Some t
