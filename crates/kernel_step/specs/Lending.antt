-- Which process is lent next, and what a loan does to its task.
use Rattle.std.specs.Prelude.{◌≡◌, ℕ, ◌+◌, ◌-◌, ◌*◌, ◌^◌, ◌&&◌, not, nat_lt, nat_le, Bool, true, if◌then◌else◌, List, take, drop, Option, Some, None, is_some, position, slice_get, slice_set}
use Rattle.kernel_model.specs.declared.standing.Standing.{Standing}
use Rattle.kernel_model.specs.declared.standing.Standing.TheVariants as standing
use Rattle.kernel_step.specs.Tasks.{machine_of, out_of, status_of, count_out}
use Rattle.kernel_step.specs.Waiting.{is_asleep}
use Rattle.kernel_step.specs.declared.loan.Loan.{Loan}
use Rattle.kernel_step.specs.declared.task.Task.{Task}

-- a history of this length has no room for the two events of one more loan
abbrev pub full_for_loan_of : ℕ → List Task → Bool
full_for_loan_of events tasks = nat_lt (2 ^ 40 - 2) (events + 2 * count_out tasks)

-- the task has not ended, is not out, has room for a quantum and one more instruction, and does not wait, where so many Enters
-- were served
abbrev pub is_fit : ℕ → ℕ → Task → Bool
is_fit quantum served t =
    not (is_some (status_of t)) && not (is_some (out_of t)) && nat_le ((machine_of t).count + quantum + 1) (2 ^ 40)
    && not (is_asleep served t.waited)

-- how the process of a task stands, where so many Enters were served
abbrev pub standing_in : ℕ → Task → Standing
standing_in served t =
    if is_some (status_of t) then standing.Ended
    else if is_some (out_of t) then standing.Lent
    else if is_asleep served t.waited then standing.Waits
    else standing.Free

-- a place that is found from `from` on, counted from there, or else one that is found before it
abbrev pub place_among : ℕ → Option ℕ → Option ℕ → Option ℕ
place_among from (Some place) before = Some (from + place)
place_among from None before = before

-- the place of the first task after so many that fits, and round again
abbrev pub next_fit : ℕ → ℕ → ℕ → List Task → Option ℕ
next_fit quantum served from tasks = place_among from (position (is_fit quantum served) (drop from tasks)) (position (is_fit quantum served) (take from tasks))

-- the task once it is lent for a quantum, from the state that it keeps
pub record IsLent (quantum : ℕ) (old new : Task) : Type 0 where
  pub pid : new.pid ≡ old.pid
  pub machine : machine_of new ≡ machine_of old
  pub trace : new.trace ≡ old.trace
  pub waited : new.waited ≡ old.waited
  pub loans : new.loans ≡ old.loans + 1
  pub out : out_of new ≡ Some quantum

-- the loan is the next one of this task, for a quantum
pub record IsNextLoanOf (n : ℕ) (t : Task) (loan : Loan) : Type 0 where
  pub process : loan.pid ≡ t.pid
  pub number : loan.number ≡ t.loans + 1
  pub quantum : loan.quantum ≡ n
  pub began : loan.began.value ≡ machine_of t

-- the task at this place fits
pub record IsFitAt (quantum served : ℕ) (tasks : List Task) (place : ℕ) : Type 0 where
  pub task : Task
  pub there : slice_get tasks place ≡ Some task
  pub fit : is_fit quantum served task ≡ true

-- the task at this place, which fits, was lent
pub record Lent (quantum served place : ℕ) (old new : List Task) (loan : Loan) : Type 0 where
  pub at : IsFitAt quantum served old place
  pub given : IsNextLoanOf quantum at.task loan
  pub later : Task
  pub lent : IsLent quantum at.task later
  pub after : new ≡ slice_set old place later
