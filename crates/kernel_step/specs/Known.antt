-- What is known of a loan without a look at its machine.
use Rattle.std.specs.Prelude.{◌≡◌, ◌≤◌, ℕ, true, Some, option_map}
use Rattle.machine_model.specs.States.{State}
use Rattle.kernel_model.specs.Answers.{Kernel, is_lent, process_of}
use Rattle.kernel_model.specs.Loans.{loan_count}
use Rattle.kernel_model.specs.State.{Process}
use Rattle.kernel_step.specs.Tasks.{machine_of, out_of}
use Rattle.kernel_step.specs.declared.loan.Done.{Done}
use Rattle.kernel_step.specs.declared.task.Task.{Task}

-- What is known of loan n of process p, which began from state s: there were at least as many loans of the process, and where it
-- is out on this one, the state that is kept of it is s.
pub record IsKnownLoan (k : Kernel) (p n : ℕ) (s : State) : Type 0 where
  pub given : n ≤ loan_count k p
  pub began : is_lent k p ≡ true → loan_count k p ≡ n → option_map (λ (x : Process). x.state) (process_of k p) ≡ Some s

-- the same of a result's loan
abbrev pub IsKnownResult : Kernel → Done → Type 0
IsKnownResult k d = IsKnownLoan k d.pid d.number d.began.value

-- where the numbers agree, the result is of the loan that the task is out on
abbrev pub MayBeLoanOf : Task → Done → Type 0
MayBeLoanOf t d = out_of t ≡ Some d.quantum → t.loans ≡ d.number → machine_of t ≡ d.began.value
