-- What loans and their results stand for.
use Rattle.std.specs.Prelude.{◌+◌, ◌≡◌, ◌≢◌, ℕ, true, Option, Some, None, Result, Ok, Err, IfOk, IfErr, OnOk, OnErr, MatchOption, option_map}
use Rattle.machine_model.specs.States.{reached_at}
use Rattle.kernel_model.specs.Answers.{Kernel, AllAccepted, process_of}
use Rattle.kernel_model.specs.Loans.{LoanOut, LoanResult, IsOfLoan, is_lendable, loan_count, loan_refusal, with_loan, returned, events_of, settled, settled_answer}
use Rattle.kernel_model.specs.Ran.{ran_by_turns}
use Rattle.kernel_model.specs.State.{Process}
use Rattle.kernel_model.specs.declared.answer.Answer.{Answer}
use Rattle.kernel_model.specs.declared.answer.Refused.{Refused}
use Rattle.kernel_model.specs.declared.answer.Refused.TheVariants.{Stranger, OutOfMemory}
use Rattle.kernel_step.specs.declared.loan.Loan.{Loan}
use Rattle.kernel_step.specs.declared.loan.Done.{Done}
use Rattle.kernel_step.specs.declared.loan.Rejected.{Rejected}

-- a loan as it is handed out
abbrev pub loan_out : Loan → LoanOut
loan_out l = record { process = l.pid; number = l.number; quantum = l.quantum; began = l.began.value; machine = l.machine }

-- what was lent, or why nothing was
abbrev pub lent_out : Result (Option Loan) Refused → Result (Option LoanOut) Refused
lent_out (Ok given) = Ok (option_map loan_out given)
lent_out (Err why) = Err why

-- a loan's result as it is handed in
abbrev pub loan_result : Done → LoanResult
loan_result d = record { process = d.pid; number = d.number; quantum = d.quantum; began = d.began.value; reached = reached_at d.count d.machine d.stop }

-- A loan's result is taken back where it is of the loan that its process is out on, and becomes its events, all of them accepted;
-- where it is refused, nothing has changed, and it is handed back.
pub record Settles (old : Kernel) (done : Done) (new : Kernel) (result : Result Answer Rejected) : Type 0 where
  pub own : OnOk result (IsOfLoan old (loan_result done))
  pub fine : OnOk result (AllAccepted (returned old done.pid) (events_of (loan_result done)))
  pub events : OnOk result (new ≡ settled old (loan_result done))
  pub answer : IfOk result (λ a. a ≡ settled_answer old (loan_result done))
  pub ran : OnOk result (ran_by_turns new ≡ ran_by_turns old + done.count)
  pub stranger : IfErr result (λ r. r.why ≡ Stranger → ¬ (IsOfLoan old (loan_result done)))
  pub own_only : IfErr result (λ r. r.why ≢ Stranger → (r.why ≡ OutOfMemory) × IsOfLoan old (loan_result done))
  pub back : IfErr result (λ r. r.done ≡ done)
  pub err : OnErr result (new ≡ old)

-- the loan is the next one of its process, which is lendable, of its state as it now stands
pub record LendsTo (old : Kernel) (quantum : ℕ) (new : Kernel) (loan : LoanOut) : Type 0 where
  pub room : loan_refusal old ≡ None
  pub lendable : is_lendable old quantum loan.process ≡ true
  pub number : loan.number ≡ loan_count old loan.process + 1
  pub asked : loan.quantum ≡ quantum
  pub began : option_map (λ (p : Process). p.state) (process_of old loan.process) ≡ Some loan.began
  pub machine : loan.machine ≡ loan.began
  pub noted : new ≡ with_loan old loan.process quantum

-- process p is lent again, where it is lendable; or nothing has changed
abbrev pub LendsAgain : Kernel → ℕ → ℕ → Kernel → Option LoanOut → Type 0
LendsAgain old p quantum new given = MatchOption given (new ≡ old) (λ loan. (loan.process ≡ p) × LendsTo old quantum new loan)
