-- Which loan it is: of what is lent, and of its result.
use Rattle.std.specs.Prelude.{ℕ}
use Rattle.kernel_step.specs.declared.loan.Loan.{Loan}
use Rattle.kernel_step.specs.declared.loan.Done.{Done}
use Rattle.bursts.specs.declared.loan_id.LoanId.{LoanId}

abbrev pub loan_id : ℕ → ℕ → ℕ → LoanId
loan_id pid number quantum = record { pid = pid; number = number; quantum = quantum }

abbrev pub id_of_loan : Loan → LoanId
id_of_loan l = loan_id l.pid l.number l.quantum

abbrev pub id_of_result : Done → LoanId
id_of_result d = loan_id d.pid d.number d.quantum
