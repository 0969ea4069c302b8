-- A loan's result is taken back, and its process goes on.
use Rattle.std.specs.Prelude.{◌≡◌, ◌+◌, ◌<◌, [], ◌∷◌, Option, Result, Ok, Err, MatchOption, MatchResult}
use Rattle.kernel_model.specs.Answers.{Kernel}
use Rattle.kernel_model.specs.Loans.{LoanOut, settled}
use Rattle.kernel_model.specs.declared.answer.Answer.{Answer}
use Rattle.kernel_step.specs.Loaned.{Settles, LendsTo, loan_out, loan_result}
use Rattle.kernel_step.specs.declared.loan.Done.{Done}
use Rattle.kernel_step.specs.declared.loan.Loan.{Loan}
use Rattle.kernel_step.specs.declared.loan.Rejected.{Rejected}
use Rattle.bursts.specs.Holdings.{Holding, grown, lent_to}
use Rattle.bursts.specs.LoanIds.{id_of_loan}
use Rattle.bursts.specs.Totals.{settled_totals}

-- once its result is taken back a process is lent again, for what is left of the quantum
pub record KeepsOn (old : Kernel) (done : Done) (new : Kernel) (loan : LoanOut) : Type 0 where
  pub process : loan.process ≡ done.pid
  pub left : loan.quantum + done.count ≡ done.quantum
  pub some : 0 < loan.quantum
  pub lends : LendsTo old loan.quantum new loan

-- A result is taken back or refused, and where it is taken back its process may be lent again.
abbrev pub GoesOn : Kernel → Done → Kernel → Result (Answer × Option Loan) Rejected → Type 0
GoesOn old done new result = MatchResult result
    (λ r. MatchOption r.1
    (Settles old done new (Ok r.0))
    (λ loan. Settles old done (settled old (loan_result done)) (Ok r.0) × KeepsOn (settled old (loan_result done)) done new (loan_out loan)))
    (λ rejected. Settles old done new (Err rejected))

-- the share grows by what the result adds, and by the loan that was given
abbrev pub GrowsByGoing : Done → Holding → Holding → Result (Answer × Option Loan) Rejected → Type 0
GrowsByGoing done old new result = MatchResult result
    (λ r. MatchOption r.1
    (new ≡ grown old (settled_totals done.pid r.0))
    (λ loan. new ≡ lent_to (grown old (settled_totals done.pid r.0)) (id_of_loan loan ∷ [])))
    (λ _. new ≡ old)
