-- What is known of the loans of a log.
use Rattle.std.proofs.Common.{◌≡◌, ◌∙◌, ℕ, List, [], ◌∷◌, ◌++◌, Option, None, Some, option_map, refl, sym, ap, subst}
use Rattle.std.specs.Prelude.{IfSome, IfNone, IsSomeAnd}
use Rattle.machine_model.specs.States.{State}
use Rattle.kernel_model.specs.Loans.{LoanOut}
use Rattle.kernel_step.specs.Loaned.{loan_out}
use Rattle.kernel_step.specs.declared.loan.Loan.{Loan}
use mathlib.Core.List.{IsPrefix}
use Rattle.kernel_model.specs.Answers.{Kernel}
use Rattle.kernel_step.specs.Known.{IsKnownLoan}
use Rattle.kernel.specs.Known.{StaysKnown}
use Rattle.bursts.specs.declared.ticket.LentLoan.{LentLoan}
use Rattle.bursts.specs.Tickets.{AreKnown, IsTicketOf, lent_loan, last_of}

pub known_stay : (old new : Kernel) → StaysKnown old new → (ls : List LentLoan) → AreKnown old ls → AreKnown new ls
known_stay old new stays [] h = tt
known_stay old new stays (l ∷ ls) h = (stays l.pid l.number l.began h.0, known_stay old new stays ls h.1)

-- one loan more
pub known_more : (k : Kernel) (ls : List LentLoan) (l : LentLoan) → AreKnown k ls → IsKnownLoan k l.pid l.number l.began → AreKnown k (ls ++ l ∷ [])
known_more k [] l h is = (is, tt)
known_more k (x ∷ xs) l h is = (h.0, known_more k xs l h.1 is)

pub last_more : (ls : List LentLoan) (l : LentLoan) → last_of (ls ++ l ∷ []) ≡ Some l
last_more [] l = refl
last_more (x ∷ []) l = refl
last_more (x ∷ y ∷ ys) l = last_more (y ∷ ys) l

known_in : (k : Kernel) (log rest : List LentLoan) (l : LentLoan) → last_of log ≡ Some l → AreKnown k (log ++ rest) → IsKnownLoan k l.pid l.number l.began
known_in k [] rest l is h = absurd (let no : ⊥ = cc in no)
known_in k (x ∷ []) rest l is h = subst (λ (y : LentLoan). IsKnownLoan k y.pid y.number y.began) (let same : x ≡ l = cc in same) h.0
known_in k (x ∷ y ∷ ys) rest l is h = known_in k (y ∷ ys) rest l is h.1

-- the loan of a ticket is among those of a log that begins as it shows
pub known_last : (k : Kernel) (log all : List LentLoan) (l : LentLoan) → last_of log ≡ Some l → IsPrefix log all → AreKnown k all → IsKnownLoan k l.pid l.number l.began
known_last k log all l is pre h = known_in k log pre.0 l is (subst (λ (ls : List LentLoan). AreKnown k ls) (sym pre.1) h)

-- ---- a loan that is given
pub given_one : (k : Kernel) (o : Option Loan) (l : Loan) → o ≡ Some l → IfSome (option_map loan_out o) (λ (x : LoanOut). IsKnownLoan k x.process x.number x.began)
    → IsKnownLoan k l.pid l.number l.began.value
given_one k o l is h = subst (λ (o : Option Loan). IfSome (option_map loan_out o) (λ (x : LoanOut). IsKnownLoan k x.process x.number x.began)) is h

pub ticket_of : (old new : List LentLoan) (l : LentLoan) (o : Option (List LentLoan)) → IfSome o (λ r. (new ≡ old ++ l ∷ []) × (r ≡ new)) → IfSome o (λ r. last_of r ≡ Some l)
ticket_of old new l None h = tt
ticket_of old new l (Some r) h = ap last_of (h.1 ∙ h.0) ∙ last_more old l

pub noted_known : (k : Kernel) (old new : List LentLoan) (l : LentLoan) (o : Option (List LentLoan)) → IfSome o (λ r. (new ≡ old ++ l ∷ []) × (r ≡ new)) → IfNone o (new ≡ old)
    → AreKnown k old → IsKnownLoan k l.pid l.number l.began → AreKnown k new
noted_known k old new l None some none h is = subst (λ (ls : List LentLoan). AreKnown k ls) (sym none) h
noted_known k old new l (Some r) some none h is = subst (λ (ls : List LentLoan). AreKnown k ls) (sym some.0) (known_more k old l h is)

-- ---- a result with a ticket
pub known_by : (k : Kernel) (log : List LentLoan) (o : Option (List LentLoan)) (p n : ℕ) (s : State) → IfSome o (λ r. IsTicketOf p n s r) → IsSomeAnd o (λ r. IsPrefix r log)
    → AreKnown k log → IsKnownLoan k p n s
known_by k log None p n s of pre h = absurd pre
known_by k log (Some r) p n s of pre h = known_last k r log (lent_loan p n s) of pre h
