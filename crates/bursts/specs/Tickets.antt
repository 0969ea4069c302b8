-- What a bench knows of the loans that it gave.
use Rattle.std.specs.Prelude.{◌≡◌, ℕ, List, [], ◌∷◌, Option, Some, None}
use Rattle.machine_model.specs.States.{State}
use Rattle.kernel_model.specs.Answers.{Kernel}
use Rattle.kernel_step.specs.Known.{IsKnownLoan}
use Rattle.bursts.specs.declared.ticket.LentLoan.{LentLoan}

abbrev pub lent_loan : ℕ → ℕ → State → LentLoan
lent_loan pid number began = record { pid = pid; number = number; began = began }

-- each of these loans is known at a core
abbrev pub AreKnown : Kernel → List LentLoan → Type 0
AreKnown k [] = Unit {0}
AreKnown k (l ∷ ls) = IsKnownLoan k l.pid l.number l.began × AreKnown k ls

-- the last of some loans
abbrev pub last_of : List LentLoan → Option LentLoan
last_of [] = None
last_of (l ∷ []) = Some l
last_of (l ∷ m ∷ ls) = last_of (m ∷ ls)

-- the log up to its loan: loan number n of process p, from this state
abbrev pub IsTicketOf : ℕ → ℕ → State → List LentLoan → Type 0
IsTicketOf pid number began log = last_of log ≡ Some (lent_loan pid number began)
