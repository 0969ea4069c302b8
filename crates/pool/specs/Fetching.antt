-- What a fetch comes to.
use Rattle.std.specs.Prelude.{◌≡◌, ◌⊎◌, ℕ, List, [], ◌∷◌, ◌++◌, map, Option, Some, None, Result, MatchResult, MatchOption}
use Rattle.kernel_model.specs.declared.answer.Refused.{Refused}
use Rattle.kernel_step.specs.declared.loan.Loan.{Loan}
use Rattle.bursts.specs.LoanIds.{id_of_loan}
use Rattle.bursts.specs.declared.loan_id.LoanId.{LoanId}
use Rattle.pool.specs.Deques.{took_from, missed_at, Stolen}
use Rattle.pool.specs.Lending.{Lent, IsLoanRefusal, IsNothingLendable}
use Rattle.pool.specs.declared.told.Told.{Told}
use Rattle.pool.specs.declared.told.Told.TheVariants as told
use Rattle.pool.specs.Seats.{Seated, told_so}

-- the seat after a look at each deque, where none had a loan
abbrev pub looked : Seated → Seated
looked s = record s { own = missed_at s.own; others = map missed_at s.others }

-- Nothing was fetched: nothing stood to spare, no deque had a loan, and the bench was asked, which answered so. But for these looks
-- and this answer the seat is as it was.
abbrev pub FindsNothing : Seated → Told → Seated → Type 0
FindsNothing s answer t = (s.spare ≡ None) × (t ≡ told_so (looked s) answer)

-- the loan stood to spare
abbrev pub Spared : Seated → Seated → LoanId → Type 0
Spared s t x = (s.spare ≡ Some x) × (t ≡ record s { spare = None })

-- nothing stood to spare, and the own deque had the loan
abbrev pub Popped : Seated → Seated → LoanId → Type 0
Popped s t x = (s.spare ≡ None) × (t ≡ record s { own = took_from s.own x })

-- nothing stood to spare, the own deque had none, and the first of the others that had one gave it
abbrev pub Stole : Seated → Seated → LoanId → Type 0
Stole s t x = (s.spare ≡ None) × Stolen s.others t.others x × (t ≡ record s { own = missed_at s.own; others = t.others })

-- the core lent it and further ones
abbrev pub LentAt : Seated → ℕ → Seated → LoanId → Type 0
LentAt s q t x = Lent (x ∷ []) q s.own t.own t.spare s.share t.share × (t ≡ record s { own = t.own; spare = t.spare; share = t.share })

-- what the bench answered is noted where it lent nothing
abbrev pub NotesLending : List Told → Result (Option Loan) Refused → List Told → Type 0
NotesLending before result after = MatchResult result
    (λ given. MatchOption given (after ≡ before ++ told.Idle ∷ []) (λ l. after ≡ before))
    (λ why. after ≡ before ++ told.Refused why ∷ [])

-- the bench was asked for a loan: it lent it and further ones, or it lent none, or refused, which is noted
abbrev pub AsksForLoan : Seated → ℕ → Seated → Result (Option Loan) Refused → Type 0
AsksForLoan s q t result = MatchResult result
    (λ given. MatchOption given ((t ≡ told_so s told.Idle) × IsNothingLendable q) (λ l. LentAt s q t (id_of_loan l)))
    (λ why. (t ≡ told_so s (told.Refused why)) × IsLoanRefusal why)

-- nothing stood to spare, no deque had a loan, and the core lent it and further ones
abbrev pub Borrowed : Seated → ℕ → Seated → LoanId → Type 0
Borrowed s q t x = (s.spare ≡ None) × LentAt (looked s) q t x

-- the loan was fetched from the first of these that had one
abbrev pub Fetched : Seated → ℕ → Seated → LoanId → Type 0
Fetched s q t x = Spared s t x ⊎ (Popped s t x ⊎ (Stole s t x ⊎ Borrowed s q t x))

-- The answer is what was fetched. Nothing was where the bench lent nothing, and where it refused.
abbrev pub Fetches : Seated → ℕ → Seated → Result (Option Loan) Refused → Type 0
Fetches s q t result = MatchResult result
    (λ given. MatchOption given (FindsNothing s told.Idle t × IsNothingLendable q) (λ l. Fetched s q t (id_of_loan l)))
    (λ why. FindsNothing s (told.Refused why) t × IsLoanRefusal why)
