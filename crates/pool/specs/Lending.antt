-- What one visit to the core lends.
use Rattle.std.specs.Prelude.{◌≡◌, ◌⊎◌, ℕ, ◌+◌, ◌≤◌, true, List, [], ◌∷◌, ◌++◌, length, Option, Some, None}
use Rattle.std.specs.List.{AllByRecursion}
use Rattle.kernel_model.specs.Answers.{Kernel, Refuses}
use Rattle.kernel_model.specs.Loans.{pick, loan_count, with_loan, loan_refusal}
use Rattle.kernel_model.specs.declared.answer.Refused.{Refused}
use Rattle.bursts.specs.Benches.{OnBench}
use Rattle.bursts.specs.Holdings.{Holding, lent_to}
use Rattle.bursts.specs.declared.loan_id.LoanId.{LoanId}
use Rattle.pool.specs.Deques.{AtDeque, put_in}

-- it is the core's next loan of this quantum
abbrev pub IsNext : Kernel → ℕ → LoanId → Type 0
IsNext k q x = (pick k q ≡ Some x.pid) × (x.number ≡ loan_count k x.pid + 1) × (x.quantum ≡ q)

-- some core refuses a loan for this reason
abbrev pub IsLoanRefusal : Refused → Type 0
IsLoanRefusal why = (k : Kernel) × Refuses (loan_refusal k) why

-- some bench lends nothing of a quantum: stop was said there, or no process is lendable
abbrev pub IsNothingLendable : ℕ → Type 0
IsNothingLendable q = (b : OnBench) × ((b.stopped ≡ true) ⊎ (pick b.core q ≡ None))

-- just these loans of a quantum were lent, one after the other, which left this core
abbrev pub LendsAll : Kernel → ℕ → List LoanId → Kernel → Type 0
LendsAll k q [] new = new ≡ k
LendsAll k q (x ∷ xs) new = IsNext k q x × LendsAll (with_loan k x.pid q) q xs new

-- Just the loans that the share has more were lent, and the flag is as it was.
pub record LendsNoted (old : OnBench) (q : ℕ) (new : OnBench) (share new_share : Holding) : Type 0 where
  pub lent : List LoanId
  pub noted : new_share ≡ lent_to share lent
  pub lends : LendsAll old.core q lent new.core
  pub stopped : new.stopped ≡ old.stopped

-- the loan to spare, if there is one
abbrev pub listed : Option LoanId → List LoanId
listed None = []
listed (Some x) = x ∷ []

-- The share has these loans more, and then further ones of this quantum: those that were put into the own deque, and the one to
-- spare, seven at most.
pub record Lent (first : List LoanId) (q : ℕ) (own new_own : AtDeque) (spare : Option LoanId) (share new_share : Holding) : Type 0 where
  pub put : List LoanId
  pub few : length put + length (listed spare) ≤ 7
  pub quantum : AllByRecursion (λ (x : LoanId). x.quantum ≡ q) (first ++ (put ++ listed spare))
  pub kept : new_own ≡ put_in own put
  pub noted : new_share ≡ lent_to share (first ++ (put ++ listed spare))
