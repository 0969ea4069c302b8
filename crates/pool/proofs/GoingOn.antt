-- A worker that goes on with the process of its loan.
use Rattle.std.proofs.Common.{◌≡◌, ℕ, zero, suc, ◌+◌, ◌≤◌, ◌∙◌, refl, sym, ap, subst, arith, inl, inr}
use Rattle.std.specs.Prelude.{Option, Some, None, Result, Ok, Err, option_map}
use Rattle.machine_model.specs.declared.stop.Stop.{Stop}
use Rattle.kernel_model.specs.Answers.{Kernel}
use Rattle.kernel_model.specs.Loans.{settled_answer, settled_outcome}
use Rattle.kernel_model.specs.declared.answer.Answer.{Answer}
use Rattle.kernel_model.specs.declared.answer.Answer.TheVariants as answer_of
use Rattle.kernel_model.specs.declared.answer.Outcome.{Outcome}
use Rattle.kernel_step.specs.Loaned.{Settles, loan_result}
use Rattle.kernel_step.specs.declared.loan.Done.{Done}
use Rattle.kernel_step.specs.declared.loan.Loan.{Loan}
use Rattle.kernel_step.specs.declared.loan.Rejected.{Rejected}
use Rattle.bursts.specs.GoingOn.{GoesOn, GrowsByGoing}
use Rattle.bursts.specs.Holdings.{Holding}
use Rattle.bursts.specs.LoanIds.{id_of_loan, id_of_result}
use Rattle.bursts.specs.Totals.{settled_totals}
use Rattle.bursts.specs.declared.loan_id.LoanId.{LoanId}
use Rattle.bursts.specs.declared.totals.Totals.{Totals}
use Rattle.pool.specs.Settled.{IsOfOne}
use Rattle.pool.specs.GoingOn.{HeldTimes, GoesOnce, ComesBack, WentOnTo, EndsAt, RunsOn}

-- ---- a result

-- what a result of so many instructions adds
abbrev AddsOne : ℕ → ℕ → Totals → Type 0
AddsOne pid count t = IsOfOne t × (t.turns ≡ pid) × (t.ran ≡ count)

answer_adds : (pid count : ℕ) (stop : Stop) (o : Option Outcome) → AddsOne pid count (settled_totals pid (answer_of.Settled count stop o))
answer_adds pid count stop None = (inl (refl, refl), refl, refl)
answer_adds pid count stop (Some outcome) = (inr (refl, refl), refl, refl)

adds_one : (k : Kernel) (d : Done) (a : Answer) → a ≡ settled_answer k (loan_result d) → AddsOne d.pid d.count (settled_totals d.pid a)
adds_one k d a is = subst (λ (b : Answer). AddsOne d.pid d.count (settled_totals d.pid b)) (sym is) (answer_adds d.pid d.count d.stop (settled_outcome k (loan_result d)))

-- it was taken back
pub goes_once : (k later : Kernel) (old new : Holding) (d : Done) (a : Answer) (given : Option Loan) → GoesOn k d later (Ok (a, given)) → GrowsByGoing d old new (Ok (a, given))
    → GoesOnce old (id_of_result d) new (option_map id_of_loan given)
goes_once k later old new d a None s grows =
    let one = adds_one k d a s.answer in
    (settled_totals d.pid a, one.0, one.1, grows)
goes_once k later old new d a (Some l) s grows =
    let one = adds_one k d a s.0.answer in
    let left = s.1.left in
    (settled_totals d.pid a, one.0, one.1, (s.1.process, omega (arith, one.2, left), grows))

-- it was not
pub comes_back : (k later : Kernel) (old new : Holding) (d : Done) (r : Rejected) → Settles k d later (Err r) → new ≡ old → ComesBack old (id_of_result d) new r
comes_back k later old new d r s same = (same, ap id_of_result s.back, record { old = k; new = later; done = d; rejects = s })

-- ---- one after the other

-- from loan x to loan y it went on so many times so far, and before each run the gate was held
abbrev pub SoFar : {G : Type 0} → (G → ℕ → G → Type 0) → ℕ → Holding → LoanId → G → Holding → LoanId → G → Type 0
SoFar holds count a x g b y h = (n : ℕ) × (n ≡ count) × WentOnTo n a x b y × (y.pid ≡ x.pid) × HeldTimes holds g h x.pid n

pub at_first : {G : Type 0} (holds : G → ℕ → G → Type 0) (a : Holding) (x : LoanId) (g : G) → SoFar holds 0 a x g a x g
at_first holds a x g = (zero, refl, (refl, refl), refl, refl)

-- and once more, with the result of the last loan
pub once_more : {G : Type 0} (holds : G → ℕ → G → Type 0) (count : ℕ) (a : Holding) (x : LoanId) (g : G) (b : Holding) (y done : LoanId) (h k : G) (c : Holding) (z : LoanId)
    → SoFar holds count a x g b y h → holds h y.pid k → done ≡ y → GoesOnce b done c (Some z) → SoFar holds (count + 1) a x g c z k
once_more holds count a x g b y done h k c z s held same step =
    let goes : GoesOnce b y c (Some z) = subst (λ (w : LoanId). GoesOnce b w c (Some z)) same step in
    (suc s.0, omega (arith, s.1), (b, y, s.2, goes), goes.3.0 ∙ s.3, (h, s.4, subst (λ (p : ℕ). holds h p k) s.3 held))

-- and there it ended
pub ends : {G T : Type 0} (holds : G → ℕ → G → Type 0) (count : ℕ) (a : Holding) (x : LoanId) (g : G) (b : Holding) (y done : LoanId) (h k : G) (c : Holding) (result : Result T Rejected)
    → count ≤ 64 → SoFar holds count a x g b y h → holds h y.pid k → done ≡ y → EndsAt b done c result → RunsOn a x (HeldTimes holds g k) c result
ends holds count a x g b y done h k c result few s held same end =
    (s.0, omega (arith, s.1, few), (h, s.4, subst (λ (p : ℕ). holds h p k) s.3 held), b, y, s.2, subst (λ (w : LoanId). EndsAt b w c result) same end)
