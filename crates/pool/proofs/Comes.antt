-- Where a fetch has its loan from.
use Rattle.std.proofs.Common.{◌≡◌, ◌⊎◌, ℕ, ◌∙◌, refl, sym, ap, subst, [], ◌∷◌, map, true, None, Some, Ok, Err, inl, inr}
use Rattle.std.specs.Prelude.{Option, Result, IfErr, MatchOption, MatchResult, option_map}
use Rattle.kernel_model.specs.Answers.{Refuses}
use Rattle.kernel_model.specs.Loans.{pick, loan_refusal}
use Rattle.kernel_model.specs.declared.answer.Refused.{Refused}
use Rattle.kernel_step.specs.declared.loan.Loan.{Loan}
use Rattle.bursts.specs.LoanIds.{id_of_loan}
use Rattle.bursts.specs.declared.loan_id.LoanId.{LoanId}
use Rattle.bursts.specs.Benches.{OnBench}
use Rattle.pool.specs.declared.told.Told.TheVariants as told_of
use Rattle.pool.specs.Deques.{took_from, missed_at, Stolen}
use Rattle.pool.specs.Lending.{Lent}
use Rattle.pool.specs.Seats.{Seated, told_so}
use Rattle.pool.specs.Fetching.{Fetched, Fetches, AsksForLoan, NotesLending, looked}

same_seat : (t u : Seated) → t.own ≡ u.own → t.others ≡ u.others → t.spare ≡ u.spare → t.results ≡ u.results → t.share ≡ u.share → t.told ≡ u.told → t ≡ u
same_seat t u own others spare results share told = λ i. record { own = own i; others = others i; spare = spare i; results = results i; share = share i; told = told i }

no_spare : (x : Option LoanId) (o : Option Loan) → x ≡ option_map id_of_loan o → o ≡ None → x ≡ None
no_spare x o is none = is ∙ ap (option_map id_of_loan) none

-- the loan to spare
pub from_spare : (s t : Seated) (q : ℕ) (l : Loan) (o n : Option Loan) → s.spare ≡ option_map id_of_loan o → t.spare ≡ option_map id_of_loan n → o ≡ Some l → n ≡ None
    → t.own ≡ s.own → t.others ≡ s.others → t.results ≡ s.results → t.share ≡ s.share → t.told ≡ s.told → Fetched s q t (id_of_loan l)
from_spare s t q l o n old new some none own others results share told = inl (
  old ∙ ap (option_map id_of_loan) some,
  same_seat t (record s { spare = None }) own others (no_spare t.spare n new none) results share told,
)

-- the own deque
pub from_own : (s t : Seated) (q : ℕ) (l : Loan) (o n : Option Loan) → s.spare ≡ option_map id_of_loan o → t.spare ≡ option_map id_of_loan n → o ≡ None → n ≡ None
    → t.own ≡ took_from s.own (id_of_loan l) → t.others ≡ s.others → t.results ≡ s.results → t.share ≡ s.share → t.told ≡ s.told → Fetched s q t (id_of_loan l)
from_own s t q l o n old new some none own others results share told =
    let before = no_spare s.spare o old some in
    inr (inl (before, same_seat t (record s { own = took_from s.own (id_of_loan l) }) own others (no_spare t.spare n new none ∙ sym before) results share told))

-- the deques of the others
pub from_others : (s t : Seated) (q : ℕ) (l : Loan) (o n : Option Loan) → s.spare ≡ option_map id_of_loan o → t.spare ≡ option_map id_of_loan n → o ≡ None → n ≡ None
    → t.own ≡ missed_at s.own → Stolen s.others t.others (id_of_loan l) → t.results ≡ s.results → t.share ≡ s.share → t.told ≡ s.told → Fetched s q t (id_of_loan l)
from_others s t q l o n old new some none own stolen results share told =
    let before = no_spare s.spare o old some in
    inr (inr (inl (before, stolen, same_seat t (record s { own = missed_at s.own; others = t.others }) own refl (no_spare t.spare n new none ∙ sym before) results share told)))

-- what a lending gave is noted
pub noted_lending : (s t : Seated) (q : ℕ) (b : OnBench) (o n : Option Loan) (r : Result (Option Loan) Refused) → s.spare ≡ option_map id_of_loan o → t.spare ≡ option_map id_of_loan n
    → t.others ≡ s.others → t.results ≡ s.results
    → MatchResult r
    (λ given. MatchOption given ((t.own ≡ s.own) × (n ≡ o) × (t.share ≡ s.share)) (λ l. Lent (id_of_loan l ∷ []) q s.own t.own (option_map id_of_loan n) s.share t.share))
    (λ _. (t.own ≡ s.own) × (n ≡ o) × (t.share ≡ s.share))
    → (r ≡ Ok None → (b.stopped ≡ true) ⊎ (pick b.core q ≡ None)) → IfErr r (λ why. Refuses (loan_refusal b.core) why) → NotesLending s.told r t.told → AsksForLoan s q t r
noted_lending s t q b o n (Ok None) old new others results h none e told =
    (same_seat t (told_so s told_of.Idle) h.0 others (new ∙ ap (option_map id_of_loan) h.1 ∙ sym old) results h.2 told, (b, none refl))
noted_lending s t q b o n (Ok (Some l)) old new others results h none e told = (
  subst (λ (x : Option LoanId). Lent (id_of_loan l ∷ []) q s.own t.own x s.share t.share) (sym new) h,
  same_seat t (record s { own = t.own; spare = t.spare; share = t.share }) refl others refl results refl told,
)
noted_lending s t q b o n (Err why) old new others results h none e told =
    (same_seat t (told_so s (told_of.Refused why)) h.0 others (new ∙ ap (option_map id_of_loan) h.1 ∙ sym old) results h.2 told, (b.core, e))

-- the bench, after a look at each deque
pub from_core : (s m t : Seated) (q : ℕ) (o n : Option Loan) (r : Result (Option Loan) Refused) → s.spare ≡ option_map id_of_loan o → m.spare ≡ option_map id_of_loan n → o ≡ None → n ≡ None
    → m.own ≡ missed_at s.own → m.others ≡ map missed_at s.others → m.results ≡ s.results → m.share ≡ s.share → m.told ≡ s.told → AsksForLoan m q t r → Fetches s q t r
from_core s m t q o n r old new some none own others results share told h =
    let before = no_spare s.spare o old some in
    let same : m ≡ looked s = same_seat m (looked s) own others (no_spare m.spare n new none ∙ sym before) results share told in
    by_case r before (subst (λ (u : Seated). AsksForLoan u q t r) same h)
  where
    by_case : (r : Result (Option Loan) Refused) → s.spare ≡ None → AsksForLoan (looked s) q t r → Fetches s q t r
    by_case (Ok None) before h = ((before, h.0), h.1)
    by_case (Ok (Some l)) before h = inr (inr (inr (before, h)))
    by_case (Err why) before h = ((before, h.0), h.1)
