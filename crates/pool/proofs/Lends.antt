-- Loans that are lent one after the other, and where they go.
use Rattle.std.proofs.Common.{◌≡◌, ℕ, ◌+◌, ◌≤◌, ◌<◌, ◌∙◌, refl, sym, ap, subst, List, [], ◌∷◌, ◌++◌, length, length-append, append_assoc, arith, None, Some, Ok, Err}
use Rattle.std.proofs.lemmas.List.{append-nil}
use Rattle.std.specs.Prelude.{Option, Result}
use Rattle.std.specs.List.{AllByRecursion}
use Rattle.kernel_model.specs.Answers.{Kernel, Refuses}
use Rattle.kernel_model.specs.Loans.{Lends, pick, loan_refusal, with_loan}
use Rattle.kernel_model.specs.declared.answer.Refused.{Refused}
use Rattle.kernel_step.specs.Loaned.{lent_out}
use Rattle.kernel_step.specs.declared.loan.Loan.{Loan}
use Rattle.bursts.specs.Benches.{OnBench}
use Rattle.bursts.specs.Holdings.{Holding, lent_to, GrowsByLend}
use Rattle.bursts.specs.LoanIds.{id_of_loan}
use Rattle.bursts.specs.declared.loan_id.LoanId.{LoanId}
use Rattle.pool.specs.Hands.{hand}
use Rattle.pool.specs.Deques.{AtDeque, put_in}
use Rattle.pool.specs.Lending.{IsNext, LendsAll, LendsNoted, Lent, listed}

lends-push : (k m : Kernel) (q : ℕ) (xs : List LoanId) (x : LoanId) → LendsAll k q xs m → IsNext m q x → LendsAll k q (xs ++ x ∷ []) (with_loan m x.pid q)
lends-push k m q [] x h next = (subst (λ (j : Kernel). IsNext j q x) h next, ap (λ (j : Kernel). with_loan j x.pid q) h)
lends-push k m q (y ∷ ys) x h next = (h.0, lends-push (with_loan k y.pid q) m q ys x h.1 next)

lent_twice : (h : Holding) (xs ys : List LoanId) → lent_to (lent_to h xs) ys ≡ lent_to h (xs ++ ys)
lent_twice h xs ys = ap (λ l. record { parts = h.parts; totals = h.totals; lent = l }) (append_assoc h.lent xs ys)

lent_not : (h : Holding) → h ≡ lent_to h []
lent_not h = ap (λ l. record { parts = h.parts; totals = h.totals; lent = l }) (sym (append-nil h.lent))

put_twice : (d : AtDeque) (xs ys : List LoanId) → put_in (put_in d xs) ys ≡ put_in d (xs ++ ys)
put_twice d xs ys = ap (λ l. record { deque = d.deque; hand = hand l d.hand.taken; missed = d.missed }) (append_assoc d.hand.put xs ys)

put_not : (d : AtDeque) → d ≡ put_in d []
put_not d = ap (λ l. record { deque = d.deque; hand = hand l d.hand.taken; missed = d.missed }) (sym (append-nil d.hand.put))

-- nothing was lent
pub notes_nothing : (b : OnBench) (q : ℕ) (h : Holding) → LendsNoted b q b h h
notes_nothing b q h = record { lent = []; noted = lent_not h; lends = refl; stopped = refl }

pub still_noted : (b c d : OnBench) (q : ℕ) (h j k : Holding) → LendsNoted b q c h j → d.core ≡ c.core → d.stopped ≡ c.stopped → k ≡ j → LendsNoted b q d h k
still_noted b c d q h j k n core stopped share = record {
  lent = n.lent;
  noted = share ∙ n.noted;
  lends = subst (λ (x : Kernel). LendsAll b.core q n.lent x) (sym core) n.lends;
  stopped = stopped ∙ n.stopped;
}

-- one more was lent
pub notes_more : (b c d : OnBench) (q : ℕ) (h j k : Holding) (x : LoanId) → LendsNoted b q c h j → IsNext c.core q x → d.core ≡ with_loan c.core x.pid q → d.stopped ≡ c.stopped → k ≡ lent_to j (x ∷ [])
    → LendsNoted b q d h k
notes_more b c d q h j k x n next core stopped share = record {
  lent = n.lent ++ x ∷ [];
  noted = share ∙ ap (λ (u : Holding). lent_to u (x ∷ [])) n.noted ∙ lent_twice h n.lent (x ∷ []);
  lends = subst (λ (u : Kernel). LendsAll b.core q (n.lent ++ x ∷ []) u) (sym core) (lends-push b.core c.core q n.lent x n.lends next);
  stopped = stopped ∙ n.stopped;
}

lends_then : (k m n : Kernel) (q : ℕ) (xs ys : List LoanId) → LendsAll k q xs m → LendsAll m q ys n → LendsAll k q (xs ++ ys) n
lends_then k m n q [] ys f g = subst (λ (j : Kernel). LendsAll j q ys n) f g
lends_then k m n q (x ∷ xs) ys f g = (f.0, lends_then (with_loan k x.pid q) m n q xs ys f.1 g)

pub notes_then : (b c d : OnBench) (q : ℕ) (h j k : Holding) → LendsNoted b q c h j → LendsNoted c q d j k → LendsNoted b q d h k
notes_then b c d q h j k f g = record {
  lent = f.lent ++ g.lent;
  noted = g.noted ∙ ap (λ (u : Holding). lent_to u g.lent) f.noted ∙ lent_twice h f.lent g.lent;
  lends = lends_then b.core c.core d.core q f.lent g.lent f.lends g.lends;
  stopped = g.stopped ∙ f.stopped;
}

-- what one lending does
next_of : (old new : Kernel) (q : ℕ) (l : Loan) → Lends old q new (lent_out (Ok (Some l))) → IsNext old q (id_of_loan l) × (new ≡ with_loan old l.pid q)
next_of old new q l h = ((h.1.picked, h.1.number, h.1.asked), h.1.noted)

pub gives_one : (b c : OnBench) (q : ℕ) (h k : Holding) (r : Result (Option Loan) Refused) (o : Option Loan) (l : Loan) → r ≡ Ok o → o ≡ Some l → Lends b.core q c.core (lent_out r) → GrowsByLend h k r → c.stopped ≡ b.stopped
    → LendsNoted b q c h k × ((id_of_loan l).quantum ≡ q) × (k ≡ lent_to h (id_of_loan l ∷ []))
gives_one b c q h k r o l was is lends share stopped =
    let given : r ≡ Ok (Some l) = was ∙ ap Ok is in
    let f = subst (λ r. Lends b.core q c.core (lent_out r)) given lends in
    let g = subst (λ r. GrowsByLend h k r) given share in
    let n = next_of b.core c.core q l f in
    (notes_more b b c q h h k (id_of_loan l) (notes_nothing b q h) n.0 n.1 stopped g, n.0.2, g)

pub gives_none : (b c : OnBench) (q : ℕ) (h k : Holding) (r : Result (Option Loan) Refused) (o : Option Loan) → r ≡ Ok o → o ≡ None → Lends b.core q c.core (lent_out r) → GrowsByLend h k r → c.stopped ≡ b.stopped
    → LendsNoted b q c h k × (k ≡ h)
gives_none b c q h k r o was is lends share stopped =
    let given : r ≡ Ok None = was ∙ ap Ok is in
    let f = subst (λ r. Lends b.core q c.core (lent_out r)) given lends in
    let g = subst (λ r. GrowsByLend h k r) given share in
    (still_noted b b c q h h k (notes_nothing b q h) f.1.1 stopped g, g)

pub gives_err : (b c : OnBench) (q : ℕ) (h k : Holding) (r : Result (Option Loan) Refused) (why : Refused) → r ≡ Err why → Lends b.core q c.core (lent_out r) → GrowsByLend h k r → c.stopped ≡ b.stopped
    → LendsNoted b q c h k × (k ≡ h)
gives_err b c q h k r why is lends share stopped =
    let f = subst (λ r. Lends b.core q c.core (lent_out r)) is lends in
    let g = subst (λ r. GrowsByLend h k r) is share in
    (still_noted b b c q h h k (notes_nothing b q h) f.2 stopped g, g)

-- these were put into the own deque so far, at most so many
pub record Kept (q : ℕ) (d e : AtDeque) (h j : Holding) (most : ℕ) : Type 0 where
  pub put : List LoanId
  pub few : length put ≤ most
  pub quantum : AllByRecursion (λ (x : LoanId). x.quantum ≡ q) put
  pub own : e ≡ put_in d put
  pub share : j ≡ lent_to h put

all_append : (P : LoanId → Type 0) (xs ys : List LoanId) → AllByRecursion P xs → AllByRecursion P ys → AllByRecursion P (xs ++ ys)
all_append P [] ys f g = g
all_append P (x ∷ xs) ys f g = (f.0, all_append P xs ys f.1 g)

pub kept_none : (q : ℕ) (d : AtDeque) (h : Holding) → Kept q d d h h 0
kept_none q d h = record { put = []; few = omega arith; quantum = tt; own = put_not d; share = lent_not h }

pub kept_more : (q : ℕ) (d e f : AtDeque) (h j k : Holding) (n : ℕ) (x : LoanId) → Kept q d e h j n → x.quantum ≡ q → f ≡ put_in e (x ∷ []) → k ≡ lent_to j (x ∷ []) → Kept q d f h k (n + 1)
kept_more q d e f h j k n x p asked own share = record {
  put = p.put ++ x ∷ [];
  few = let more = length-append p.put (x ∷ []) in let few = p.few in omega (arith, more, few);
  quantum = all_append (λ (y : LoanId). y.quantum ≡ q) p.put (x ∷ []) p.quantum (asked, tt);
  own = own ∙ ap (λ (u : AtDeque). put_in u (x ∷ [])) p.own ∙ put_twice d p.put (x ∷ []);
  share = share ∙ ap (λ (u : Holding). lent_to u (x ∷ [])) p.share ∙ lent_twice h p.put (x ∷ []);
}

pub kept_at_last : (q : ℕ) (d e f : AtDeque) (h j k : Holding) (n : ℕ) → Kept q d e h j n → n ≤ 7 → f ≡ e → k ≡ j → Lent [] q d f None h k
kept_at_last q d e f h j k n p most own share = record {
  put = p.put;
  few = let few = p.few in omega (arith, few, most);
  quantum = all_append (λ (y : LoanId). y.quantum ≡ q) p.put [] p.quantum tt;
  kept = own ∙ p.own;
  noted = share ∙ p.share ∙ ap (λ l. lent_to h l) (sym (append-nil p.put));
}

-- the one that found no room is to spare
pub kept_but : (q : ℕ) (d e f : AtDeque) (h j k : Holding) (n : ℕ) (x : LoanId) → Kept q d e h j n → n < 7 → x.quantum ≡ q → f ≡ e → k ≡ lent_to j (x ∷ []) → Lent [] q d f (Some x) h k
kept_but q d e f h j k n x p most asked own share = record {
  put = p.put;
  few = let few = p.few in omega (arith, few, most);
  quantum = all_append (λ (y : LoanId). y.quantum ≡ q) p.put (x ∷ []) p.quantum (asked, tt);
  kept = own ∙ p.own;
  noted = share ∙ ap (λ (u : Holding). lent_to u (x ∷ [])) p.share ∙ lent_twice h p.put (x ∷ []);
}

pub kept_back : (q : ℕ) (d e f : AtDeque) (h j k : Holding) (n : ℕ) (l back : Loan) → Kept q d e h j n → n < 7 → back ≡ l → (id_of_loan l).quantum ≡ q → f ≡ e → k ≡ lent_to j (id_of_loan l ∷ [])
    → Lent [] q d f (Some (id_of_loan back)) h k
kept_back q d e f h j k n l back p most same asked own share = kept_but q d e f h j k n (id_of_loan back) p most (ap (λ (x : Loan). x.quantum) same ∙ asked) own
    (share ∙ ap (λ (x : Loan). lent_to j (id_of_loan x ∷ [])) (sym same))

-- the first is lent, and then the further ones
pub lent_first : (q : ℕ) (d e : AtDeque) (h j k : Holding) (o : Option LoanId) (x : LoanId) → x.quantum ≡ q → j ≡ lent_to h (x ∷ []) → Lent [] q d e o j k → Lent (x ∷ []) q d e o h k
lent_first q d e h j k o x asked first p = record {
  put = p.put;
  few = p.few;
  quantum = (asked, p.quantum);
  kept = p.kept;
  noted = p.noted ∙ ap (λ (u : Holding). lent_to u (p.put ++ listed o)) first ∙ lent_twice h (x ∷ []) (p.put ++ listed o);
}

-- what a visit that lent nothing says
pub pick_none : (b c : Kernel) (q : ℕ) (r : Result (Option Loan) Refused) (o : Option Loan) → r ≡ Ok o → o ≡ None → Lends b q c (lent_out r) → pick b q ≡ None
pick_none b c q r o was is lends = (subst (λ r. Lends b q c (lent_out r)) (was ∙ ap Ok is) lends).1.0

pub refusal : (b c : Kernel) (q : ℕ) (r : Result (Option Loan) Refused) (why : Refused) → r ≡ Err why → Lends b q c (lent_out r) → Refuses (loan_refusal b) why
refusal b c q r why is lends = (subst (λ r. Lends b q c (lent_out r)) is lends).0
