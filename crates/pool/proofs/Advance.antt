-- What is done at a seat, one thing after the other.
use Rattle.std.proofs.Common.{◌≡◌, ◌⊎◌, ◌≤◌, ℕ, ◌+◌, ◌∙◌, refl, sym, ap, List, [], ◌∷◌, ◌++◌, length-append, append_assoc, arith, subst, Bool, None, Some, Ok, Err, inl, inr}
use Rattle.std.proofs.lemmas.List.{append-nil}
use Rattle.std.specs.Prelude.{Option, Result, MatchOption, MatchResult}
use Rattle.kernel_step.specs.declared.loan.Rejected.{Rejected}
use Rattle.bursts.specs.Holdings.{Holding, grown}
use Rattle.bursts.specs.Totals.{plus, Fit}
use Rattle.bursts.specs.declared.loan_id.LoanId.{LoanId}
use Rattle.bursts.specs.declared.totals.Totals.{Totals}
use Rattle.pool.specs.declared.hand.Hand.{Hand}
use Rattle.pool.specs.declared.settling.Settling.{Settling}
use Rattle.pool.specs.declared.settling.Sums.{Sums}
use Rattle.pool.specs.declared.told.Told.{Told}
use Rattle.pool.specs.declared.told.Told.TheVariants as told_of
use Rattle.pool.specs.Queues.{AtQueue, with_put, found_full}
use Rattle.pool.specs.Settled.{Settled, Ends, Settlement, loans_in, totals_in, rejected_in, settling_of, after, no_settling}
use Rattle.pool.specs.Seats.{Seated, with_results, with_settled, told_so}
use Rattle.pool.specs.Fetching.{Fetched}
use Rattle.pool.specs.Turns.{Advances, AllAccepted, IsCleared, Clears, Rejects, RejectsSoon, AfterFetch}
use Rattle.pool.proofs.Sums.{grown_twice, grown_not, loans_append, turns_append, entered_append, enters_append}

rest_of : (a c : Seated) → c.own ≡ a.own → c.others ≡ a.others → c.spare ≡ a.spare → c.told ≡ a.told → c ≡ with_settled a c.results c.share
rest_of a c own others spare told = λ i. record { own = own i; others = others i; spare = spare i; results = c.results; share = c.share; told = told i }

rest_twice : (a b c : Seated) → b ≡ with_settled a b.results b.share → c ≡ with_settled b c.results c.share → c ≡ with_settled a c.results c.share
rest_twice a b c p q = rest_of a c
    (ap (λ (u : Seated). u.own) q ∙ ap (λ (u : Seated). u.own) p)
    (ap (λ (u : Seated). u.others) q ∙ ap (λ (u : Seated). u.others) p)
    (ap (λ (u : Seated). u.spare) q ∙ ap (λ (u : Seated). u.spare) p)
    (ap (λ (u : Seated). u.told) q ∙ ap (λ (u : Seated). u.told) p)

-- nothing was done
pub advances_not : (a : Seated) → AllAccepted a a [] no_settling
advances_not a = (
  record {
    done = [];
    put = sym (append-nil a.results.hand.put);
    taken = sym (append-nil a.results.hand.taken);
    settled = refl;
    turns = refl;
    events = omega arith;
    entered = refl;
    enters = refl;
    share = grown_not a.share;
    refused = tt;
    looks = omega arith;
    rest = rest_of a a refl refl refl refl;
  },
  refl,
)

-- how often the queue was found empty, once a settling has ended
not_fewer : (v w : AtQueue) (s : Settling) → Ends v s w → v.empty ≤ w.empty
not_fewer v w s ends = by_case s.rejected ends.1
  where
    by_case : (o : Option Rejected) → MatchOption o ((w.empty ≡ v.empty + 1) ⊎ ((w.empty ≡ v.empty) × (s.settled ≡ 1024))) (λ r. w.empty ≡ v.empty) → v.empty ≤ w.empty
    by_case None (inl once) = omega (arith, once)
    by_case None (inr all) = omega (arith, all.0)
    by_case (Some r) same = omega (arith, same)

cleared : (a b : Seated) (s : Settling) → Ends a.results s b.results → s.rejected ≡ None → IsCleared a b s
cleared a b s ends none = by_case s.rejected none ends.1
  where
    by_case : (o : Option Rejected) → o ≡ None
        → MatchOption o ((b.results.empty ≡ a.results.empty + 1) ⊎ ((b.results.empty ≡ a.results.empty) × (s.settled ≡ 1024))) (λ r. b.results.empty ≡ a.results.empty) → IsCleared a b s
    by_case None none (inl once) = inl (omega (arith, once))
    by_case None none (inr all) = inr (omega (arith, all.1))
    by_case (Some r) none same = cc

cleared_then : (a b c : Seated) (s t : Settling) → a.results.empty ≤ b.results.empty → IsCleared b c t → IsCleared a c (after s t)
cleared_then a b c s t up (inl more) = inl (omega (arith, up, more))
cleared_then a b c s t up (inr all) = inr (omega (arith, all))

pub advances_settled : (a b : Seated) (s : Settling) → Settled a.results.hand a.share s b.results.hand b.share → Ends a.results s b.results → b ≡ with_settled a b.results b.share → Advances a b [] s
advances_settled a b s d ends rest = record {
  done = d.done;
  put = ap (λ (v : Hand). v.put) d.taken ∙ sym (append-nil a.results.hand.put);
  taken = ap (λ (v : Hand). v.taken) d.taken;
  settled = d.settled;
  turns = d.turns;
  events = d.events;
  entered = d.entered;
  enters = d.enters;
  share = d.share;
  refused = d.refused;
  looks = not_fewer a.results b.results s ends;
  rest = rest;
}

-- the queue was full after that
pub advances_full : (a b c : Seated) (s : Settling) → AllAccepted a b [] s → c ≡ with_results b (found_full b.results) → AllAccepted a c [] s
advances_full a b c s d is =
    let e = d.0 in (
      record {
        done = e.done;
        put = ap (λ (u : Seated). u.results.hand.put) is ∙ e.put;
        taken = ap (λ (u : Seated). u.results.hand.taken) is ∙ e.taken;
        settled = e.settled;
        turns = e.turns;
        events = e.events;
        entered = e.entered;
        enters = e.enters;
        share = ap (λ (u : Seated). u.share) is ∙ e.share;
        refused = e.refused;
        looks = let up = e.looks in omega (arith, up, ap (λ (u : Seated). u.results.empty) is);
        rest = rest_twice a b c e.rest (rest_of b c (ap (λ (u : Seated). u.own) is) (ap (λ (u : Seated). u.others) is) (ap (λ (u : Seated). u.spare) is) (ap (λ (u : Seated). u.told) is));
      },
      d.1,
    )

-- a result is put in after that
pub advances_put : (a b c : Seated) (x : LoanId) (s : Settling) → AllAccepted a b [] s → c ≡ with_results b (with_put b.results x) → AllAccepted a c (x ∷ []) s
advances_put a b c x s d is =
    let e = d.0 in (
      record {
        done = e.done;
        put = ap (λ (u : Seated). u.results.hand.put) is ∙ ap (λ l. l ++ x ∷ []) (e.put ∙ append-nil a.results.hand.put);
        taken = ap (λ (u : Seated). u.results.hand.taken) is ∙ e.taken;
        settled = e.settled;
        turns = e.turns;
        events = e.events;
        entered = e.entered;
        enters = e.enters;
        share = ap (λ (u : Seated). u.share) is ∙ e.share;
        refused = e.refused;
        looks = let up = e.looks in omega (arith, up, ap (λ (u : Seated). u.results.empty) is);
        rest = rest_twice a b c e.rest (rest_of b c (ap (λ (u : Seated). u.own) is) (ap (λ (u : Seated). u.others) is) (ap (λ (u : Seated). u.spare) is) (ap (λ (u : Seated). u.told) is));
      },
      d.1,
    )

taken_twice : (k l m : List LoanId) (d e : List Settlement) (r : List LoanId) (o : Option Rejected) → o ≡ None → l ≡ k ++ (loans_in d ++ rejected_in o) → m ≡ l ++ (loans_in e ++ r) → m ≡ k ++ (loans_in (d ++ e) ++ r)
taken_twice k l m d e r o none p q =
    let first : l ≡ k ++ loans_in d = p ∙ ap (λ o. k ++ (loans_in d ++ rejected_in o)) none ∙ ap (λ x. k ++ x) (append-nil (loans_in d)) in
    q ∙ ap (λ x. x ++ (loans_in e ++ r)) first ∙ append_assoc k (loans_in d) (loans_in e ++ r) ∙ ap (λ x. k ++ x) (sym (append_assoc (loans_in d) (loans_in e) r) ∙ ap (λ x. x ++ r) (sym (loans_append d e)))

-- and a settling after that
pub advances_then : (a b c : Seated) (xs : List LoanId) (s t : Settling) → AllAccepted a b xs s → Advances b c [] t → Advances a c xs (after s t)
advances_then a b c xs s t ds e =
    let d = ds.0 in record {
      done = d.done ++ e.done;
      put = e.put ∙ append-nil b.results.hand.put ∙ d.put;
      taken = taken_twice a.results.hand.taken b.results.hand.taken c.results.hand.taken d.done e.done (rejected_in t.rejected) s.rejected ds.1 d.taken e.taken;
      settled = length-append d.done e.done ∙ (λ i. d.settled i + e.settled i);
      turns = turns_append d.done e.done ∙ (λ i. d.turns i + e.turns i);
      events = let m = d.events in let n = e.events in omega (arith, m, n);
      entered = let more = entered_append d.done e.done in let m = d.entered in let n = e.entered in omega (arith, more, m, n);
      enters = enters_append d.done e.done ∙ (λ i. d.enters i + e.enters i);
      share = e.share ∙ ap (λ (h : Holding). grown h (totals_in t)) d.share ∙ grown_twice a.share (totals_in s) (totals_in t);
      refused = e.refused;
      looks = let m = d.looks in let n = e.looks in omega (arith, m, n);
      rest = rest_twice a b c d.rest e.rest;
    }

pub accepted_then : (a b c : Seated) (s u : Settling) → AllAccepted a b [] s → (t : Settling) × Clears b c [] t × (u ≡ after s t) → AllAccepted a c [] u
accepted_then a b c s u d e = subst (λ (r : Settling). AllAccepted a c [] r) (sym e.2) (advances_then a b c [] s e.0 d e.1.0.0, e.1.0.1)

pub rejects_then : (a b c : Seated) (xs : List LoanId) (s : Settling) (r : Rejected) → AllAccepted a b xs s → Rejects b c [] r → Rejects a c xs r
rejects_then a b c xs s r d e = (after s e.0, advances_then a b c xs s e.0 d e.1, e.2)

-- a share that had room for both had room for their sum
pub fits_both : (h k j : Holding) (a b : Totals) → k ≡ grown h a → j ≡ grown k b → Fit j.totals → Fit (plus a b)
fits_both h k j a b p q f =
    let e : j ≡ grown (grown h a) b = q ∙ ap (λ (x : Holding). grown x b) p in
    let events : j.totals.events ≡ (h.totals.events + a.events) + b.events = ap (λ (x : Holding). x.totals.events) e in
    let ran : j.totals.ran ≡ (h.totals.ran + a.ran) + b.ran = ap (λ (x : Holding). x.totals.ran) e in
    let turns : j.totals.turns ≡ (h.totals.turns + a.turns) + b.turns = ap (λ (x : Holding). x.totals.turns) e in
    let enters : j.totals.enters ≡ (h.totals.enters + a.enters) + b.enters = ap (λ (x : Holding). x.totals.enters) e in
    (omega (arith, events, f.0), omega (arith, ran, f.1), omega (arith, turns, f.2), omega (arith, enters, f.3))

-- a settling after an earlier one: later is what it settled, and s both
pub few_later : (later : Sums) (n : Settling) → settling_of later ≡ n → n.settled ≤ n.events → later.settled ≤ later.totals.events
few_later later n is few = subst (λ (s : Settling). s.settled ≤ s.events) (sym is) few

pub settled_after : (a b : Seated) (e later s : Sums) (n : Settling) → Settled a.results.hand a.share n b.results.hand b.share → Ends a.results n b.results → b ≡ with_settled a b.results b.share
    → settling_of later ≡ n → settling_of s ≡ after (settling_of e) (settling_of later) → (t : Settling) × Clears a b [] t × (settling_of s ≡ after (settling_of e) t)
settled_after a b e later s n d ends rest is both =
    let none : n.rejected ≡ None = ap (λ (x : Settling). x.rejected) (sym is) in
    (n, ((advances_settled a b n d ends rest, none), cleared a b n ends none), both ∙ ap (λ t. after (settling_of e) t) is)

pub ends_settled : (a b c : Seated) (x : LoanId) (s : Sums) (result : Result Sums Rejected) → AllAccepted a b (x ∷ []) (settling_of s)
    → MatchResult result (λ r. (t : Settling) × Clears b c [] t × (settling_of r ≡ after (settling_of s) t)) (Rejects b c [])
    → MatchResult result (λ r. Clears a c (x ∷ []) (settling_of r)) (RejectsSoon a c x)
ends_settled a b c x s (Ok r) d e =
    subst (λ (r : Settling). Clears a c (x ∷ []) r) (sym e.2) ((advances_then a b c (x ∷ []) (settling_of s) e.0 d e.1.0.0, e.1.0.1), cleared_then a b c (settling_of s) e.0 d.0.looks e.1.1)
ends_settled a b c x s (Err r) d e = inr (rejects_then a b c (x ∷ []) (settling_of s) r d e)

-- a loan is fetched, and then its result is handed in
pub after_fetch : (a m : Seated) (q : ℕ) (x y : LoanId) (H : ℕ → Type 0) (P : LoanId → Seated → Type 0) → Fetched a q m x → H x.pid → P y m → y ≡ x → AfterFetch a q (λ z n. H z.pid × P z n)
after_fetch a m q x y H P f h p is = (x, m, f, (h, subst (λ (z : LoanId). P z m) is p))

-- the bench answers after a settling
pub asks : (z a : Seated) (w : AtQueue) (k : Holding) (answers : List Told) (n : Settling) (s : Sums) (over : Bool) → z ≡ a → Ends z.results n w
    → Settled z.results.hand z.share n w.hand k → settling_of s ≡ n → answers ≡ z.told ++ told_of.Over over ∷ []
    → (m : Seated) × (t : Settling) × Clears a m [] t × (record (with_settled z w k) { told = answers } ≡ told_so m (told_of.Over over))
asks z a w k answers n s over same ends d is told =
    let m = with_settled z w k in
    let accepted : n.rejected ≡ None = ap (λ (x : Settling). x.rejected) (sym is) in
    subst (λ (x : Seated). (m : Seated) × (t : Settling) × Clears x m [] t × (record (with_settled z w k) { told = answers } ≡ told_so m (told_of.Over over))) same
    (m, n, ((advances_settled z m n d ends refl, accepted), cleared z m n ends accepted), ap (λ (l : List Told). record (with_settled z w k) { told = l }) told)
