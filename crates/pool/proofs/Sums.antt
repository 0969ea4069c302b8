-- A settling goes on.
use Rattle.std.proofs.Common.{◌≡◌, ◌≤◌, ◌<◌, ℕ, ◌+◌, ◌*◌, ◌^◌, ◌∙◌, refl, sym, ap, subst, Bool, true, false, inl, inr, List, [], ◌∷◌, ◌++◌, length, length-append, append_assoc, arith, None, Some}
use Rattle.std.proofs.lemmas.List.{append-nil}
use Rattle.kernel_step.specs.declared.loan.Rejected.{Rejected}
use Rattle.bursts.specs.Holdings.{Holding, grown}
use Rattle.bursts.specs.Totals.{plus}
use Rattle.bursts.specs.LoanIds.{loan_id, id_of_result}
use Rattle.bursts.specs.declared.loan_id.LoanId.{LoanId}
use Rattle.bursts.specs.declared.totals.Totals.{Totals}
use Rattle.pool.specs.declared.hand.Hand.{Hand}
use Rattle.pool.specs.declared.settling.Settling.{Settling}
use Rattle.pool.specs.declared.settling.Sums.{Sums}
use Rattle.pool.specs.Hands.{hand, took}
use Rattle.pool.specs.Queues.{AtQueue, with_taken, found_empty}
use Rattle.pool.specs.Settled.{Settled, Settlement, Ends, SomeCoreRejects, IsOfOne, loans_in, count_entered, sum_of_entered, totals_in, rejected_in, sum_of_processes, settling_of, ended_with, more, no_settling}

pub sum_append : (xs ys : List LoanId) → sum_of_processes (xs ++ ys) ≡ sum_of_processes xs + sum_of_processes ys
sum_append [] ys = omega arith
sum_append (x ∷ xs) ys = let step = sum_append xs ys in omega arith

pub loans_append : (xs ys : List Settlement) → loans_in (xs ++ ys) ≡ loans_in xs ++ loans_in ys
loans_append [] ys = refl
loans_append (x ∷ xs) ys = ap (λ l. x.0 ∷ l) (loans_append xs ys)

-- the process numbers of two lists of settled results
pub turns_append : (xs ys : List Settlement) → sum_of_processes (loans_in (xs ++ ys)) ≡ sum_of_processes (loans_in xs) + sum_of_processes (loans_in ys)
turns_append xs ys = ap sum_of_processes (loans_append xs ys) ∙ sum_append (loans_in xs) (loans_in ys)

pub entered_append : (xs ys : List Settlement) → count_entered (xs ++ ys) ≡ count_entered xs + count_entered ys
entered_append [] ys = omega arith
entered_append (x ∷ xs) ys = let step = entered_append xs ys in omega (arith, step)

pub enters_append : (xs ys : List Settlement) → sum_of_entered (xs ++ ys) ≡ sum_of_entered xs + sum_of_entered ys
enters_append [] ys = omega arith
enters_append (x ∷ xs) ys = let step = enters_append xs ys in omega (arith, step)

-- a share that grows twice grows by both
pub grown_twice : (h : Holding) (a b : Totals) → grown (grown h a) b ≡ grown h (plus a b)
grown_twice h a b = λ i. record {
  parts = h.parts;
  lent = h.lent;
  totals = record {
    events = assoc h.totals.events a.events b.events i;
    ran = assoc h.totals.ran a.ran b.ran i;
    turns = assoc h.totals.turns a.turns b.turns i;
    enters = assoc h.totals.enters a.enters b.enters i;
  };
}
  where
    assoc : (a b c : ℕ) → (a + b) + c ≡ a + (b + c)
    assoc a b c = omega arith

-- and by nothing it stays
pub grown_not : (h : Holding) → h ≡ grown h (totals_in no_settling)
grown_not h = λ i. record {
  parts = h.parts;
  lent = h.lent;
  totals = record { events = (the_sum h.totals.events) i; ran = (the_sum h.totals.ran) i; turns = (the_sum h.totals.turns) i; enters = (the_sum h.totals.enters) i };
}
  where
    the_sum : (n : ℕ) → n ≡ n + 0
    the_sum n = omega arith

-- what was taken so far, where nothing was rejected
open_so_far : (v w : Hand) (h k : Holding) (s : Settling) (d : Settled v h s w k) → s.rejected ≡ None → w ≡ hand v.put (v.taken ++ loans_in d.done)
open_so_far v w h k s d none = d.taken ∙ ap (λ o. hand v.put (v.taken ++ (loans_in d.done ++ rejected_in o))) none ∙ ap (λ l. hand v.put (v.taken ++ l)) (append-nil (loans_in d.done))

-- one result more, of which it is known whether an Enter came after its Turn
settles_one : (v w x : Hand) (h k j : Holding) (s : Settling) (c : Totals) (number quantum : ℕ) (entered : Bool) → Settled v h s w k → s.rejected ≡ None → x ≡ took w (loan_id c.turns number quantum) → j ≡ grown k c
    → c.events ≡ 1 + count_entered ((loan_id c.turns number quantum, entered) ∷ []) → c.enters ≡ sum_of_entered ((loan_id c.turns number quantum, entered) ∷ []) → Settled v h (more s c) x j
settles_one v w x h k j s c number quantum entered d none took_one grows events enters =
    let id : LoanId = loan_id c.turns number quantum in
    let one : Settlement = (id, entered) in
    let before = open_so_far v w h k s d none in
    record {
      done = d.done ++ one ∷ [];
      taken =
          took_one ∙ ap (λ (u : Hand). took u id) before
          ∙ ap (λ l. hand v.put l) (append_assoc v.taken (loans_in d.done) (id ∷ []) ∙ ap (λ l. v.taken ++ l) (sym (loans_append d.done (one ∷ [])) ∙ sym (append-nil (loans_in (d.done ++ one ∷ [])))))
          ∙ ap (λ o. hand v.put (v.taken ++ (loans_in (d.done ++ one ∷ []) ++ rejected_in o))) (sym none);
      settled = length-append d.done (one ∷ []) ∙ ap (λ n. n + 1) d.settled;
      turns = let more = turns_append d.done (one ∷ []) in let so_far = d.turns in omega (arith, more, so_far);
      events = let few = d.events in omega (arith, few, events);
      entered = let more = entered_append d.done (one ∷ []) in let so_far = d.entered in omega (arith, more, so_far, events);
      enters = let more = enters_append d.done (one ∷ []) in let so_far = d.enters in omega (arith, more, so_far, enters);
      share = grows ∙ ap (λ (u : Holding). grown u c) d.share ∙ grown_twice h (totals_in s) c;
      refused = d.refused;
    }

plus_none : (n : ℕ) → n ≡ n + 0
plus_none n = omega arith

settles_more : (v w x : Hand) (h k j : Holding) (s : Settling) (c : Totals) (number quantum : ℕ) → Settled v h s w k → s.rejected ≡ None → x ≡ took w (loan_id c.turns number quantum) → j ≡ grown k c → IsOfOne c
    → Settled v h (more s c) x j
settles_more v w x h k j s c number quantum d none took_one grows (inl one) = settles_one v w x h k j s c number quantum false d none took_one grows one.0 one.1
settles_more v w x h k j s c number quantum d none took_one grows (inr one) = settles_one v w x h k j s c number quantum true d none took_one grows one.0 (one.1 ∙ plus_none c.turns)

-- So much was settled after n results, from this queue and with this share. The queue was not found empty yet.
pub record SoFar (v : AtQueue) (h : Holding) (s : Sums) (w : AtQueue) (k : Holding) (n : ℕ) : Type 0 where
  pub full : w.full ≡ v.full
  pub empty : w.empty ≡ v.empty
  pub settled : Settled v.hand h (settling_of s) w.hand k
  pub count : s.settled ≡ n
  pub events : s.totals.events ≤ 2 * n
  pub ran : s.totals.ran ≤ 2 ^ 32 * n
  pub turns : s.totals.turns ≤ 2 ^ 32 * n
  pub enters : s.totals.enters ≤ 2 ^ 32 * n

none_yet : (n : ℕ) → n ≡ 0 → n ≤ 0
none_yet n is = omega arith

pub nothing_yet : (v : AtQueue) (h : Holding) (s : Sums) → settling_of s ≡ no_settling → SoFar v h s v h 0
nothing_yet v h s is = record {
  full = refl;
  empty = refl;
  settled = subst (λ (u : Settling). Settled v.hand h u v.hand h) (sym is) record {
    done = [];
    taken = ap (λ l. hand v.hand.put l) (sym (append-nil v.hand.taken));
    settled = refl;
    turns = refl;
    events = omega arith;
    entered = refl;
    enters = refl;
    share = grown_not h;
    refused = tt;
  };
  count = ap (λ (u : Settling). u.settled) is;
  events = none_yet _ (ap (λ (u : Settling). u.events) is);
  ran = none_yet _ (ap (λ (u : Settling). u.ran) is);
  turns = none_yet _ (ap (λ (u : Settling). u.turns) is);
  enters = none_yet _ (ap (λ (u : Settling). u.enters) is);
}

-- what one result adds
abbrev pub Adds : AtQueue → Holding → Totals → AtQueue → Holding → Type 0
Adds w k b x j = ((number : ℕ) × (quantum : ℕ) × (x ≡ with_taken w (loan_id b.turns number quantum))) × (j ≡ grown k b) × (b.turns < 2 ^ 32) × (b.ran < 2 ^ 32) × (b.enters < 2 ^ 32) × IsOfOne b × (b.events ≤ 2)

pub one_more : (v w x : AtQueue) (h k j : Holding) (s t : Sums) (b : Totals) (n : ℕ) → SoFar v h s w k n → Adds w k b x j → settling_of t ≡ more (settling_of s) b → SoFar v h t x j (n + 1)
one_more v w x h k j s t b n i a is = record {
  full = ap (λ (u : AtQueue). u.full) a.0.2 ∙ i.full;
  empty = ap (λ (u : AtQueue). u.empty) a.0.2 ∙ i.empty;
  settled = subst (λ (u : Settling). Settled v.hand h u x.hand j) (sym is) (settles_more v.hand w.hand x.hand h k j (settling_of s) b a.0.0 a.0.1 i.settled refl (ap (λ (u : AtQueue). u.hand) a.0.2) a.1 a.5);
  count = let c = i.count in omega (arith, ap (λ (u : Settling). u.settled) is, c);
  events = let c = i.events in omega (arith, ap (λ (u : Settling). u.events) is, c, a.6);
  ran = let c = i.ran in omega (arith, ap (λ (u : Settling). u.ran) is, c, a.3);
  turns = let c = i.turns in omega (arith, ap (λ (u : Settling). u.turns) is, c, a.2);
  enters = let c = i.enters in omega (arith, ap (λ (u : Settling). u.enters) is, c, a.4);
}

-- There is room for one more.
few : (n k : ℕ) → n ≡ k → k < 1024 → n < 2 ^ 32
few n k is below = omega arith

twice_few : (n k : ℕ) → n ≤ 2 * k → k < 1024 → n < 2 ^ 32
twice_few n k up below = omega arith

many : (n k : ℕ) → n ≤ 2 ^ 32 * k → k < 1024 → n < 2 ^ 48
many n k up below = omega arith

pub few_so_far : (v w : AtQueue) (h k : Holding) (s : Sums) (n : ℕ) → SoFar v h s w k n → n < 1024
    → ((s.settled < 2 ^ 32) × (s.totals.events < 2 ^ 32)) × (s.totals.ran < 2 ^ 48) × (s.totals.turns < 2 ^ 48) × (s.totals.enters < 2 ^ 48)
few_so_far v w h k s n i below = ((few _ n i.count below, twice_few _ n i.events below), many _ n i.ran below, many _ n i.turns below, many _ n i.enters below)

-- what a settling says in the end: what was settled, how it ended, and that at most 1,024 results were taken
abbrev pub ComesTo : AtQueue → Holding → Settling → AtQueue → Holding → Type 0
ComesTo v h s w k = Settled v.hand h s w.hand k × Ends v s w × (s.settled + length (rejected_in s.rejected) ≤ 1024)

none_more : (n k : ℕ) → n ≡ k → k ≤ 1024 → n + 0 ≤ 1024
none_more n k is below = omega arith

with_last : (n k : ℕ) → n ≡ k → k < 1024 → n + 1 ≤ 1024
with_last n k is below = omega arith

all_there : (n k : ℕ) → n ≡ k → k ≤ 1024 → 1024 ≤ k → n ≡ 1024
all_there n k is below above = omega arith

within : (k : ℕ) → k < 1024 → k ≤ 1024
within k below = omega arith

-- the queue was found empty
pub ends_empty : (v w x : AtQueue) (h k j : Holding) (s : Sums) (t : Settling) (n : ℕ) → SoFar v h s w k n → n < 1024 → x ≡ found_empty w → j ≡ k → t ≡ ended_with s None → ComesTo v h t x j
ends_empty v w x h k j s t n i below empty same is =
    let d = i.settled in
    subst (λ (u : Settling). ComesTo v h u x j) (sym is) (
      record { done = d.done; taken = ap (λ (u : AtQueue). u.hand) empty ∙ d.taken; settled = d.settled; turns = d.turns; events = d.events; entered = d.entered; enters = d.enters; share = same ∙ d.share; refused = d.refused },
      (ap (λ (u : AtQueue). u.full) empty ∙ i.full, inl (ap (λ (u : AtQueue). u.empty) empty ∙ ap (λ m. m + 1) i.empty)),
      none_more _ n i.count (within n below),
    )

-- a result was rejected
pub ends_rejected : (v w x : AtQueue) (h k j : Holding) (s : Sums) (t : Settling) (r : Rejected) (n : ℕ) → SoFar v h s w k n → n < 1024
    → (x ≡ with_taken w (id_of_result r.done)) × (j ≡ k) × SomeCoreRejects r → t ≡ ended_with s (Some r) → ComesTo v h t x j
ends_rejected v w x h k j s t r n i below one is =
    let d = i.settled in
    let before : w.hand ≡ hand v.hand.put (v.hand.taken ++ loans_in d.done) = d.taken ∙ ap (λ l. hand v.hand.put (v.hand.taken ++ l)) (append-nil (loans_in d.done)) in
    subst (λ (u : Settling). ComesTo v h u x j) (sym is) (
      record {
        done = d.done;
        taken = ap (λ (u : AtQueue). u.hand) one.0 ∙ ap (λ (u : Hand). took u (id_of_result r.done)) before ∙ ap (λ l. hand v.hand.put l) (append_assoc v.hand.taken (loans_in d.done) (id_of_result r.done ∷ []));
        settled = d.settled;
        turns = d.turns;
        events = d.events;
        entered = d.entered;
        enters = d.enters;
        share = one.1 ∙ d.share;
        refused = one.2;
      },
      (ap (λ (u : AtQueue). u.full) one.0 ∙ i.full, ap (λ (u : AtQueue). u.empty) one.0 ∙ i.empty),
      with_last _ n i.count below,
    )

-- 1,024 results were settled
pub ends_at_most : (v w : AtQueue) (h k : Holding) (s : Sums) (t : Settling) (n : ℕ) → SoFar v h s w k n → n ≤ 1024 → 1024 ≤ n → t ≡ ended_with s None → ComesTo v h t w k
ends_at_most v w h k s t n i up all is = subst (λ (u : Settling). ComesTo v h u w k) (sym is) (i.settled, (i.full, inr (i.empty, all_there _ n i.count up all)), none_more _ n i.count up)
