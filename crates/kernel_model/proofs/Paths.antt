-- The test of what an event rests on.
use Rattle.std.proofs.Common.{◌≡◌, ℕ, ◌+◌, ◌<◌, ◌⊎◌, inl, inr, Bool, true, false, if◌then◌else◌, IsTrue, List, [], ◌∷◌, ◌++◌, is_some, not, nat_lt, ◌||◌, refl, sym, subst, ◌∙◌}
use Rattle.kernel_model.specs.declared.carrier.Carrier.{Carrier}
use Rattle.kernel_model.specs.Entries.{Entry, meets}
use Rattle.std.proofs.lemmas.Bool.{false≢true, ltb-true, lt-ltb, both_ways, not-true, and_parts, and_from, or_cases, or_left, or_right}
use Rattle.kernel_model.specs.Paths.{Leads, RestsOn, change_count, wanted, is_durable_from}
use Rattle.kernel_model.proofs.Meets.{meets-append}

-- how many changes these events made
abbrev pub count_of : List Entry → ℕ
count_of [] = 0
count_of (d ∷ ds) = change_count d + count_of ds

-- the tests are what they say

pub meets_if : (ws xs rs : List Carrier) (b : Bool) → meets ws (if b then xs ++ rs else xs) ≡ true → (meets ws xs ≡ true) ⊎ ((meets ws rs ≡ true) × (b ≡ true))
meets_if ws xs rs true h = elim (or_cases (meets ws xs) (meets ws rs) (sym (meets-append ws xs rs) ∙ h)) [ inl t ↦ inl t | inr t ↦ inr (t, refl) ]
meets_if ws xs rs false h = inl h

if_meets : (ws xs rs : List Carrier) (b : Bool) → (meets ws xs ≡ true) ⊎ ((meets ws rs ≡ true) × (b ≡ true)) → meets ws (if b then xs ++ rs else xs) ≡ true
if_meets ws xs rs true (inl t) = meets-append ws xs rs ∙ or_left (meets ws xs) (meets ws rs) t
if_meets ws xs rs true (inr t) = meets-append ws xs rs ∙ or_right (meets ws xs) (meets ws rs) t.0
if_meets ws xs rs false (inl t) = t
if_meets ws xs rs false (inr t) = absurd (false≢true t.1)

pub leads_from : (ws : List Carrier) (ds : List Entry) (rs : List Carrier) → IsTrue (meets ws (wanted ds rs)) → Leads ws ds rs
leads_from ws [] rs h = h
leads_from ws (d ∷ ds) rs h = elim (meets_if ws (wanted ds rs) d.reads (meets d.writes (wanted ds rs)) h) [
  | inl t ↦ inl (leads_from ws ds rs t)
  | inr t ↦ inr (t.0, leads_from d.writes ds rs t.1)
]

pub leads_to : (ws : List Carrier) (ds : List Entry) (rs : List Carrier) → Leads ws ds rs → IsTrue (meets ws (wanted ds rs))
leads_to ws [] rs h = h
leads_to ws (d ∷ ds) rs (inl h) = if_meets ws (wanted ds rs) d.reads (meets d.writes (wanted ds rs)) (inl (leads_to ws ds rs h))
leads_to ws (d ∷ ds) rs (inr h) = if_meets ws (wanted ds rs) d.reads (meets d.writes (wanted ds rs)) (inr (h.0, leads_to d.writes ds rs h.1))

-- one test of a durable event
fine_from : (m l : Bool) (n c k : ℕ) → (not m || nat_lt n c || not l) ≡ true → m ≡ true → k ≡ n → l ≡ true → k < c
fine_from true true n c k h a e b = elim (or_cases (nat_lt n c) false h) [ inl t ↦ subst (λ (j : ℕ). j < c) (sym e) (ltb-true n c t) | inr t ↦ absurd (false≢true t) ]
fine_from true false n c k h a e b = absurd (false≢true b)
fine_from false l n c k h a e b = absurd (false≢true a)

fine_to : (m l : Bool) (n c : ℕ) → (m ≡ true → l ≡ true → n < c) → (not m || nat_lt n c || not l) ≡ true
fine_to true true n c f = or_left (nat_lt n c) false (lt-ltb n c (f refl refl))
fine_to true false n c f = or_right (nat_lt n c) true refl
fine_to false l n c f = refl

pub durable_from : (c n : ℕ) (past : List Entry) (d : Entry) → IsTrue (is_durable_from c n past d) → (k : ℕ) → RestsOn n past d k → k < c
durable_from c n [] d h k r = elim (or_cases (not (is_some d.change)) (nat_lt n c) h) [
  | inl t ↦ absurd (both_ways (is_some d.change) (not-true (is_some d.change) t) r.0)
  | inr t ↦ subst (λ (j : ℕ). j < c) (sym r.1) (ltb-true n c t)
]
durable_from c n (x ∷ xs) d h k (inl r) = fine_from (is_some x.change) (meets x.writes (wanted xs d.reads)) n c k (and_parts _ _ h).0 r.0 r.1 (leads_to x.writes xs d.reads r.2)
durable_from c n (x ∷ xs) d h k (inr r) = durable_from c (n + change_count x) xs d (and_parts _ _ h).1 k r

pub durable_to : (c n : ℕ) (past : List Entry) (d : Entry) → ((k : ℕ) → RestsOn n past d k → k < c) → IsTrue (is_durable_from c n past d)
durable_to c n [] d f = elim (is_some d.change) as (λ b. is_some d.change ≡ b → (not b || nat_lt n c) ≡ true) [
  | true ↦ λ e. lt-ltb n c (f n (e, refl))
  | false ↦ λ e. refl
] refl
durable_to c n (x ∷ xs) d f = and_from _ _
    (fine_to (is_some x.change) (meets x.writes (wanted xs d.reads)) n c (λ a b. f n (inl (a, refl, leads_from x.writes xs d.reads b))))
    (durable_to c (n + change_count x) xs d (λ k r. f k (inr r)))
