-- On what an event rests: a path to an event goes on along each path from it.
use Rattle.std.proofs.Common.{◌≡◌, ℕ, ◌+◌, ◌<◌, ◌≤◌, ◌⊎◌, inl, inr, ◌||◌, true, false, List, [], ◌∷◌, ◌++◌, is_some, sym, subst, arith}
use Rattle.std.proofs.lemmas.Bool.{false≢true, or_cases, or_left, or_right}
use Rattle.kernel_model.specs.Entries.{Entry, is_same, is_among, meets}
use Rattle.kernel_model.specs.Paths.{Leads, RestsOn, change_count, is_durable}
use Rattle.kernel_model.specs.Steps.{own_entry}
use Rattle.kernel_model.specs.declared.carrier.Carrier.{Carrier}
use Rattle.kernel_model.specs.declared.carrier.Carrier.TheVariants.{Proc}
use Rattle.kernel_model.proofs.Paths.{count_of, durable_from, durable_to}
use Rattle.kernel_model.proofs.Meets.{same_is}

-- ---- carriers
-- who meets a carrier that is among these meets them
pub meets_wide : (vs : List Carrier) (c : Carrier) (cs : List Carrier) → meets vs (c ∷ []) ≡ true → is_among c cs ≡ true → meets vs cs ≡ true
meets_wide [] c cs h m = absurd (false≢true h)
meets_wide (v ∷ vs) c cs h m = elim (or_cases (is_same v c || false) (meets vs (c ∷ [])) h) [
  | inl t ↦ or_left (is_among v cs) (meets vs cs) (by (or_cases (is_same v c) false t))
  | inr t ↦ or_right (is_among v cs) (meets vs cs) (meets_wide vs c cs t m)
]
  where
    by : (is_same v c ≡ true) ⊎ (false ≡ true) → is_among v cs ≡ true
    by (inl t) = subst (λ (w : Carrier). is_among w cs ≡ true) (sym (same_is v c t)) m
    by (inr t) = absurd (false≢true t)

-- ---- paths
leads_now : (ys : List Entry) (ws rs : List Carrier) → meets ws rs ≡ true → Leads ws ys rs
leads_now [] ws rs h = h
leads_now (y ∷ ys) ws rs h = inl (leads_now ys ws rs h)

leads_on : (xs : List Entry) (ws : List Carrier) (e : Entry) (ys : List Entry) (rs : List Carrier) → Leads ws xs e.reads → meets e.writes rs ≡ true → Leads ws (xs ++ e ∷ ys) rs
leads_on [] ws e ys rs h m = inr (h, leads_now ys e.writes rs m)
leads_on (x ∷ xs) ws e ys rs (inl h) m = inl (leads_on xs ws e ys rs h m)
leads_on (x ∷ xs) ws e ys rs (inr h) m = inr (h.0, leads_on xs x.writes e ys rs h.1 m)

-- what an event rests on, each later one rests on that reads what it wrote
pub rests_on : (past : List Entry) (n : ℕ) (e : Entry) (ys : List Entry) (r : Entry) (k : ℕ) → RestsOn n past e k → meets e.writes r.reads ≡ true → RestsOn n (past ++ e ∷ ys) r k
rests_on [] n e ys r k h m = inl (h.0, h.1, leads_now ys e.writes r.reads m)
rests_on (x ∷ xs) n e ys r k (inl h) m = inl (h.0, h.1, leads_on xs x.writes e ys r.reads h.2 m)
rests_on (x ∷ xs) n e ys r k (inr h) m = inr (rests_on xs (n + change_count x) e ys r k h m)

leads_wide : (xs : List Entry) (ws : List Carrier) (c : Carrier) (rs : List Carrier) → is_among c rs ≡ true → Leads ws xs (c ∷ []) → Leads ws xs rs
leads_wide [] ws c rs m h = meets_wide ws c rs h m
leads_wide (x ∷ xs) ws c rs m (inl h) = inl (leads_wide xs ws c rs m h)
leads_wide (x ∷ xs) ws c rs m (inr h) = inr (h.0, leads_wide xs x.writes c rs m h.1)

-- what a process rests on, each event rests on that reads it
pub rests_own : (past : List Entry) (n p : ℕ) (e : Entry) (k : ℕ) → is_among (Proc p) e.reads ≡ true → RestsOn n past (own_entry p) k → RestsOn n past e k
rests_own [] n p e k m h = absurd (false≢true h.0)
rests_own (x ∷ xs) n p e k m (inl h) = inl (h.0, h.1, leads_wide xs x.writes (Proc p) e.reads m h.2)
rests_own (x ∷ xs) n p e k m (inr h) = inr (rests_own xs (n + change_count x) p e k m h)

leads_skip : (xs : List Entry) (ws : List Carrier) (e : Entry) (rs : List Carrier) → Leads ws xs rs → Leads ws (xs ++ e ∷ []) rs
leads_skip [] ws e rs h = inl h
leads_skip (x ∷ xs) ws e rs (inl h) = inl (leads_skip xs ws e rs h)
leads_skip (x ∷ xs) ws e rs (inr h) = inr (h.0, leads_skip xs x.writes e rs h.1)

pub rests_skip : (past : List Entry) (n p : ℕ) (e : Entry) (k : ℕ) → RestsOn n past (own_entry p) k → RestsOn n (past ++ e ∷ []) (own_entry p) k
rests_skip [] n p e k h = absurd (false≢true h.0)
rests_skip (x ∷ xs) n p e k (inl h) = inl (h.0, h.1, leads_skip xs x.writes e (Proc p ∷ []) h.2)
rests_skip (x ∷ xs) n p e k (inr h) = inr (rests_skip xs (n + change_count x) p e k h)

-- ---- numbers
pub count-append : (xs ys : List Entry) → count_of (xs ++ ys) ≡ count_of xs + count_of ys
count-append [] ys = omega arith
count-append (x ∷ xs) ys = omega (arith, count-append xs ys)

-- an event rests on its own change
pub rests_self : (past : List Entry) (n : ℕ) (e : Entry) → is_some e.change ≡ true → RestsOn n past e (n + count_of past)
rests_self [] n e h = (h, omega arith)
rests_self (x ∷ xs) n e h =
    let same : n + change_count x + count_of xs ≡ n + (change_count x + count_of xs) = omega arith in
    inr (subst (λ (k : ℕ). RestsOn (n + change_count x) xs e k) same (rests_self xs (n + change_count x) e h))

-- and on none later
pub rests_most : (past : List Entry) (n : ℕ) (e : Entry) (k : ℕ) → RestsOn n past e k → k ≤ n + count_of past
rests_most [] n e k h = let same : k ≡ n = h.1 in omega (arith, same)
rests_most (x ∷ xs) n e k (inl h) = let same : k ≡ n = h.1 in omega (arith, same)
rests_most (x ∷ xs) n e k (inr h) = omega (arith, rests_most xs (n + change_count x) e k h)

-- ---- durable
-- one that leads to a durable one is durable
pub durable_back : (c : ℕ) (past : List Entry) (e : Entry) (ys : List Entry) (r : Entry) → is_durable c (past ++ e ∷ ys) r ≡ true → meets e.writes r.reads ≡ true → is_durable c past e ≡ true
durable_back c past e ys r h m = durable_to c 0 past e (λ k rests. durable_from c 0 (past ++ e ∷ ys) r h k (rests_on past 0 e ys r k rests m))

-- an event with a change is durable exactly where the change is committed
pub durable_change : (c : ℕ) (past : List Entry) (e : Entry) → is_some e.change ≡ true → is_durable c past e ≡ true → count_of past < c
durable_change c past e made h = let less = durable_from c 0 past e h (0 + count_of past) (rests_self past 0 e made) in omega (arith, less)

pub change_durable : (c : ℕ) (past : List Entry) (e : Entry) → count_of past < c → is_durable c past e ≡ true
change_durable c past e less = durable_to c 0 past e (λ k rests. let most = rests_most past 0 e k rests in let under : k < c = omega (arith, most, less) in under)

pub durable_own : (c : ℕ) (past : List Entry) (e : Entry) (p : ℕ) → is_among (Proc p) e.reads ≡ true → is_durable c past e ≡ true → is_durable c past (own_entry p) ≡ true
durable_own c past e p m h = durable_to c 0 past (own_entry p) (λ k rests. durable_from c 0 past e h k (rests_own past 0 p e k m rests))

pub durable_skip : (c : ℕ) (past : List Entry) (e : Entry) (p : ℕ) → is_durable c (past ++ e ∷ []) (own_entry p) ≡ true → is_durable c past (own_entry p) ≡ true
durable_skip c past e p h = durable_to c 0 past (own_entry p) (λ k rests. durable_from c 0 (past ++ e ∷ []) (own_entry p) h k (rests_skip past 0 p e k rests))
