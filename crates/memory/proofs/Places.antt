-- The run of pages that has a word.
use Rattle.std.proofs.Common.{◌≡◌, ℕ, suc, zero, ◌+◌, ◌-◌, ◌<◌, ◌≤◌, Bool, true, false, cond, List, [], ◌∷◌, length, refl, sym, ap, ◌∙◌, arith, inl, inr, subst}
use Rattle.std.specs.Prelude.{◌==◌, ◌≢◌, ◌&&◌, nat_lt, nat_le, slice_index_or, slice_set, Option, Some, None, map, position}
use Rattle.std.specs.List.{position_from}
use Rattle.std.proofs.lemmas.Iterator.Adapters.{position_from-zero}
use Rattle.std.proofs.lemmas.List.Quantifiers.{position-Some}
use Rattle.std.proofs.Math.ListN.{get_or-map}
use Rattle.std.proofs.lemmas.Bool.{eqb-true}
use Rattle.std.proofs.lemmas.Bool.Decides.{nat_tests, eqb_tells}
use Rattle.std.proofs.lemmas.Grind.{common_steps}
use Rattle.memory.specs.Words.{Word, word_fault}
use Rattle.memory_model.specs.declared.access.BusFault.TheVariants.{NoRight}
use Rattle.memory.proofs.WordStore.{with_word}
use Rattle.memory.specs.Pages.{Pages, MissesNear, has_word, word_in, word_among}

pub has_word-range : (p : Pages) (n : ℕ) → has_word p n ≡ true → (p.first ≤ n) × (n < p.first + length p.words)
has_word-range p n h = in_range p.first n (length p.words) h
  where
    in_range : (a n k : ℕ) → (nat_le a n && nat_lt (n - a) k) ≡ true → (a ≤ n) × (n < a + k)
    in_range a n k h = (grind (arith, nat_tests), grind (arith, nat_tests))

pub among-at : (write : Bool) (parts : List Pages) (rest : Option Word) (i n : ℕ) (d : Pages) → i < length parts → has_word (slice_index_or parts i d) n ≡ true → ((k : ℕ) → k < i → has_word (slice_index_or parts k d) n ≡ false)
    → word_among write parts rest n ≡ Some (word_in write (slice_index_or parts i d) n)
among-at write [] rest i n d h t b = absurd (omega arith)
among-at write (q ∷ qs) rest zero n d h t b = ap (λ (r : Bool). cond r (Some (word_in write q n)) (word_among write qs rest n)) t
among-at write (q ∷ qs) rest (suc i) n d h t b =
    ap (λ (r : Bool). cond r (Some (word_in write q n)) (word_among write qs rest n)) (b 0 (omega arith))
    ∙ among-at write qs rest i n d (omega arith) t (λ k lt. b (suc k) (omega arith))

pub among-found : (write : Bool) (parts : List Pages) (rest : Option Word) (i n : ℕ) (p : Pages) → position (λ p. has_word p n) parts ≡ Some i → p ≡ slice_index_or parts i p → word_among write parts rest n ≡ Some (word_in write p n)
among-found write parts rest i n p at is =
    let f = position-Some (λ p. has_word p n) parts i p at in
    among-at write parts rest i n p f.0 f.1 f.2 ∙ ap (λ (q : Pages). Some (word_in write q n)) (sym is)

pub found-has : (parts : List Pages) (i n : ℕ) (p : Pages) → position (λ p. has_word p n) parts ≡ Some i → p ≡ slice_index_or parts i p → has_word p n ≡ true
found-has parts i n p at is =
    let f = position-Some (λ p. has_word p n) parts i p at in
    ap (λ (q : Pages). has_word q n) is ∙ f.1

pub no_some : {A : Type 0} {x : A} → Some x ≡ None → ⊥
no_some e = cc

none-step : (b : Bool) (k : ℕ) (after : Option ℕ) (x y rest : Option Word) → (after ≡ None → y ≡ rest) → cond b (Some k) after ≡ None → cond b x y ≡ rest
none-step true k after x y rest f e = absurd (no_some e)
none-step false k after x y rest f e = f e

among-none : (write : Bool) (parts : List Pages) (rest : Option Word) (n k : ℕ) → position_from (λ p. has_word p n) k parts ≡ None → word_among write parts rest n ≡ rest
among-none write [] rest n k e = refl
among-none write (q ∷ qs) rest n k e = none-step (has_word q n) k _ (Some (word_in write q n)) _ rest (among-none write qs rest n (k + 1)) e

pub among-missing : (write : Bool) (parts : List Pages) (rest : Option Word) (n : ℕ) → position (λ p. has_word p n) parts ≡ None → word_among write parts rest n ≡ rest
among-missing write parts rest n e = among-none write parts rest n 0 (sym (position_from-zero (λ p. has_word p n) parts) ∙ e)

-- what the first two runs lack stands in the others
pub among-past : (write : Bool) (p q : Pages) (ps : List Pages) (rest : Option Word) (n : ℕ) → has_word p n ≡ false → has_word q n ≡ false → word_among write (p ∷ q ∷ ps) rest n ≡ word_among write ps rest n
among-past write p q ps rest n e f = λ i. cond (e i) (Some (word_in write p n)) (cond (f i) (Some (word_in write q n)) (word_among write ps rest n))

pub misses-near : (own : List Pages) (p q : Pages) (ps : List Pages) (n : ℕ) → p ∷ q ∷ ps ≡ own → MissesNear own n → (has_word p n ≡ false) × (has_word q n ≡ false)
misses-near own p q ps n e m = subst (λ (os : List Pages). MissesNear os n) (sym e) m

-- where there are no other runs, what the two lack stands after them
pub only-near : (own : List Pages) (rest : Option Word) (n : ℕ) → length own ≡ 2 → MissesNear own n → word_among true own rest n ≡ rest
only-near [] rest n e m = absurd (omega arith)
only-near (p ∷ []) rest n e m = absurd (omega arith)
only-near (p ∷ q ∷ []) rest n e m = among-past true p q [] rest n m.0 m.1
only-near (p ∷ q ∷ r ∷ ps) rest n e m = absurd (omega arith)

-- the same of parts after a view
shared-none : {X : Type 0} (v : X → Pages) (write : Bool) (xs : List X) (rest : Option Word) (n k : ℕ) → position_from (λ x. has_word (v x) n) k xs ≡ None → word_among write (map v xs) rest n ≡ rest
shared-none v write [] rest n k e = refl
shared-none v write (q ∷ qs) rest n k e = none-step (has_word (v q) n) k _ (Some (word_in write (v q) n)) _ rest (shared-none v write qs rest n (k + 1)) e

pub shared-missing : {X : Type 0} (v : X → Pages) (write : Bool) (xs : List X) (rest : Option Word) (n : ℕ) → position (λ x. has_word (v x) n) xs ≡ None → word_among write (map v xs) rest n ≡ rest
shared-missing v write xs rest n e = shared-none v write xs rest n 0 (sym (position_from-zero (λ x. has_word (v x) n) xs) ∙ e)

pub shared-found : {X : Type 0} (v : X → Pages) (write : Bool) (xs : List X) (rest : Option Word) (i n : ℕ) (x : X) → position (λ x. has_word (v x) n) xs ≡ Some i → x ≡ slice_index_or xs i x → word_among write (map v xs) rest n ≡ Some (word_in write (v x) n)
shared-found v write xs rest i n x at is =
    let f = position-Some (λ x. has_word (v x) n) xs i x at in
    among-at write (map v xs) rest i n (v x) (length-map v xs f.0) (ap (λ (q : Pages). has_word q n) (get_or-map v xs i x) ∙ f.1) (λ k lt. ap (λ (q : Pages). has_word q n) (get_or-map v xs k x) ∙ f.2 k lt)
    ∙ ap (λ (q : Pages). Some (word_in write q n)) (get_or-map v xs i x ∙ ap v (sym is))
  where
    length-map : {Y : Type 0} (v : Y → Pages) (ys : List Y) {j : ℕ} → j < length ys → j < length (map v ys)
    length-map v ys h = grind (arith, common_steps)

pub shared-has : {X : Type 0} (v : X → Pages) (xs : List X) (i n : ℕ) (x : X) → position (λ x. has_word (v x) n) xs ≡ Some i → x ≡ slice_index_or xs i x → has_word (v x) n ≡ true
shared-has v xs i n x at is =
    let f = position-Some (λ x. has_word (v x) n) xs i x at in
    ap (λ q. has_word (v q) n) is ∙ f.1

cond_same : (b : Bool) (x y z : Option Word) → (b ≡ true → x ≡ y) → cond b x z ≡ cond b y z
cond_same true x y z e = e refl
cond_same false x y z e = refl

-- a fixed part that has the word lacks the right to write
fixed-step : (b : Bool) (k i : ℕ) (after : Option ℕ) (x : Word) (y : Option Word) → x.rights.write ≡ false → (after ≡ Some i → word_fault (λ r. r.write) y ≡ Some NoRight) → cond b (Some k) after ≡ Some i → word_fault (λ r. r.write) (cond b (Some x) y) ≡ Some NoRight
fixed-step true k i after x y w f e = rw w refl
fixed-step false k i after x y w f e = f e

fixed-some : {X : Type 0} (v : X → Pages) (xs : List X) (rest : Option Word) (n k i : ℕ) → position_from (λ x. has_word (v x) n) k xs ≡ Some i → word_fault (λ r. r.write) (word_among false (map v xs) rest n) ≡ Some NoRight
fixed-some v [] rest n k i e = cc
fixed-some v (q ∷ qs) rest n k i e = fixed-step (has_word (v q) n) k i _ (word_in false (v q) n) _ refl (fixed-some v qs rest n (k + 1) i) e

pub fixed-found : {X : Type 0} (v : X → Pages) (xs : List X) (rest : Option Word) (n i : ℕ) → position (λ x. has_word (v x) n) xs ≡ Some i → word_fault (λ r. r.write) (word_among false (map v xs) rest n) ≡ Some NoRight
fixed-found v xs rest n i e = fixed-some v xs rest n 0 i (sym (position_from-zero (λ x. has_word (v x) n) xs) ∙ e)

-- a part is replaced by one that differs at one word
set-step : (t h : Bool) (x y z : Option Word) → (t ≡ true → h ≡ false) → cond h y (cond t x z) ≡ cond t x (cond h y z)
set-step true true x y z e = absurd (off (e refl))
  where
    off : true ≡ false → ⊥
    off e = cc
set-step true false x y z e = refl
set-step false true x y z e = refl
set-step false false x y z e = refl

pub among-set : (write : Bool) (parts : List Pages) (rest : Option Word) (i n : ℕ) (d new : Pages) → i < length parts → has_word (slice_index_or parts i d) n ≡ true → ((k : ℕ) → k < i → has_word (slice_index_or parts k d) n ≡ false)
    → new.first ≡ (slice_index_or parts i d).first → length new.words ≡ length (slice_index_or parts i d).words → ((m : ℕ) → m ≢ n → has_word (slice_index_or parts i d) m ≡ true → word_in write new m ≡ word_in write (slice_index_or parts i d) m)
    → (m : ℕ) → word_among write (slice_set parts i new) rest m ≡ with_word (word_among write parts rest) n (Some (word_in write new n)) m
among-set write [] rest i n d new h t b first len same m = absurd (omega arith)
among-set write (q ∷ qs) rest zero n d new h t b first len same m =
    ap (λ (r : Bool). cond r (Some (word_in write new m)) (word_among write qs rest m)) (has_same m)
    ∙ elim (eqb_tells m n) [
      | inl e ↦ rw e.0 (here e.1)
      | inr e ↦ rw e.0 (cond_same (has_word q m) _ _ _ (λ (f : has_word q m ≡ true). ap (λ (w : Word). Some w) (same m e.1 f)))
    ]
  where
    has_same : (m : ℕ) → has_word new m ≡ has_word q m
    has_same m = λ i. nat_le (first i) m && nat_lt (m - first i) (len i)

    here : m ≡ n → cond (has_word q m) (Some (word_in write new m)) (word_among write qs rest m) ≡ Some (word_in write new n)
    here e = ap (λ (r : Bool). cond r (Some (word_in write new m)) (word_among write qs rest m)) (ap (has_word q) e ∙ t) ∙ ap (λ k. Some (word_in write new k)) e
among-set write (q ∷ qs) rest (suc i) n d new h t b first len same m =
    ap (cond (has_word q m) (Some (word_in write q m))) (among-set write qs rest i n d new (omega arith) t (λ k lt. b (suc k) (omega arith)) first len same m)
    ∙ set-step (m == n) (has_word q m) (Some (word_in write new n)) (Some (word_in write q m)) (word_among write qs rest m) (λ e. ap (has_word q) (eqb-true m n e) ∙ b 0 (omega arith))

-- the first of the shared runs, where the own runs have no word
pub shared-first : {X : Type 0} (v : X → Pages) (xs : List X) (x : X) (rest : Option Word) (n : ℕ) → 1 ≤ length xs → x ≡ slice_index_or xs 0 x → has_word (v x) n ≡ true → word_among false (map v xs) rest n ≡ Some (word_in false (v x) n)
shared-first v [] x rest n h e has = absurd (omega arith)
shared-first v (y ∷ ys) x rest n h e has = ap (λ z. word_among false (v z ∷ map v ys) rest n) (sym e) ∙ (λ i. cond (has i) (Some (word_in false (v x) n)) (word_among false (map v ys) rest n))
