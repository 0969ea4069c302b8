-- How many states have a key.
use Rattle.std.proofs.Common.{arith, ◌≡◌, ◌∙◌, ◌++◌, ◌∷◌, [], ◌+◌, ◌≤◌, suc, ℕ, List, Bool, true, false, ap, sym, refl}
use Rattle.std.proofs.lemmas.Bool.{false≢true}
use Rattle.std.specs.Prelude.{◌||◌, if◌then◌else◌}
use Rattle.std.specs.List.{Contains}
use Rattle.std.proofs.lemmas.List.Elements.{Contains-append_left, Contains-append_right, Contains-push}
use Rattle.state_search.specs.Adding.{one_if}
use Rattle.state_search.specs.Keys.{is_same}
use Rattle.state_search.specs.Searches.{times}
use Rattle.state_search.specs.declared.key.Key.{Key}
use Rattle.state_search.specs.declared.moves.Found.{Found}
use Rattle.state_search.proofs.KeySets.{same-keys}

-- one of the states that were found has this key
pub record HasOne {S : Type 0} (found : List (Found S)) (k : Key) : Type 0 where
  pub one : Found S
  pub is_found : Contains found one
  pub same_key : one.key ≡ k

module _ {S : Type 0} (k : Key) where
  -- those of two lists
  pub times-append : (xs ys : List (Found S)) → times k (xs ++ ys) ≡ times k xs + times k ys
  times-append [] ys = omega arith
  times-append (f ∷ xs) ys = by (times-append xs ys) (is_same f.key k)
    where
      by : times k (xs ++ ys) ≡ times k xs + times k ys → (b : Bool)
          → (if b then suc (times k (xs ++ ys)) else times k (xs ++ ys)) ≡ (if b then suc (times k xs) else times k xs) + times k ys
      by rest true = omega (arith, rest)
      by rest false = rest

  -- where there is one, it is there
  pub one-of : (fs : List (Found S)) → times k fs ≡ 1 → HasOne fs k
  one-of [] is = absurd (let no : ⊥ = omega (arith, is) in no)
  one-of (f ∷ fs) is = by (one-of fs) (is_same f.key k) refl
    where
      by : (times k fs ≡ 1 → HasOne fs k) → (b : Bool) → is_same f.key k ≡ b → HasOne (f ∷ fs) k
      by rest true same = record { one = f; is_found = Contains-append_left (f ∷ []) fs f (Contains-push [] f); same_key = same-keys f.key k same }
      by rest false other =
          let one = rest (sym (ap (λ (b : Bool). if b then suc (times k fs) else times k fs) other) ∙ is) in
          record { one = one.one; is_found = Contains-append_right (f ∷ []) fs one.one one.is_found; same_key = one.same_key }

-- a state that is known once is there at most once
pub at-most-once : (n : ℕ) (known : Bool) → n ≡ one_if known → n ≤ 1
at-most-once n true is = omega (arith, is)
at-most-once n false is = omega (arith, is)

-- one more state whose key was not known
pub count-new : (same was now : Bool) (before after old : ℕ) → (same ≡ true → was ≡ false) → now ≡ (same || was) → after ≡ before + (if same then 1 else 0)
    → before + old ≡ one_if was → after + old ≡ one_if now
count-new true true now before after old fresh sets more is = absurd (false≢true (sym (fresh refl)))
count-new true false now before after old fresh sets more is = let ends = ap one_if sets in omega (arith, more, is, ends)
count-new false was now before after old fresh sets more is = let ends = ap one_if sets in omega (arith, more, is, ends)

-- one whose key was known
pub count-none : (same was now : Bool) → (same ≡ true → was ≡ true) → now ≡ (same || was) → was ≡ now
count-none true was now known sets = known refl ∙ sym sets
count-none false was now known sets = sym sets
