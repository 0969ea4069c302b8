-- What is released is the longest prefix that is durable.
use Rattle.std.proofs.Common.{◌≡◌, ℕ, zero, suc, ◌<◌, true, false, if◌then◌else◌, List, [], ◌∷◌, slice_get, Some, refl, ap, subst, arith}
use Rattle.std.proofs.lemmas.Bool.{both_ways}
use Rattle.kernel_model.specs.Paths.{IsDurable, is_durable}
use Rattle.kernel_model.specs.Shown.{Given, prefix, released}
use Rattle.kernel_model.proofs.Paths.{durable_from, durable_to}
use Rattle.kernel_model.specs.Views.{contents}
use Rattle.kernel_laws.specs.Promises.{IsLongestPrefix}

-- one more that is durable, before a prefix
one_more : {A : Type 0} (c : ℕ) (x : Given A) (xs : List (Given A)) (seen : List A)
    → IsDurable c x.past x.entry → IsLongestPrefix c xs seen → IsLongestPrefix c (x ∷ xs) (x.what ∷ seen)
one_more {A} c x xs seen h f = record {
  count = suc f.count;
  prefix = ap (λ ys. x.what ∷ ys) f.prefix;
  durable = each;
  longest = λ y e. f.longest y e;
}
  where
    each : (i : ℕ) (y : Given A) → i < suc f.count → slice_get (x ∷ xs) i ≡ Some y → IsDurable c y.past y.entry
    each zero y below e = let same : x ≡ y = cc in subst (λ (z : Given A). IsDurable c z.past z.entry) same h
    each (suc i) y below e = f.durable i y (omega arith) e

-- one that is not durable ends the prefix
no_more : {A : Type 0} (c : ℕ) (x : Given A) (xs : List (Given A)) → (IsDurable c x.past x.entry → ⊥) → IsLongestPrefix c (x ∷ xs) []
no_more {A} c x xs h = record {
  count = 0;
  prefix = refl;
  durable = λ i y below e. absurd (omega arith);
  longest = λ y e. let same : y ≡ x = cc in λ s. h (subst (λ (z : Given A). IsDurable c z.past z.entry) same s);
}

pub released_is : {A : Type 0} (c : ℕ) (xs : List (Given A)) → IsLongestPrefix c xs (released c xs)
released_is c [] = record { count = 0; prefix = refl; durable = λ i y below e. absurd (omega arith); longest = λ y e. cc }
released_is {A} c (x ∷ xs) = elim (is_durable c x.past x.entry) as (λ b. is_durable c x.past x.entry ≡ b
    → IsLongestPrefix c (x ∷ xs) (contents (if b then x ∷ prefix (λ y. is_durable c y.past y.entry) xs else []))) [
      | true ↦ λ h. one_more c x xs (released c xs) (durable_from c 0 x.past x.entry h) (released_is c xs)
      | false ↦ λ h. no_more c x xs (λ s. both_ways (is_durable c x.past x.entry) h (durable_to c 0 x.past x.entry s))
    ] refl
