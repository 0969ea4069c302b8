-- Lists: an element by its place, what holds of each element, and the first of them.
use Rattle.std.proofs.Common.{◌≡◌, ℕ, zero, suc, ◌<◌, ◌==◌, min, Bool, false, List, [], ◌∷◌, ◌++◌, length, take, drop, slice_get, slice_set, Some, refl, sym, ap, ◌∙◌, subst, arith, inl, inr}
use Rattle.std.specs.List.{AllByRecursion}
use Rattle.std.proofs.lemmas.Bool.{cases_lt, false≢true}
use Rattle.std.proofs.lemmas.List.{take_all, drop_all}

module _ {A : Type 0} where
  pub get_same : (xs : List A) (i : ℕ) (x y : A) → slice_get xs i ≡ Some y → slice_get (slice_set xs i x) i ≡ Some x
  get_same [] i x y e = cc
  get_same (z ∷ zs) zero x y e = refl
  get_same (z ∷ zs) (suc i) x y e = get_same zs i x y e

  pub get_other : (xs : List A) (i j : ℕ) (x : A) → (j ≡ i → ⊥) → slice_get (slice_set xs i x) j ≡ slice_get xs j
  get_other [] i j x n = refl
  get_other (z ∷ zs) zero zero x n = absurd (n refl)
  get_other (z ∷ zs) zero (suc j) x n = refl
  get_other (z ∷ zs) (suc i) zero x n = refl
  get_other (z ∷ zs) (suc i) (suc j) x n = get_other zs i j x (λ e. n (ap suc e))

  pub set_same : (xs : List A) (i : ℕ) (x : A) → slice_get xs i ≡ Some x → slice_set xs i x ≡ xs
  set_same [] i x e = refl
  set_same (z ∷ zs) zero x e = let same : x ≡ z = cc in ap (λ y. y ∷ zs) same
  set_same (z ∷ zs) (suc i) x e = ap (λ ws. z ∷ ws) (set_same zs i x e)

module _ {A : Type 0} (P : A → Type 0) where
  pub each_get : (xs : List A) (i : ℕ) (x : A) → AllByRecursion P xs → slice_get xs i ≡ Some x → P x
  each_get [] i x h e = absurd (let no : ⊥ = cc in no)
  each_get (y ∷ ys) zero x h e = let is : y ≡ x = cc in subst P is h.0
  each_get (y ∷ ys) (suc i) x h e = each_get ys i x h.1 e

  pub each_set : (xs : List A) (i : ℕ) (x : A) → P x → AllByRecursion P xs → AllByRecursion P (slice_set xs i x)
  each_set [] i x p h = tt
  each_set (y ∷ ys) zero x p h = (p, h.1)
  each_set (y ∷ ys) (suc i) x p h = (h.0, each_set ys i x p h.1)

  pub each_more : (Q : A → Type 0) → ((x : A) → P x → Q x) → (xs : List A) → AllByRecursion P xs → AllByRecursion Q xs
  each_more Q f [] h = tt
  each_more Q f (x ∷ xs) h = (f x h.0, each_more Q f xs h.1)

  pub each_append : (xs ys : List A) → AllByRecursion P xs → AllByRecursion P ys → AllByRecursion P (xs ++ ys)
  each_append [] ys f g = g
  each_append (x ∷ xs) ys f g = (f.0, each_append xs ys f.1 g)

  pub each_take : (n : ℕ) (xs : List A) → AllByRecursion P xs → AllByRecursion P (take n xs)
  each_take zero xs f = tt
  each_take (suc n) [] f = tt
  each_take (suc n) (x ∷ xs) f = (f.0, each_take n xs f.1)

  pub each_drop : (n : ℕ) (xs : List A) → AllByRecursion P xs → AllByRecursion P (drop n xs)
  each_drop zero xs f = f
  each_drop (suc n) [] f = tt
  each_drop (suc n) (x ∷ xs) f = each_drop n xs f.1

-- the first of them, at most so many, and the rest
pub least_of : {A : Type 0} (n size : ℕ) (rest : List A) → n ≡ min (length rest) size → (take n rest ≡ take size rest) × (drop n rest ≡ drop size rest)
least_of n size rest e = elim (cases_lt size (length rest)) as (λ _. (take n rest ≡ take size rest) × (drop n rest ≡ drop size rest)) [
  | inl lt ↦ (let k : n ≡ size = omega arith in (ap (λ (j : ℕ). take j rest) k, ap (λ (j : ℕ). drop j rest) k))
  | inr le ↦ (take_all n rest (omega arith) ∙ sym (take_all size rest le), drop_all n rest (omega arith) ∙ sym (drop_all size rest le))
]

-- a test for 0 that failed
pub some_of : (b : Bool) (n : ℕ) → b ≡ (n == 0) → b ≡ false → 0 < n
some_of b zero e f = absurd (false≢true (sym f ∙ e))
some_of b (suc n) e f = omega arith

-- what is added at the end stands there
pub slice_get-last : {A : Type 0} (xs : List A) (x : A) → slice_get (xs ++ x ∷ []) (length xs) ≡ Some x
slice_get-last [] x = refl
slice_get-last (y ∷ ys) x = slice_get-last ys x
