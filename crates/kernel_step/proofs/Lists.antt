-- Lists by their places.
use Rattle.std.proofs.Common.{◌≡◌, ℕ, zero, suc, ◌+◌, ◌<◌, ◌≤◌, ◌⊎◌, inl, inr, Bool, List, [], ◌∷◌, ◌++◌, length, map, take, get_or, slice_get, slice_set, slice_index_or, Option, Some, None, option_to_list, count_by, refl, sym, ap, subst, ◌∙◌, arith, if◌then◌else◌}
use Rattle.std.proofs.lemmas.Option.{slice_get-get_or}
use Rattle.std.specs.List.{AllByRecursion}
use Rattle.std.proofs.lemmas.List.Sums.{sum_by-cons}

pub get-map : {A B : Type 0} (f : A → B) (xs : List A) (i : ℕ) (x : A) → slice_get xs i ≡ Some x → slice_get (map f xs) i ≡ Some (f x)
get-map f [] i x e = cc
get-map f (y ∷ ys) zero x e = let same : y ≡ x = cc in ap (λ z. Some (f z)) same
get-map f (y ∷ ys) (suc i) x e = get-map f ys i x e

-- an element that an index gave
pub get-there : {A : Type 0} (xs : List A) (i : ℕ) (x : A) → i < length xs → x ≡ slice_index_or xs i x → slice_get xs i ≡ Some x
get-there xs i x h e = slice_get-get_or xs i x h ∙ ap (λ y. Some y) (sym e)

-- something stands at each place within
pub some-there : {A : Type 0} (xs : List A) (i : ℕ) → i < length xs → (x : A) × (slice_get xs i ≡ Some x)
some-there [] i h = absurd (omega arith)
some-there (x ∷ xs) zero h = (x, refl)
some-there (x ∷ xs) (suc i) h = some-there xs i (omega arith)

-- what stands in a list where x was set
pub get-set : {A : Type 0} (xs : List A) (i j : ℕ) (x y : A) → slice_get (slice_set xs i x) j ≡ Some y
    → ((j ≡ i) × (y ≡ x)) ⊎ ((j ≡ i → ⊥) × (slice_get xs j ≡ Some y))
get-set [] i j x y e = cc
get-set (z ∷ zs) zero zero x y e = inl (refl, cc)
get-set (z ∷ zs) zero (suc j) x y e = inr ((λ h. absurd (omega arith)), e)
get-set (z ∷ zs) (suc i) zero x y e = inr ((λ h. absurd (omega arith)), e)
get-set (z ∷ zs) (suc i) (suc j) x y e = elim (get-set zs i j x y e) [
  | inl h ↦ inl (ap (λ k. suc k) h.0, h.1)
  | inr h ↦ inr ((λ g. h.0 (omega arith)), h.1)
]

-- what a function does not see is not changed
pub map-set-same : {A B : Type 0} (f : A → B) (xs : List A) (i : ℕ) (x y : A) → slice_get xs i ≡ Some x → f y ≡ f x → map f (slice_set xs i y) ≡ map f xs
map-set-same f [] i x y e h = refl
map-set-same f (z ∷ zs) zero x y e h = let same : z ≡ x = cc in ap (λ v. v ∷ map f zs) (h ∙ ap f (sym same))
map-set-same f (z ∷ zs) (suc i) x y e h = ap (λ vs. f z ∷ vs) (map-set-same f zs i x y e h)

-- how many pass, the first apart
pub count-cons : {A : Type 0} (p : A → Bool) (x : A) (xs : List A) → count_by p (x ∷ xs) ≡ (if p x then 1 else 0) + count_by p xs
count-cons p x xs = sum_by-cons (λ y. if p y then 1 else 0) x xs

pub count-set-same : {A : Type 0} (p : A → Bool) (xs : List A) (i : ℕ) (x y : A) → slice_get xs i ≡ Some x → p y ≡ p x
    → count_by p (slice_set xs i y) ≡ count_by p xs
count-set-same p [] i x y e h = refl
count-set-same p (z ∷ zs) zero x y e h =
    let same : z ≡ x = cc in
    count-cons p y zs ∙ ap (λ b. (if b then 1 else 0) + count_by p zs) (h ∙ ap p (sym same)) ∙ sym (count-cons p z zs)
count-set-same p (z ∷ zs) (suc i) x y e h =
    count-cons p z (slice_set zs i y) ∙ ap (λ n. (if p z then 1 else 0) + n) (count-set-same p zs i x y e h) ∙ sym (count-cons p z zs)

pub count-map : {A B : Type 0} (f : A → B) (p : B → Bool) (xs : List A) → count_by p (map f xs) ≡ count_by (λ x. p (f x)) xs
count-map f p [] = refl
count-map f p (x ∷ xs) =
    count-cons p (f x) (map f xs) ∙ ap (λ n. (if p (f x) then 1 else 0) + n) (count-map f p xs) ∙ sym (count-cons (λ y. p (f y)) x xs)

-- what holds of the first i elements and of the next holds of one more
pub all-more : {A : Type 0} (P : A → Type 0) (xs : List A) (i : ℕ) (x : A) → i < length xs → x ≡ get_or xs i x → AllByRecursion P (take i xs) → P x
    → AllByRecursion P (take (i + 1) xs)
all-more P [] i x within is h one = absurd (omega arith)
all-more P (y ∷ ys) zero x within is h one = (subst P is one, tt)
all-more {A} P (y ∷ ys) (suc i) x within is h one =
    let next : suc i + 1 ≡ suc (i + 1) = omega arith in
    subst (λ (k : ℕ). AllByRecursion P (take k (y ∷ ys))) (sym next) (h.0, all-more P ys i x (omega arith) is h.1 one)

-- what holds of as many elements as there are holds of all
pub all-taken : {A : Type 0} (P : A → Type 0) (xs : List A) (i : ℕ) → length xs ≤ i → AllByRecursion P (take i xs) → AllByRecursion P xs
all-taken P [] i all h = tt
all-taken P (y ∷ ys) zero all h = absurd (omega arith)
all-taken P (y ∷ ys) (suc i) all h = (h.0, all-taken P ys i (omega arith) h.1)

-- the element at a place of a list that is another one
pub get-reserved : {A : Type 0} (xs ys : List A) (i : ℕ) (x : A) → ys ≡ xs → i < length xs → x ≡ slice_index_or ys i x → slice_get xs i ≡ Some x
get-reserved xs ys i x same h e = get-there xs i x h (e ∙ ap (λ zs. slice_index_or zs i x) same)

pub get-set-here : {A : Type 0} (xs : List A) (i : ℕ) (x : A) → i < length xs → slice_get (slice_set xs i x) i ≡ Some x
get-set-here [] i x h = absurd (omega arith)
get-set-here (y ∷ ys) zero x h = refl
get-set-here (y ∷ ys) (suc i) x h = get-set-here ys i x (omega arith)

pub get-joined : {A : Type 0} (xs : List A) (o : Option A) (i : ℕ) (y : A) → slice_get (xs ++ option_to_list o) i ≡ Some y
    → (slice_get xs i ≡ Some y) ⊎ ((i ≡ length xs) × (o ≡ Some y))
get-joined [] None i y e = cc
get-joined [] (Some x) zero y e = inr (refl, e)
get-joined [] (Some x) (suc i) y e = cc
get-joined (z ∷ zs) o zero y e = inl e
get-joined (z ∷ zs) o (suc i) y e = elim (get-joined zs o i y e) [
  | inl h ↦ inl h
  | inr h ↦ inr (ap (λ n. suc n) h.0, h.1)
]

-- what stands in a list with one more at its end
pub get-snoc : {A : Type 0} (xs : List A) (x : A) (i : ℕ) (y : A) → slice_get (xs ++ x ∷ []) i ≡ Some y
    → (slice_get xs i ≡ Some y) ⊎ ((i ≡ length xs) × (y ≡ x))
get-snoc xs x i y e = elim (get-joined xs (Some x) i y e) [
  | inl h ↦ inl h
  | inr h ↦ (let is : Some x ≡ Some y = h.1 in let same : y ≡ x = cc in inr (h.0, same))
]
