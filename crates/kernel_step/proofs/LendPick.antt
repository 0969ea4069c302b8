-- The process that a loan picks, by the places of the tasks.
use Rattle.std.proofs.Common.{◌≡◌, ℕ, zero, suc, ◌+◌, Bool, true, false, cond, List, [], ◌∷◌, ◌++◌, length, take, drop, slice_get, Option, Some, None, option_map, refl, sym, ap, ◌∙◌, arith}
use Rattle.std.specs.Prelude.{find, position}
use Rattle.std.specs.List.{position_from}
use Rattle.std.proofs.lemmas.Iterator.Adapters.{position_from-zero}
use Rattle.kernel_model.specs.Loans.{numbers_to}
use Rattle.kernel_step.specs.Lending.{place_among}

-- n numbers, from the one above `after` on
abbrev pub numbers_after : ℕ → ℕ → List ℕ
numbers_after after zero = []
numbers_after after (suc n) = suc after ∷ numbers_after (suc after) n

numbers_after-snoc : (after n : ℕ) → numbers_after after n ++ suc (after + n) ∷ [] ≡ numbers_after after (suc n)
numbers_after-snoc after zero = let e : after + 0 ≡ after = omega arith in ap (λ m. suc m ∷ []) e
numbers_after-snoc after (suc n) =
    let e : after + suc n ≡ suc after + n = omega arith in
    ap (λ m. suc after ∷ (numbers_after (suc after) n ++ suc m ∷ [])) e
    ∙ ap (λ ms. suc after ∷ ms) (numbers_after-snoc (suc after) n)

pub numbers_to-after : (n : ℕ) → numbers_to n ≡ numbers_after 0 n
numbers_to-after zero = refl
numbers_to-after (suc n) =
    let e : 0 + n ≡ n = omega arith in
    ap (λ ms. ms ++ suc n ∷ []) (numbers_to-after n)
    ∙ ap (λ m. numbers_after 0 n ++ suc m ∷ []) (sym e)
    ∙ numbers_after-snoc 0 n

drop-numbers : {A : Type 0} (after n : ℕ) (xs : List A) → drop n (numbers_after after (length xs)) ≡ numbers_after (after + n) (length (drop n xs))
drop-numbers after zero xs = let e : after + 0 ≡ after = omega arith in ap (λ m. numbers_after m (length xs)) (sym e)
drop-numbers after (suc n) [] = refl
drop-numbers after (suc n) (x ∷ xs) =
    let e : suc after + n ≡ after + suc n = omega arith in
    drop-numbers (suc after) n xs ∙ ap (λ m. numbers_after m (length (drop n xs))) e

take-numbers : {A : Type 0} (after n : ℕ) (xs : List A) → take n (numbers_after after (length xs)) ≡ numbers_after after (length (take n xs))
take-numbers after zero xs = refl
take-numbers after (suc n) [] = refl
take-numbers after (suc n) (x ∷ xs) = ap (λ ms. suc after ∷ ms) (take-numbers (suc after) n xs)

get-drop : {A : Type 0} (n i : ℕ) (xs : List A) → slice_get (drop n xs) i ≡ slice_get xs (n + i)
get-drop zero i xs = let e : 0 + i ≡ i = omega arith in ap (λ m. slice_get xs m) (sym e)
get-drop (suc n) i [] = refl
get-drop (suc n) i (x ∷ xs) = let e : suc n + i ≡ suc (n + i) = omega arith in get-drop n i xs ∙ ap (λ m. slice_get (x ∷ xs) m) (sym e)

get-take : {A : Type 0} (n i : ℕ) (xs : List A) (x : A) → slice_get (take n xs) i ≡ Some x → slice_get xs i ≡ Some x
get-take zero i xs x e = cc
get-take (suc n) i [] x e = cc
get-take (suc n) zero (y ∷ ys) x e = e
get-take (suc n) (suc i) (y ∷ ys) x e = get-take n i ys x e

-- the first of two, or else the second
abbrev pub first_some : {A : Type 0} → Option A → Option A → Option A
first_some (Some x) o = Some x
first_some None o = o

find-append : {A : Type 0} (p : A → Bool) (xs ys : List A) → find p (xs ++ ys) ≡ first_some (find p xs) (find p ys)
find-append p [] ys = refl
find-append p (x ∷ xs) ys =
    elim (p x) as (λ b. cond b (Some x) (find p (xs ++ ys)) ≡ first_some (cond b (Some x) (find p xs)) (find p ys)) [
      | true ↦ refl
      | false ↦ find-append p xs ys
    ]

-- the numbers pass as the elements at their places do
pub find-numbers : {A : Type 0} (p : ℕ → Bool) (test : A → Bool) (after : ℕ) (xs : List A)
    → ((i : ℕ) (x : A) → slice_get xs i ≡ Some x → p (suc (after + i)) ≡ test x)
    → find p (numbers_after after (length xs)) ≡ option_map (λ i. suc i) (position_from test after xs)
find-numbers p test after [] h = refl
find-numbers p test after (x ∷ xs) h =
    let e : after + 0 ≡ after = omega arith in
    let here : p (suc after) ≡ test x = ap (λ m. p (suc m)) (sym e) ∙ h 0 x refl in
    let next : after + 1 ≡ suc after = omega arith in
    let rest = find-numbers p test (suc after) xs (λ i y there.
    let f : suc after + i ≡ after + suc i = omega arith in ap (λ m. p (suc m)) f ∙ h (suc i) y there) in
    ap (λ b. cond b (Some (suc after)) (find p (numbers_after (suc after) (length xs)))) here
    ∙ elim (test x) as (λ b. cond b (Some (suc after)) (find p (numbers_after (suc after) (length xs)))
    ≡ option_map (λ i. suc i) (cond b (Some after) (position_from test (after + 1) xs))) [
      | true ↦ refl
      | false ↦ rest ∙ ap (λ m. option_map (λ i. suc i) (position_from test m xs)) (sym next)
    ]

option_map-cond : {A B : Type 0} (f : A → B) (b : Bool) (x : A) (o : Option A) → option_map f (cond b (Some x) o) ≡ cond b (Some (f x)) (option_map f o)
option_map-cond f true x o = refl
option_map-cond f false x o = refl

position_from-shift : {A : Type 0} (test : A → Bool) (n i : ℕ) (xs : List A) → position_from test (n + i) xs ≡ option_map (λ m. n + m) (position_from test i xs)
position_from-shift test n i [] = refl
position_from-shift test n i (x ∷ xs) =
    let e : (n + i) + 1 ≡ n + (i + 1) = omega arith in
    ap (λ m. cond (test x) (Some (n + i)) (position_from test m xs)) e
    ∙ ap (λ o. cond (test x) (Some (n + i)) o) (position_from-shift test n (i + 1) xs)
    ∙ sym (option_map-cond (λ m. n + m) (test x) i (position_from test (i + 1) xs))

position-after : {A : Type 0} (test : A → Bool) (n : ℕ) (xs : List A) → position_from test n xs ≡ option_map (λ m. n + m) (position test xs)
position-after test n xs =
    let e : n + 0 ≡ n = omega arith in
    ap (λ m. position_from test m xs) (sym e)
    ∙ position_from-shift test n 0 xs
    ∙ ap (λ o. option_map (λ m. n + m) o) (sym (position_from-zero test xs))

joined : (n : ℕ) (o r : Option ℕ)
    → first_some (option_map (λ i. suc i) (option_map (λ m. n + m) o)) (option_map (λ i. suc i) r) ≡ option_map (λ i. suc i) (place_among n o r)
joined n (Some i) r = refl
joined n None r = refl

-- the first number after the first n that passes, and round again
pub find-round : {A : Type 0} (p : ℕ → Bool) (test : A → Bool) (n : ℕ) (xs : List A)
    → ((i : ℕ) (x : A) → slice_get xs i ≡ Some x → p (suc i) ≡ test x)
    → find p (drop n (numbers_to (length xs)) ++ take n (numbers_to (length xs)))
    ≡ option_map (λ i. suc i) (place_among n (position test (drop n xs)) (position test (take n xs)))
find-round {A} p test n xs h =
    let all : numbers_to (length xs) ≡ numbers_after 0 (length xs) = numbers_to-after (length xs) in
    let e : 0 + n ≡ n = omega arith in
    let rest_is : drop n (numbers_to (length xs)) ≡ numbers_after n (length (drop n xs)) =
    ap (λ ms. drop n ms) all ∙ drop-numbers 0 n xs ∙ ap (λ m. numbers_after m (length (drop n xs))) e in
    let before : take n (numbers_to (length xs)) ≡ numbers_after 0 (length (take n xs)) =
    ap (λ ms. take n ms) all ∙ take-numbers 0 n xs in
    let found_after : find p (drop n (numbers_to (length xs))) ≡ option_map (λ i. suc i) (option_map (λ m. n + m) (position test (drop n xs))) =
    ap (λ ms. find p ms) rest_is
    ∙ find-numbers p test n (drop n xs) (λ i x there. h (n + i) x (sym (get-drop n i xs) ∙ there))
    ∙ ap (λ o. option_map (λ i. suc i) o) (position-after test n (drop n xs)) in
    let found_before : find p (take n (numbers_to (length xs))) ≡ option_map (λ i. suc i) (position test (take n xs)) =
    ap (λ ms. find p ms) before
    ∙ find-numbers p test 0 (take n xs) (λ i x there.
    let f : 0 + i ≡ i = omega arith in ap (λ m. p (suc m)) f ∙ h i x (get-take n i xs x there))
    ∙ ap (λ o. option_map (λ i. suc i) o) (sym (position_from-zero test (take n xs))) in
    find-append p (drop n (numbers_to (length xs))) (take n (numbers_to (length xs)))
    ∙ ap (λ o. first_some o (find p (take n (numbers_to (length xs))))) found_after
    ∙ ap (λ o. first_some (option_map (λ i. suc i) (option_map (λ m. n + m) (position test (drop n xs)))) o) found_before
    ∙ joined n (position test (drop n xs)) (position test (take n xs))

-- an element at which the test passes
pub record Passes {A : Type 0} (test : A → Bool) (xs : List A) (place : ℕ) : Type 0 where
  pub item : A
  pub there : slice_get xs place ≡ Some item
  pub passes : test item ≡ true

passes-from : {A : Type 0} (test : A → Bool) (n : ℕ) (xs : List A) (place : ℕ) → position_from test n xs ≡ Some place
    → (i : ℕ) × (place ≡ n + i) × Passes test xs i
passes-from test n [] place e = cc
passes-from {A} test n (x ∷ xs) place e =
    (elim (test x) as (λ b. test x ≡ b → cond b (Some n) (position_from test (n + 1) xs) ≡ Some place → (i : ℕ) × (place ≡ n + i) × Passes test (x ∷ xs) i) [
      | true ↦ λ t f. let same : n ≡ place = cc in (0, omega arith, record { item = x; there = refl; passes = t })
      | false ↦ λ t f. let rest = passes-from test (n + 1) xs place f in
          (suc rest.0, omega arith, record { item = rest.2.item; there = rest.2.there; passes = rest.2.passes })
    ]) refl e

pub position-passes : {A : Type 0} (test : A → Bool) (xs : List A) (place : ℕ) → position test xs ≡ Some place → Passes test xs place
position-passes {A} test xs place e =
    let h = passes-from test 0 xs place (sym (position_from-zero test xs) ∙ e) in
    let same : place ≡ h.0 = omega arith in
    rw same h.2

pub round-passes : {A : Type 0} (test : A → Bool) (n : ℕ) (xs : List A) (place : ℕ)
    → place_among n (position test (drop n xs)) (position test (take n xs)) ≡ Some place → Passes test xs place
round-passes {A} test n xs place e =
    (elim (position test (drop n xs)) as (λ o. position test (drop n xs) ≡ o → place_among n o (position test (take n xs)) ≡ Some place → Passes test xs place) [
      | Some i ↦ λ found f.
          let h = position-passes test (drop n xs) i found in
          let same : place ≡ n + i = cc in
          rw same (record { item = h.item; there = sym (get-drop n i xs) ∙ h.there; passes = h.passes })
      | None ↦ λ found f.
          let h = position-passes test (take n xs) place f in
          record { item = h.item; there = get-take n place xs h.item h.there; passes = h.passes }
    ]) refl e
