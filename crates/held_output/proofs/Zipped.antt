-- Items and marks that stand in two lists of one length.
use Rattle.std.proofs.Common.{◌≡◌, ℕ, suc, ◌+◌, ◌≤◌, Bool, true, false, if◌then◌else◌, List, [], ◌∷◌, ◌++◌, length, take, replicate, nat_le, refl, ap, subst, arith}
use Rattle.kernel_model.specs.Shown.{prefix}
use Rattle.held_output.specs.Withheld.{Held, Withheld, held_with, all_held, whats, prefix_of}

pub length-with : {A : Type 0} (xs : List A) (ms : List ℕ) → length ms ≡ length xs → length (held_with xs ms) ≡ length xs
length-with [] ms e = refl
length-with (x ∷ xs) [] e = cc
length-with (x ∷ xs) (m ∷ ms) e = ap (λ n. suc n) (length-with xs ms (omega (arith, e)))

-- a prefix is no longer than the list
pub prefix-within : (c : ℕ) (ms : List ℕ) → prefix_of c ms ≤ length ms
prefix-within c [] = omega arith
prefix-within c (m ∷ ms) =
    let rest : prefix_of c ms ≤ length ms = prefix-within c ms in
    elim (nat_le m c) as (λ b. (if b then 1 + prefix_of c ms else 0) ≤ suc (length ms)) [
      | true ↦ omega arith
      | false ↦ omega arith
    ]

-- without their marks the items are those that stand there
pub whats-with : {A : Type 0} (xs : List A) (ms : List ℕ) → length ms ≡ length xs → whats (held_with xs ms) ≡ xs
whats-with [] ms e = refl
whats-with (x ∷ xs) [] e = cc
whats-with {A} (x ∷ xs) (m ∷ ms) e = ap (λ (ys : List A). x ∷ ys) (whats-with xs ms (omega (arith, e)))

pub whats-same : {A : Type 0} (w v : Withheld A) → w ≡ v → whats w.items ≡ whats v.items
whats-same {A} w v e = ap (λ (x : Withheld A). whats x.items) e

-- more of both come after those before
pub append-with : {A : Type 0} (xs ys : List A) (ms ns : List ℕ) → length ms ≡ length xs → held_with (xs ++ ys) (ms ++ ns) ≡ held_with xs ms ++ held_with ys ns
append-with [] ys [] ns e = refl
append-with [] ys (m ∷ ms) ns e = cc
append-with (x ∷ xs) ys [] ns e = cc
append-with (x ∷ xs) ys (m ∷ ms) ns e = ap (λ hs. record { what = x; mark = m } ∷ hs) (append-with xs ys ms ns (omega (arith, e)))

-- items that all have one mark
pub all-with : {A : Type 0} (xs : List A) (mark : ℕ) → held_with xs (replicate (length xs) mark) ≡ all_held mark xs
all-with [] mark = refl
all-with (x ∷ xs) mark = ap (λ hs. record { what = x; mark = mark } ∷ hs) (all-with xs mark)

-- the first so many that are released are the longest prefix that passes
pub released-with : {A : Type 0} (c : ℕ) (xs : List A) (ms : List ℕ) → length ms ≡ length xs
    → take (prefix_of c ms) xs ≡ whats (prefix (λ h. nat_le h.mark c) (held_with xs ms))
released-with c [] [] e = refl
released-with c [] (m ∷ ms) e = cc
released-with c (x ∷ xs) [] e = cc
released-with {A} c (x ∷ xs) (m ∷ ms) e = by (nat_le m c) (released-with c xs ms (omega (arith, e)))
  where
    by : (b : Bool) → take (prefix_of c ms) xs ≡ whats (prefix (λ (h : Held A). nat_le h.mark c) (held_with xs ms))
        → take (if b then 1 + prefix_of c ms else 0) (x ∷ xs)
        ≡ whats (if b then record { what = x; mark = m } ∷ prefix (λ (h : Held A). nat_le h.mark c) (held_with xs ms) else [])
    by true rest =
        let next : suc (prefix_of c ms) ≡ 1 + prefix_of c ms = omega arith in
        subst (λ (k : ℕ). take k (x ∷ xs) ≡ x ∷ whats (prefix (λ (h : Held A). nat_le h.mark c) (held_with xs ms))) next (ap (λ ys. x ∷ ys) rest)
    by false rest = refl

pub length-released : {A : Type 0} (c : ℕ) (xs : List A) (ms : List ℕ) → length ms ≡ length xs
    → length (whats (prefix (λ h. nat_le h.mark c) (held_with xs ms))) ≡ prefix_of c ms
length-released c [] [] e = refl
length-released c [] (m ∷ ms) e = cc
length-released c (x ∷ xs) [] e = cc
length-released {A} c (x ∷ xs) (m ∷ ms) e = by (nat_le m c) (length-released c xs ms (omega (arith, e)))
  where
    by : (b : Bool) → length (whats (prefix (λ (h : Held A). nat_le h.mark c) (held_with xs ms))) ≡ prefix_of c ms
        → length (whats (if b then record { what = x; mark = m } ∷ prefix (λ (h : Held A). nat_le h.mark c) (held_with xs ms) else []))
        ≡ (if b then 1 + prefix_of c ms else 0)
    by true rest = omega (arith, rest)
    by false rest = refl
