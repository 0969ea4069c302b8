-- A longest prefix of what was given is kept where the changes are on which it may rest.
use Rattle.std.proofs.Common.{◌≡◌, ℕ, zero, suc, ◌<◌, ◌≤◌, List, [], ◌∷◌, length, take, ap, arith}
use Rattle.kernel_model.specs.Shown.{Given}
use Rattle.kernel_model.specs.Views.{contents}
use Rattle.kernel_laws.specs.Promises.{IsLongestPrefix}
use Rattle.kernel_laws.specs.Kept.{AreKept}

take-most : {A : Type 0} (n : ℕ) (xs : List A) → length (take n xs) ≤ n
take-most zero xs = omega arith
take-most (suc n) [] = omega arith
take-most (suc n) (x ∷ xs) = let rest : length (take n xs) ≤ n = take-most n xs in omega (arith, rest)

pub prefix-kept : {A : Type 0} (c kept : ℕ) (all : List (Given A)) (seen : List A) → IsLongestPrefix c all seen → c ≤ kept
    → AreKept kept (length seen) all
prefix-kept c kept all seen h within i k x short there rests =
    let size : length seen ≡ length (take h.count (contents all)) = ap (λ xs. length xs) h.prefix in
    let most : length (take h.count (contents all)) ≤ h.count = take-most h.count (contents all) in
    let first : i < h.count = omega (arith, short, size, most) in
    let below : k < c = h.durable i x first there k rests in
    omega (arith, below, within)
