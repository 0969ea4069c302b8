-- Words as their bytes, one after another.
use Rattle.std.proofs.Common.{◌≡◌, ℕ, suc, zero, ◌+◌, ◌-◌, ◌*◌, ◌/◌, ◌%◌, ◌<◌, ◌≤◌, List, [], ◌∷◌, ◌++◌, length, get_or, take, drop, refl, ap, ◌∙◌, arith, inl, inr, length-append}
use Rattle.std.specs.Prelude.{slice_index, slice_index_or}
use Rattle.std.specs.List.{flat_map}
use Rattle.std.specs.Simd.{first_chunks}
use Rattle.std.proofs.lemmas.Bool.{cases_lt}
use Rattle.std.proofs.lemmas.List.{get_or_append_left, get_or-append_right, get_or-take, length-drop, length-take}

-- each of these words has four bytes
abbrev pub AreWhole : List (List ℕ) → Type 0
AreWhole ws = (i : ℕ) → i < length ws → length (get_or ws i []) ≡ 4

whole-rest : (w : List ℕ) (ws : List (List ℕ)) → AreWhole (w ∷ ws) → AreWhole ws
whole-rest w ws whole i h = whole (suc i) (omega arith)

pub length-flat : (ws : List (List ℕ)) → AreWhole ws → length (flat_map (λ x. x) ws) ≡ 4 * length ws
length-flat [] whole = refl
length-flat (w ∷ ws) whole = length-append w _ ∙ omega (arith, whole 0 (omega arith), length-flat ws (whole-rest w ws whole))

-- the byte at a place
pub flat-byte : (ws : List (List ℕ)) (j : ℕ) → AreWhole ws → j < 4 * length ws → slice_index (flat_map (λ x. x) ws) j ≡ slice_index (slice_index_or ws (j / 4) []) (j % 4)
flat-byte [] j whole h = absurd (omega arith)
flat-byte (w ∷ ws) j whole h =
    let four : length w ≡ 4 = whole 0 (omega arith) in
    elim (cases_lt j 4) [
      | inl l ↦
          let number : 0 ≡ j / 4 = omega arith in
          let place : j ≡ j % 4 = omega arith in
          get_or_append_left w (flat_map (λ x. x) ws) 0 j (omega arith)
          ∙ ap (slice_index w) place ∙ ap (λ n. slice_index (slice_index_or (w ∷ ws) n []) (j % 4)) number
      | inr g ↦
          let number : suc ((j - 4) / 4) ≡ j / 4 = omega arith in
          let place : (j - 4) % 4 ≡ j % 4 = omega arith in
          get_or-append_right w (flat_map (λ x. x) ws) 4 j 0 four (omega arith)
          ∙ flat-byte ws (j - 4) (whole-rest w ws whole) (omega arith)
          ∙ (λ i. slice_index (slice_index_or (w ∷ ws) (number i) []) (place i))
    ]

take-more : (k n : ℕ) (xs : List ℕ) → k ≤ length xs → take k xs ++ take n (drop k xs) ≡ take (k + n) xs
take-more zero n xs h = ap (λ l. take l xs) (omega arith)
take-more (suc k) n [] h = absurd (omega arith)
take-more (suc k) n (x ∷ xs) h =
    let next : suc (k + n) ≡ suc k + n = omega arith in
    ap (λ l. x ∷ l) (take-more k n xs (omega arith)) ∙ ap (λ l. take l (x ∷ xs)) next

-- the first words of a list of bytes
pub flat-chunks : (c k : ℕ) (bytes : List ℕ) → c ≤ k → 4 * k ≤ length bytes → flat_map (λ x. x) (take c (first_chunks 4 k bytes)) ≡ take (4 * c) bytes
flat-chunks zero k bytes h fits = refl
flat-chunks (suc c) zero bytes h fits = absurd (omega arith)
flat-chunks (suc c) (suc k) bytes h fits =
    let size : 4 + 4 * c ≡ 4 * suc c = omega arith in
    ap (λ l. take 4 bytes ++ l) (flat-chunks c k (drop 4 bytes) (omega arith) (omega (arith, length-drop 4 bytes)))
    ∙ take-more 4 (4 * c) bytes (omega arith) ∙ ap (λ l. take l bytes) size

pub whole-take : (ws : List (List ℕ)) (n : ℕ) → AreWhole ws → AreWhole (take n ws)
whole-take ws n whole i h =
    ap length (get_or-take n ws i [] (omega (arith, length-take n ws))) ∙ whole i (omega (arith, length-take n ws))
