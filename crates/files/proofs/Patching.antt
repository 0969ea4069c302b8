-- A write into bytes that have grown by zeros.
use Rattle.std.proofs.Common.{◌≡◌, ℕ, zero, suc, ◌+◌, ◌-◌, ◌≤◌, List, [], ◌∷◌, ◌++◌, length, take, drop, replicate, sym, ap, ◌∙◌, arith}
use Rattle.std.proofs.Math.Seq.{take-nil, drop-nil}
use Rattle.std.proofs.lemmas.List.{append-nil, take-replicate, drop-replicate}
use Rattle.disk_model.specs.Files.{patched}

-- the prefix of the grown bytes is the old prefix, and zeros for a gap
prefix-grown : (old : List ℕ) (offset more : ℕ) → offset ≤ length old + more
    → take offset (old ++ replicate more 0) ≡ take offset old ++ replicate (offset - length old) 0
prefix-grown [] offset more h =
    let within : offset ≤ more = omega arith in
    let gap : offset ≡ offset - length {A = ℕ} [] = omega arith in
    take-replicate offset more 0 within
    ∙ ap (λ (n : ℕ). replicate n 0) gap
    ∙ sym (ap (λ (xs : List ℕ). xs ++ replicate (offset - length {A = ℕ} []) 0) (take-nil offset))
prefix-grown (x ∷ xs) zero more h = let none : 0 ≡ 0 - length (x ∷ xs) = omega arith in ap (λ (n : ℕ). replicate n 0) none
prefix-grown (x ∷ xs) (suc offset) more h =
    let gap : offset - length xs ≡ suc offset - length (x ∷ xs) = omega arith in
    ap (λ (ys : List ℕ). x ∷ ys) (prefix-grown xs offset more (omega arith)) ∙ ap (λ (n : ℕ). x ∷ (take offset xs ++ replicate n 0)) gap

-- where they grow up to a place, no zero stands after it
rest-grown : (old : List ℕ) (end more : ℕ) → more ≡ end - length old → drop end (old ++ replicate more 0) ≡ drop end old
rest-grown [] end more h =
    let none : more - end ≡ 0 = omega arith in
    drop-replicate end more 0 ∙ ap (λ (n : ℕ). replicate n 0) none ∙ sym (drop-nil end)
rest-grown (x ∷ xs) zero more h =
    let none : more ≡ 0 = omega arith in
    ap (λ (n : ℕ). (x ∷ xs) ++ replicate n 0) none ∙ append-nil (x ∷ xs)
rest-grown (x ∷ xs) (suc end) more h = rest-grown xs end more (omega arith)

-- so the bytes written over them are those of the patched file
pub patched-grown : (old : List ℕ) (offset : ℕ) (bytes : List ℕ) (more : ℕ) → more ≡ offset + length bytes - length old
    → take offset (old ++ replicate more 0) ++ bytes ++ drop (offset + length bytes) (old ++ replicate more 0) ≡ patched old offset bytes
patched-grown old offset bytes more h =
    ap (λ (prefix : List ℕ). prefix ++ bytes ++ drop (offset + length bytes) (old ++ replicate more 0)) (prefix-grown old offset more (omega arith))
    ∙ ap (λ (rest : List ℕ). take offset old ++ replicate (offset - length old) 0 ++ bytes ++ rest) (rest-grown old (offset + length bytes) more h)
