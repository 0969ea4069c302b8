-- Bytes one by one, up to where none is.
use Rattle.std.proofs.Common.{◌≡◌, ℕ, zero, suc, ◌+◌, ◌-◌, ◌<◌, ◌≤◌, List, [], ◌∷◌, ◌++◌, Option, Some, None, refl, sym, ap, ◌∙◌, append_assoc, arith}
use Rattle.std.proofs.lemmas.List.{append-nil}
use Rattle.std.specs.Option.{option_map}
use Rattle.std.specs.FinMap.{get}
use Rattle.memory_model.specs.Memory.{Memory, Cell}
use Rattle.gdb_packets.specs.Answers.{with_cell, bytes_from}

with_some : (o : Option Cell) (rest : List ℕ) (b : ℕ) → option_map (λ c. c.byte) o ≡ Some b → with_cell o rest ≡ b ∷ rest
with_some None rest b e = grind (arith, e)
with_some (Some cell) rest b e = grind (arith, e)

with_none : (o : Option Cell) (rest : List ℕ) → option_map (λ c. c.byte) o ≡ None → with_cell o rest ≡ []
with_none None rest e = refl
with_none (Some cell) rest e = grind (arith, e)

none_from : (memory : Memory) (at k : ℕ) → option_map (λ c. c.byte) (get memory at) ≡ None → bytes_from memory at k ≡ []
none_from memory at zero e = refl
none_from memory at (suc k) e = with_none (get memory at) (bytes_from memory (at + 1) k) e

-- a byte more
pub onward : (memory : Memory) (at most n a b : ℕ) (xs ys whole : List ℕ) (found : Option ℕ) → a ≡ at + n → n < most
    → found ≡ option_map (λ c. c.byte) (get memory a) → found ≡ Some b → ys ≡ xs ++ b ∷ []
    → xs ++ bytes_from memory (at + n) (most - n) ≡ whole → ys ++ bytes_from memory (at + (n + 1)) (most - (n + 1)) ≡ whole
onward memory at most n a b xs ys whole found place less is some grown before =
    let size : most - n ≡ suc (most - (n + 1)) = omega (arith, less) in
    let next : at + n + 1 ≡ at + (n + 1) = omega arith in
    let there : option_map (λ c. c.byte) (get memory (at + n)) ≡ Some b = ap (λ k. option_map (λ c. c.byte) (get memory k)) (sym place) ∙ sym is ∙ some in
    let here : bytes_from memory (at + n) (most - n) ≡ b ∷ bytes_from memory (at + (n + 1)) (most - (n + 1)) =
    ap (bytes_from memory (at + n)) size ∙ with_some (get memory (at + n)) (bytes_from memory (at + n + 1) (most - (n + 1))) b there
    ∙ ap (λ k. b ∷ bytes_from memory k (most - (n + 1))) next in
    grind (arith, grown, here, before, append_assoc xs (b ∷ []) (bytes_from memory (at + (n + 1)) (most - (n + 1))))

-- all are there
pub finished : (memory : Memory) (at most n : ℕ) (xs whole : List ℕ) → most ≤ n → xs ++ bytes_from memory (at + n) (most - n) ≡ whole → xs ≡ whole
finished memory at most n xs whole least before =
    let size : most - n ≡ 0 = omega (arith, least) in
    let none : bytes_from memory (at + n) (most - n) ≡ [] = ap (bytes_from memory (at + n)) size in
    sym (append-nil xs) ∙ ap (λ ys. xs ++ ys) (sym none) ∙ before

-- the next one is not there
pub ended : (memory : Memory) (at most n a : ℕ) (xs whole : List ℕ) (found : Option ℕ) → a ≡ at + n
    → found ≡ option_map (λ c. c.byte) (get memory a) → found ≡ None → xs ++ bytes_from memory (at + n) (most - n) ≡ whole → xs ≡ whole
ended memory at most n a xs whole found place is gone before =
    let there : option_map (λ c. c.byte) (get memory (at + n)) ≡ None = ap (λ k. option_map (λ c. c.byte) (get memory k)) (sym place) ∙ sym is ∙ gone in
    let none : bytes_from memory (at + n) (most - n) ≡ [] = none_from memory (at + n) (most - n) there in
    sym (append-nil xs) ∙ ap (λ ys. xs ++ ys) (sym none) ∙ before
