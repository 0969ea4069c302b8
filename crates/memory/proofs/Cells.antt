-- The cell at an address, and at one past the greatest.
use Rattle.std.proofs.Common.{◌≡◌, ℕ, ◌/◌, ◌%◌, ◌^◌, ◌<◌, cond, ap, ◌∙◌, arith}
use Rattle.std.specs.Prelude.{nat_lt, Option, Some, None, option_map, Result, Ok, Err}
use Rattle.std.specs.Result.{OkIff, result_ok}
use Rattle.std.specs.FinMap.{get}
use Rattle.std.proofs.lemmas.Bool.Decides.{nat_tests}
use Rattle.memory_model.specs.Memory.{Cell}
use Rattle.memory_model.proofs.Memories.{get-memory_of}
use Rattle.memory.specs.Words.{Word, cell_of, cell_at, memory_of_words}
use Rattle.memory.proofs.WordAccess.{get-words}

pub get-past : (words : ℕ → Option Word) (q : ℕ) → (q < 2 ^ 32 → ⊥) → get (memory_of_words words) q ≡ None
get-past words q h = get-memory_of (cell_at words) q ∙ past (cell_at words q)
  where
    past : (c : Option Cell) → cond (nat_lt q (2 ^ 32)) c None ≡ None
    past c = grind (arith, nat_tests)

pub get-cell : (words : ℕ → Option Word) (w : Option Word) (q : ℕ) → q < 2 ^ 32 → words (q / 4) ≡ w → get (memory_of_words words) q ≡ option_map (cell_of (q % 4)) w
get-cell words w q h is = get-words words q h ∙ ap (option_map (cell_of (q % 4))) is

-- a number that does not fit, and one that does
pub not_fitting : {E : Type 0} (r : Result ℕ E) (P : Type 0) (v : ℕ) → OkIff r P v → None ≡ result_ok r → P → ⊥
not_fitting (Ok x) P v h e = cc
not_fitting (Err f) P v h e = h

pub fitting : {E : Type 0} (r : Result ℕ E) (P : Type 0) (v x : ℕ) → OkIff r P v → Some x ≡ result_ok r → P × (x ≡ v)
fitting (Ok y) P v x h e = (h.0, (let f : x ≡ y = cc in f ∙ h.1))
fitting (Err f) P v x h e = absurd cc
