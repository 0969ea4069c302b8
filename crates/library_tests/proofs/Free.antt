-- Addresses where no page is.
use Rattle.std.proofs.Common.{◌≡◌, ℕ, ◌+◌, ◌^◌, ◌<◌, ◌≤◌, Bool, true, false, cond, List, length, ◌∙◌, refl, arith, inl, inr}
use Rattle.std.specs.Prelude.{◌&&◌, ◌⊎◌, nat_lt, nat_le, Option, None}
use Rattle.std.specs.FinMap.{get}
use Rattle.std.proofs.lemmas.Bool.Decides.{nat_tests}
use Rattle.memory_model.specs.Memory.{Memory, Cell, memory_of}
use Rattle.memory_model.specs.Access.{mapped}
use Rattle.memory_model.specs.declared.access.Rights.{Rights}
use Rattle.memory_model.proofs.Memories.{get-memory_of}

none_anyway : (b : Bool) (c : Option Cell) → c ≡ None → cond b c None ≡ None
none_anyway true c e = e
none_anyway false c e = refl

-- where no page is mapped
pub free-empty : (q : ℕ) → get (memory_of (λ _. None)) q ≡ None
free-empty q = get-memory_of (λ _. None) q ∙ none_anyway (nat_lt q (2 ^ 32)) None refl

-- what was free is free outside of the pages that are added
pub free-mapped : (m : Memory) (at : ℕ) (rights : Rights) (bytes : List ℕ) (q : ℕ) → (q < at) ⊎ (at + length bytes ≤ q) → get m q ≡ None → get (mapped m at rights bytes) q ≡ None
free-mapped m at rights bytes q outside free = get-memory_of _ q ∙ none_anyway (nat_lt q (2 ^ 32)) _ (others _ outside)
  where
    others : (c : Option Cell) → (q < at) ⊎ (at + length bytes ≤ q) → cond (nat_le at q && nat_lt q (at + length bytes)) c (get m q) ≡ None
    others c (inl below) = rw off free
      where
        off : (nat_le at q && nat_lt q (at + length bytes)) ≡ false
        off = grind (arith, nat_tests)
    others c (inr above) = rw off free
      where
        off : (nat_le at q && nat_lt q (at + length bytes)) ≡ false
        off = grind (arith, nat_tests)
