-- The rights of a range of addresses.
use Rattle.std.proofs.Common.{◌≡◌, ℕ, suc, zero, ◌+◌, Bool, true, false, cond, List, [], ◌∷◌, refl, sym, ap, ◌∙◌, inl, inr}
use Rattle.std.specs.Prelude.{Option, Some, None}
use Rattle.std.specs.FinMap.{get}
use Rattle.std.proofs.lemmas.Bool.Decides.{eqb_tells}
use Rattle.memory_model.specs.Memory.{Memory, Cell}
use Rattle.memory_model.specs.Access.{fault_at, range_fault, with_byte, put_bytes}
use Rattle.memory_model.specs.declared.access.Rights.{Rights}
use Rattle.memory_model.specs.declared.access.BusFault.{BusFault}
use Rattle.memory_model.specs.declared.access.BusFault.TheVariants.{NoRight}
use Rattle.memory_model.proofs.Memories.{get-insert}

-- what is written keeps its rights
fault_at-with_byte : (right : Rights → Bool) (m : Memory) (q b p : ℕ) (c : Option Cell) (rest : Option BusFault) → get m q ≡ c → fault_at right (get (with_byte m q b c) p) rest ≡ fault_at right (get m p) rest
fault_at-with_byte right m q b p None rest e = refl
fault_at-with_byte right m q b p (Some cell) rest e =
    ap (λ c. fault_at right c rest) (get-insert m q (record { byte = b; rights = cell.rights }) p)
    ∙ elim (eqb_tells p q) [
      | inl f ↦ rw f.0 (ap (λ c. fault_at right c rest) (sym (ap (get m) f.1 ∙ e)))
      | inr f ↦ rw f.0 refl
    ]

range_fault-with_byte : (right : Rights → Bool) (m : Memory) (q b p n : ℕ) → range_fault right (with_byte m q b (get m q)) p n ≡ range_fault right m p n
range_fault-with_byte right m q b p zero = refl
range_fault-with_byte right m q b p (suc n) =
    fault_at-with_byte right m q b p (get m q) _ refl ∙ ap (fault_at right (get m p)) (range_fault-with_byte right m q b (p + 1) n)

pub range_fault-put_bytes : (right : Rights → Bool) (bytes : List ℕ) (m : Memory) (q p n : ℕ) → range_fault right (put_bytes m q bytes) p n ≡ range_fault right m p n
range_fault-put_bytes right [] m q p n = refl
range_fault-put_bytes right (b ∷ bytes) m q p n = range_fault-put_bytes right bytes (with_byte m q b (get m q)) (q + 1) p n ∙ range_fault-with_byte right m q b p n

-- what is allowed at a byte and after it is allowed after it
pub fault_at-None : (right : Rights → Bool) (c : Option Cell) (rest : Option BusFault) → fault_at right c rest ≡ None → rest ≡ None
fault_at-None right None rest e = absurd cc
fault_at-None right (Some cell) rest e = by (right cell.rights) e
  where
    by : (b : Bool) → cond b rest (Some NoRight) ≡ None → rest ≡ None
    by true e = e
    by false e = absurd cc
