-- Memories as functions from addresses.
use Rattle.std.proofs.Common.{◌≡◌, ℕ, suc, zero, ◌^◌, false, cond, sym, ap, ◌∙◌, arith}
use Rattle.std.specs.Prelude.{◌==◌, nat_lt, Option, Some, None}
use Rattle.std.specs.Cmp.{nat_cmp_total}
use Rattle.std.specs.Ordering.{nat_cmp}
use Rattle.std.specs.FinMap.{get, insert, same_map, nat_cmp-IsAntisymmetric, get-empty, gets}
use Rattle.std.proofs.lemmas.Grind.{common_steps}
use Rattle.std.proofs.lemmas.Bool.Decides.{nat_tests}
use Rattle.memory_model.specs.Memory.{Memory, Cell, with_cell, map_below, address_end, memory_of}

pub get-insert : (m : Memory) (k : ℕ) (c : Cell) (q : ℕ) → get (insert m k c) q ≡ cond (q == k) (Some c) (get m q)
get-insert m k c q = grind (arith, gets, common_steps)

pub get-with_cell : (m : Memory) (k : ℕ) (c : Option Cell) (q : ℕ) → get m k ≡ None → get (with_cell m k c) q ≡ cond (q == k) c (get m q)
get-with_cell m k None q e = grind (arith, nat_tests)
get-with_cell m k (Some c) q e = grind (arith, gets, common_steps)

not_below : (n : ℕ) → nat_lt n n ≡ false
not_below n = grind (arith, nat_tests)

none_below : (q : ℕ) (f : ℕ → Option Cell) → cond (nat_lt q 0) (f q) None ≡ None
none_below q f = grind (arith, nat_tests)

one_below : (q n : ℕ) (f : ℕ → Option Cell) → cond (q == n) (f n) (cond (nat_lt q n) (f q) None) ≡ cond (nat_lt q (suc n)) (f q) None
one_below q n f = grind (arith, nat_tests)

pub get-map_below : (n : ℕ) (f : ℕ → Option Cell) (q : ℕ) → get (map_below n f) q ≡ cond (nat_lt q n) (f q) None
unfolding map_below
get-map_below zero f q = get-empty nat_cmp q ∙ sym (none_below q f)
get-map_below (suc n) f q =
    get-with_cell (map_below n f) n (f n) q (get-map_below n f n ∙ ap (λ b. cond b (f n) None) (not_below n))
    ∙ ap (cond (q == n) (f n)) (get-map_below n f q) ∙ one_below q n f

-- what stands at an address of a memory made from a function
pub get-memory_of : (f : ℕ → Option Cell) (q : ℕ) → get (memory_of f) q ≡ cond (nat_lt q (2 ^ 32)) (f q) None
unfolding memory_of address_end
get-memory_of f q = get-map_below address_end f q

-- two memories that answer alike are equal
pub same_memory : (m n : Memory) → ((q : ℕ) → get m q ≡ get n q) → m ≡ n
same_memory m n alike = same_map nat_cmp_total nat_cmp-IsAntisymmetric m n alike
