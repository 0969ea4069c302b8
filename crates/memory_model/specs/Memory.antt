-- The bytes of a program with their rights, as a finite map from addresses.
use Rattle.std.specs.Prelude.{ℕ, suc, zero, ◌^◌, Bool, Option, Some, None, refl}
use Rattle.std.specs.Ordering.{nat_cmp}
use Rattle.std.specs.FinMap.{FinMap, insert, empty, code}
use Rattle.std.specs.Coded.{Coded, code_by, coded×, coded_ℕ, coded_bool}
use Rattle.memory_model.specs.declared.access.Rights.{Rights}

-- a byte, and the rights of its page
pub record Cell : Type 0 where
  pub byte : ℕ
  pub rights : Rights

-- what stands at each address that is there
abbrev pub Memory : Type 0
Memory = FinMap nat_cmp Cell

-- by these codes a proof tells values apart
abbrev pub cell_code : Coded Cell
cell_code = code_by (ℕ × (Bool × (Bool × Bool))) (coded× coded_ℕ (coded× coded_bool (coded× coded_bool coded_bool))) (λ c. (c.byte, (c.rights.read, (c.rights.write, c.rights.execute)))) (λ p. record { byte = p.0; rights = record { read = p.1.0; write = p.1.1.0; execute = p.1.1.1 } }) (λ _. refl)

abbrev pub memory_code : Coded Memory
memory_code = code coded_ℕ cell_code

abbrev pub with_cell : Memory → ℕ → Option Cell → Memory
with_cell memory at None = memory
with_cell memory at (Some cell) = insert memory at cell

-- the map of what a function gives below n
unfoldable pub map_below : ℕ → (ℕ → Option Cell) → Memory
map_below zero f = empty
map_below (suc n) f = with_cell (map_below n f) n (f n)

-- one above the greatest address
unfoldable pub address_end : ℕ
address_end = 2 ^ 32

-- the memory of what a function gives at each address
unfoldable pub memory_of : (ℕ → Option Cell) → Memory
memory_of f = map_below address_end f
