-- Places that may be written.
use Rattle.std.proofs.Common.{◌≡◌, ℕ, zero, suc, ◌+◌, ◌≤◌, Bool, true, false, List, [], ◌∷◌, length, Option, Some, None, is_none, refl, arith}
use Rattle.std.specs.Prelude.{if◌then◌else◌}
use Rattle.std.specs.FinMap.{get}
use Rattle.memory_model.specs.Memory.{Memory, Cell}
use Rattle.memory_model.specs.Access.{to_write, fault_at, range_fault, is_writable}
use Rattle.memory_model.specs.declared.access.BusFault.{BusFault}
use Rattle.kernel_model.specs.Rows.{with_bytes}
use Rattle.calls.specs.Plans.{MayBePlaced}

by_right : (b : Bool) (more less : Option BusFault) (fault : BusFault) → (is_none more ≡ true → is_none less ≡ true)
    → is_none (if b then more else Some fault) ≡ true → is_none (if b then less else Some fault) ≡ true
by_right true more less fault h all = h all
by_right false more less fault h all = all

by_cell : (cell : Option Cell) (more less : Option BusFault) → (is_none more ≡ true → is_none less ≡ true)
    → is_none (fault_at to_write cell more) ≡ true → is_none (fault_at to_write cell less) ≡ true
by_cell None more less h all = all
by_cell (Some cell) more less h all = by_right (to_write cell.rights) more less _ h all

-- where n bytes may be written, so may fewer
pub writable-fewer : (memory : Memory) (at k n : ℕ) → k ≤ n → is_writable memory at n ≡ true → is_writable memory at k ≡ true
writable-fewer memory at zero n le all = refl
writable-fewer memory at (suc k) zero le all = absurd (omega arith)
writable-fewer memory at (suc k) (suc n) le all =
    by_cell (get memory at) (range_fault to_write memory (at + 1) n) (range_fault to_write memory (at + 1) k)
    (writable-fewer memory (at + 1) k n (omega arith)) all

-- bytes that are not too many for a place may be placed there
pub bytes-placed : (memory : Memory) (k at n : ℕ) (bytes : List ℕ) → length bytes ≤ n → is_writable memory at n ≡ true → MayBePlaced memory (with_bytes k at bytes)
bytes-placed memory k at n [] le all = refl
bytes-placed memory k at n (b ∷ bs) le all = writable-fewer memory at (length (b ∷ bs)) n le all
