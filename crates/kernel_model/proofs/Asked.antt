-- What a machine asks for, in its own memory: bytes that are there are as many as the request says, and a place that fits may be
-- written.
use Rattle.std.proofs.Common.{◌≡◌, ℕ, zero, suc, ◌+◌, ◌<◌, ◌==◌, ◌&&◌, ◌||◌, nat_le, Bool, true, false, List, length, Option, Some, None, is_none, IfSome, refl, ap}
use Rattle.std.specs.Prelude.{if◌then◌else◌, slice_index}
use Rattle.std.specs.List.{AllByRecursion}
use Rattle.std.proofs.lemmas.Bool.{and_parts}
use Rattle.memory_model.specs.Access.{HoldsBytes, bytes_at, range_fault, is_writable, to_read}
use Rattle.memory_model.specs.Memory.{Memory}
use Rattle.machine_model.specs.States.{State}
use Rattle.disk_model.specs.Limits.{longest_name}
use Rattle.kernel_model.specs.Requests.{read_bytes, most_bytes, longest_names, pair_size, word_size, request_by, request_of}
use Rattle.kernel_model.specs.declared.request.Request.{Request}
use Rattle.kernel_model.specs.declared.request.Request.TheVariants.{Write, Read, Open, Pipe, Wait, Unlink, Rename, Exec}

pub length-bytes_at : (memory : Memory) (at n : ℕ) → length (bytes_at memory at n) ≡ n
length-bytes_at memory at zero = refl
length-bytes_at memory at (suc n) = ap (λ (k : ℕ). suc k) (length-bytes_at memory (at + 1) n)

bytes_at-small : (memory : Memory) (at n : ℕ) → HoldsBytes memory → AllByRecursion (λ (b : ℕ). b < 256) (bytes_at memory at n)
bytes_at-small memory at zero h = tt
bytes_at-small memory at (suc n) h = (h at, bytes_at-small memory (at + 1) n h)

-- what was read of a memory are n numbers, and bytes where the memory holds bytes
abbrev pub AreRead : Memory → ℕ → Option (List ℕ) → Type 0
AreRead memory n o = IfSome o (λ bytes. (length bytes ≡ n) × (HoldsBytes memory → AllByRecursion (λ (b : ℕ). b < 256) bytes))

-- the bytes of a request were read of this memory, and may be written where it says that they fit
abbrev pub IsAsked : Memory → Request → Type 0
IsAsked memory (Write fd n bytes) = AreRead memory n bytes
IsAsked memory (Read fd at n fits) = fits ≡ true → is_writable memory at n ≡ true
IsAsked memory (Open n mode name) = AreRead memory n name
IsAsked memory (Unlink n name) = AreRead memory n name
IsAsked memory (Rename n m names) = AreRead memory (n + m) names
IsAsked memory (Exec n name) = AreRead memory n name
IsAsked memory (Pipe at fits) = fits ≡ true → is_writable memory at 8 ≡ true
IsAsked memory (Wait at fits) = fits ≡ true → (at == 0) ≡ false → is_writable memory at 4 ≡ true
IsAsked memory _ = Unit {0}

are_read : (memory : Memory) (most at n : ℕ) → AreRead memory n (read_bytes memory most at n)
are_read memory most at n = by (nat_le n most) (is_none (range_fault to_read memory at n))
  where
    by : (b c : Bool) → AreRead memory n (if b then (if c then Some (bytes_at memory at n) else None) else None)
    by true true = (length-bytes_at memory at n, bytes_at-small memory at n)
    by true false = tt
    by false c = tt

other : (a b : Bool) → (a || b) ≡ true → a ≡ false → b ≡ true
other true b h isnt = absurd (let no : ⊥ = cc in no)
other false b h isnt = h

is_asked : (number a0 a1 a2 : ℕ) (memory : Memory) → IsAsked memory (request_by number a0 a1 a2 memory)
is_asked number a0 a1 a2 memory =
    by (number == 1) _ _ tt (
    by (number == 2) _ _ (are_read memory most_bytes a1 a2) (
    by (number == 3) _ _ (λ fits. (and_parts (nat_le a2 most_bytes) (is_writable memory a1 a2) fits).1) (
    by (number == 4) _ _ (are_read memory longest_name a0 a1) (
    by (number == 5) _ _ tt (
    by (number == 6) _ _ (λ fits. (and_parts (nat_le pair_size pair_size) (is_writable memory a0 8) fits).1) (
    by (number == 7) _ _ tt (
    by (number == 8) _ _ (λ fits some.
    (and_parts (nat_le word_size word_size) (is_writable memory a0 4) (other (a0 == 0) (nat_le word_size word_size && is_writable memory a0 4) fits some)).1) (
    by (number == 9) _ _ tt (
    by (number == 10) _ _ tt (
    by (number == 11) _ _ tt (
    by (number == 12) _ _ (are_read memory longest_name a0 a1) (
    by (number == 13) _ _ (are_read memory longest_names a0 (a1 + a2)) (
    by (number == 14) _ _ (are_read memory longest_name a0 a1) tt)))))))))))))
  where
    by : (b : Bool) (x y : Request) → IsAsked memory x → IsAsked memory y → IsAsked memory (if b then x else y)
    by true x y f g = f
    by false x y f g = g

-- so it is of what a machine asks for
pub asked_by : (s : State) → IsAsked s.architectural.memory (request_of s)
asked_by s = is_asked (slice_index s.architectural.registers 17)
    (slice_index s.architectural.registers 10) (slice_index s.architectural.registers 11) (slice_index s.architectural.registers 12) s.architectural.memory
