-- Loads, stores and copies over a memory.
use Rattle.std.specs.Prelude.{ℕ, suc, zero, ◌+◌, ◌-◌, ◌*◌, ◌/◌, ◌%◌, ◌^◌, ◌<◌, ◌==◌, Bool, ◌&&◌, nat_le, nat_lt, is_none, if◌then◌else◌, List, [], ◌∷◌, length, slice_index, Option, Some, None, Result, Ok, Err}
use Rattle.std.specs.FinMap.{get, insert}
use Rattle.memory_model.specs.Memory.{Memory, Cell, memory_of}
use Rattle.memory_model.specs.declared.access.Rights.{Rights}
use Rattle.memory_model.specs.declared.access.Width.{Width}
use Rattle.memory_model.specs.declared.access.Width.TheVariants.{Byte, Half, Word}
use Rattle.memory_model.specs.declared.access.BusFault.{BusFault}
use Rattle.memory_model.specs.declared.access.BusFault.TheVariants.{Unmapped, NoRight, Misaligned}

abbrev pub size : Width → ℕ
size Byte = 1
size Half = 2
size Word = 4

-- a right that a page may have
abbrev pub to_read : Rights → Bool
to_read r = r.read

abbrev pub to_write : Rights → Bool
to_write r = r.write

abbrev pub to_execute : Rights → Bool
to_execute r = r.execute

-- why the byte of a cell may not be used by a right, and else what the rest says
abbrev pub fault_at : (Rights → Bool) → Option Cell → Option BusFault → Option BusFault
fault_at right None rest = Some Unmapped
fault_at right (Some cell) rest = if right cell.rights then rest else Some NoRight

-- why n bytes from an address on may not be used by a right: the lowest byte that may not be decides
abbrev pub range_fault : (Rights → Bool) → Memory → ℕ → ℕ → Option BusFault
range_fault right memory at zero = None
range_fault right memory at (suc n) = fault_at right (get memory at) (range_fault right memory (at + 1) n)

-- the same of an access of a width; that it is misaligned is tested first
abbrev pub access_fault : (Rights → Bool) → Memory → ℕ → Width → Option BusFault
access_fault right memory at width = if at % size width == 0 then range_fault right memory at (size width) else Some Misaligned

abbrev pub byte_of : Option Cell → ℕ
byte_of None = 0
byte_of (Some cell) = cell.byte

-- what stands at each address is a byte, a number below 256
abbrev pub HoldsBytes : Memory → Type 0
HoldsBytes memory = (at : ℕ) → byte_of (get memory at) < 256

-- the number that n bytes from an address on spell, little-endian
abbrev pub value_at : Memory → ℕ → ℕ → ℕ
value_at memory at zero = 0
value_at memory at (suc n) = byte_of (get memory at) + 2 ^ 8 * value_at memory (at + 1) n

-- n bytes from an address on
abbrev pub bytes_at : Memory → ℕ → ℕ → List ℕ
bytes_at memory at zero = []
bytes_at memory at (suc n) = byte_of (get memory at) ∷ bytes_at memory (at + 1) n

abbrev pub or_fault : {A : Type 0} → Option BusFault → A → Result A BusFault
or_fault None value = Ok value
or_fault (Some fault) value = Err fault

-- what a load answers
abbrev pub loaded : Memory → ℕ → Width → Result ℕ BusFault
loaded memory at width = or_fault (access_fault to_read memory at width) (value_at memory at (size width))

-- the word at an address from which it may be executed
abbrev pub fetched : Memory → ℕ → Result ℕ BusFault
fetched memory at = or_fault (access_fault to_execute memory at Word) (value_at memory at 4)

-- n bytes from an address on may all be written
abbrev pub is_writable : Memory → ℕ → ℕ → Bool
is_writable memory at n = is_none (range_fault to_write memory at n)

abbrev pub with_byte : Memory → ℕ → ℕ → Option Cell → Memory
with_byte memory at byte None = memory
with_byte memory at byte (Some cell) = insert memory at (record { byte = byte; rights = cell.rights })

-- these bytes from an address on; the rights stay
abbrev pub put_bytes : Memory → ℕ → List ℕ → Memory
put_bytes memory at [] = memory
put_bytes memory at (byte ∷ bytes) = put_bytes (with_byte memory at byte (get memory at)) (at + 1) bytes

-- the low n bytes of a number, little-endian
abbrev pub low_bytes : ℕ → ℕ → List ℕ
low_bytes zero value = []
low_bytes (suc n) value = value % 2 ^ 8 ∷ low_bytes n (value / 2 ^ 8)

-- the memory after a store that is not refused
abbrev pub stored : Memory → ℕ → Width → ℕ → Memory
stored memory at width value = put_bytes memory at (low_bytes (size width) value)

abbrev pub cell_with : Rights → ℕ → Cell
cell_with rights byte = record { byte = byte; rights = rights }

-- these bytes stand from an address on, with these rights; elsewhere all is as it was
abbrev pub mapped : Memory → ℕ → Rights → List ℕ → Memory
mapped memory at rights bytes = memory_of (λ a. if nat_le at a && nat_lt a (at + length bytes) then Some (cell_with rights (slice_index bytes (a - at))) else get memory a)
