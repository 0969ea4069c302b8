-- What a debugger keeps.
use Rattle.std.specs.Prelude.{◌≡◌, ◌≢◌, ℕ, ◌+◌, ◌*◌, ◌^◌, ◌<◌, ◌≤◌, List, length, slice_get, Option, Some, None}
use Rattle.slab.specs.Slab.{Slab, slab_len}
use Rattle.machine_model.specs.Images.{Program}
use Rattle.machine_model.specs.declared.reply.Reply.{Reply}
use Rattle.debugger.specs.Traces.{reached}
use Rattle.debugger.specs.Sessions.{Session, halt_at}
use Rattle.debugger.specs.Ways.{traced_at}
use Rattle.debugger.specs.declared.halt.Halt.{Halt}
use Rattle.debugger.specs.declared.place.Place.{Place}

-- what a debugger of these parts is to its callers
abbrev pub session_of : Program → List Reply → Place → Slab ℕ → ℕ → Session
session_of program replies place breaks reran = record { program = program; replies = replies; count = place.machine.count; breaks = breaks.slots; reran = reran }

-- a place is that of the program with its trace after as many instructions as its machine counts
abbrev pub IsAt : Program → List Reply → Place → Type 0
IsAt program replies place = reached program replies place.machine.count ≡ traced_at replies place

-- the place at the k-th count that is a multiple of 1,024
pub record IsKept (program : Program) (replies : List Reply) (k : ℕ) (place : Place) : Type 0 where
  pub counts : place.machine.count ≡ 1024 * k
  pub there : IsAt program replies place
  pub bound : place.taken ≤ length replies

-- the places at counts that are multiples of 1,024, one after the other
abbrev pub AreKept : Program → List Reply → List Place → Type 0
AreKept program replies places = (k : ℕ) (place : Place) → slice_get places k ≡ Some place → IsKept program replies k place

-- a place of the trace, the places kept up to it and perhaps beyond, and breakpoints within their limit
pub record Keeps (program : Program) (replies : List Reply) (place : Place) (kept : List Place) (breaks : Slab ℕ) : Type 0 where
  pub there : IsAt program replies place
  pub are_kept : AreKept program replies kept
  pub enough : place.machine.count < 1024 * length kept
  pub few : length kept ≤ 2 ^ 30 + 1
  pub budget : place.machine.count ≤ 2 ^ 40
  pub set : slab_len breaks ≤ 64
  pub room : 64 ≤ breaks.capacity
  pub bound : place.taken ≤ length replies

-- What states that are kept count as, in bytes: 1,024 for each, and 384 for each block of 256 bytes that was copied for one. There is one
-- at each count that is a multiple of 1,024, up to the present count and perhaps beyond, and none has more blocks than there are, 2^24.
pub record CountsKept (count bytes : ℕ) : Type 0 where
  pub states : ℕ
  pub blocks : ℕ
  pub bytes_are : bytes ≡ 1024 * states + 384 * blocks
  pub enough : count < 1024 * states
  pub few : states ≤ 2 ^ 30 + 1
  pub within : blocks ≤ 2 ^ 24 * states

-- A session went on by at most max instructions, at least one where nothing keeps it from going on.
pub record Advances (old : Session) (max : ℕ) (halt : Option Halt) (new : Session) : Type 0 where
  pub on : old.count ≤ new.count
  pub within : new.count ≤ old.count + max
  pub past : (n : ℕ) → old.count ≤ n → n < new.count → halt_at old n ≡ None
  pub progress : halt ≡ None → old.count < new.count
  pub short : halt ≢ None → new.count < old.count + max
  pub stands : (why : Halt) → halt ≡ Some why → halt_at old new.count ≡ Some why
  pub rest : new ≡ record old { count = new.count }
