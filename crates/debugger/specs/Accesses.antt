-- What instructions and replies load and store.
use Rattle.std.specs.Prelude.{◌≡◌, ℕ, ◌+◌, ◌^◌, ◌<◌, ◌≤◌, ◌⊎◌, List, [], ◌∷◌, length, Option, Some, None, Result, Ok, Err}
use Rattle.std.specs.FinMap.{get}
use Rattle.formats.specs.declared.instr.Instr.{Instr}
use Rattle.formats.specs.declared.instr.Instr.TheVariants as instr
use Rattle.formats.specs.Operators.{width_of}
use Rattle.formats.specs.Table.{instr_of}
use Rattle.memory_model.specs.Access.{fetched, size}
use Rattle.memory_model.specs.declared.access.BusFault.{BusFault}
use Rattle.memory_model.specs.declared.access.Width.{Width}
use Rattle.machine_model.specs.Effects.{ArchitecturalState, moved, reg}
use Rattle.machine_model.specs.Images.{Program}
use Rattle.machine_model.specs.States.{State, stopped_at}
use Rattle.machine_model.specs.declared.reply.Reply.{Reply}
use Rattle.machine_model.specs.declared.stop.Stop.{Stop}
use Rattle.debugger.specs.Traces.{Traced, Moves, next_of, halt_of}
use Rattle.debugger.specs.declared.access.Access.{Access}
use Rattle.debugger.specs.declared.access.AccessKind.{AccessKind}
use Rattle.debugger.specs.declared.access.AccessKind.TheVariants.{Load, Store}
use Rattle.debugger.specs.declared.halt.Halt.{Halt}

-- the bytes of a width at an address
abbrev pub accessed : AccessKind → ℕ → Width → Option Access
accessed kind at width = Some (record { at = at; length = size width; kind = kind })

-- what an instruction loads or stores
abbrev pub access_of : Instr → ArchitecturalState → Option Access
access_of (instr.Load operator rd rs1 imm) h = accessed Load (moved (reg h rs1) imm) (width_of operator)
access_of (instr.Store width rs1 rs2 imm) h = accessed Store (moved (reg h rs1) imm) width
access_of _ h = None

abbrev pub access_by_instr : ArchitecturalState → Option Instr → Option Access
access_by_instr h None = None
access_by_instr h (Some i) = access_of i h

abbrev pub access_by_fetch : ArchitecturalState → Result ℕ BusFault → Option Access
access_by_fetch h (Err fault) = None
access_by_fetch h (Ok word) = access_by_instr h (instr_of word)

-- what the instruction at the program counter loads or stores
abbrev pub fetched_access : State → Option Access
fetched_access s = access_by_fetch s.architectural (fetched s.architectural.memory s.architectural.pc)

abbrev pub stored_bytes : ℕ → List ℕ → Option Access
stored_bytes at [] = None
stored_bytes at (b ∷ bs) = Some (record { at = at; length = length (b ∷ bs); kind = Store })

abbrev pub stored_with : Reply → Option Program → Option Access
stored_with r None = stored_bytes r.at r.bytes
stored_with r (Some p) = Some (record { at = 0; length = 2 ^ 32; kind = Store })

-- what a reply stores: its bytes, or all of the memory where it has an image
abbrev pub stored_by : Reply → Option Access
stored_by r = stored_with r r.image

abbrev pub stored_by_next : List Reply → Option Access
stored_by_next [] = None
stored_by_next (r ∷ rs) = stored_by r

-- by the call at which the state stands, if it does
abbrev pub access_standing : Traced → Option Stop → Option Access
access_standing t None = fetched_access t.state
access_standing t (Some stop) = stored_by_next t.left

-- nothing is loaded or stored where something keeps the state from going on
abbrev pub access_unless : Option Halt → Option Access → Option Access
access_unless None access = access
access_unless (Some why) access = None

-- what comes next loads or stores: the instruction at the program counter, or the reply to the call at which the state stands
abbrev pub next_access_of : Traced → Option Access
next_access_of t = access_unless (halt_of (next_of t)) (access_standing t (stopped_at t.state))

-- an address is none of those that are stored to
abbrev pub IsOutside : ℕ → Option Access → Type 0
IsOutside a None = Unit {0}
IsOutside a (Some access) = access.kind ≡ Store → (a < access.at) ⊎ (access.at + access.length ≤ a)

-- what comes next leaves each byte, with its rights, at an address outside of what is stored
abbrev pub LeavesOutside : Traced → Option Access → Type 0
LeavesOutside t access = (u : Traced) (a : ℕ) → a < 2 ^ 32 → next_of t ≡ Moves u → IsOutside a access → get u.state.architectural.memory a ≡ get t.state.architectural.memory a
