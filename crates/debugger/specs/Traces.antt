-- The states of a program whose calls take the replies of a trace, one after the other.
use Rattle.std.specs.Prelude.{◌≡◌, ℕ, zero, suc, if◌then◌else◌, Bool, true, false, is_some, List, [], ◌∷◌, length, Option, Some, None}
use Rattle.memory_model.specs.Access.{is_writable}
use Rattle.machine_model.specs.First.{first_state}
use Rattle.machine_model.specs.Images.{Program}
use Rattle.machine_model.specs.States.{State, Stepped, Goes, Halts, next, stopped_at}
use Rattle.machine_model.specs.Replies.{replied}
use Rattle.machine_model.specs.declared.reply.Reply.{Reply}
use Rattle.machine_model.specs.declared.stop.Stop.TheVariants.{Limit, Call, Trap}
use Rattle.debugger.specs.declared.halt.Halt.{Halt}
use Rattle.debugger.specs.declared.halt.Halt.TheVariants as halt

-- a state, and the replies that are left for its calls
pub record Traced : Type 0 where
  pub state : State
  pub left : List Reply

abbrev pub traced : State → List Reply → Traced
traced s left = record { state = s; left = left }

-- what comes next: one instruction on, or what keeps the state from going on
pub data Next : Type 0 where
  Moves : Traced → Next
  Rests : Halt → Next

-- A call takes the next reply. The trace ends where there is none, and where its bytes may not be written.
abbrev pub next_at_call : State → List Reply → Next
next_at_call s [] = Rests halt.EndOfTrace
next_at_call s (r ∷ rs) = if is_writable s.architectural.memory r.at (length r.bytes) then Moves (traced (replied s r) rs) else Rests halt.EndOfTrace

-- the next reply has an image
abbrev pub brings_image : List Reply → Bool
brings_image [] = false
brings_image (r ∷ rs) = is_some r.image

-- the state stands at a call, and the next reply has an image
pub record EntersNext (t : Traced) : Type 0 where
  pub stands : stopped_at t.state ≡ Some Call
  pub image : brings_image t.left ≡ true

-- by what the state itself comes to; no state halts at the limit
abbrev pub next_by : Traced → Stepped → Next
next_by t (Goes s) = Moves (traced s t.left)
next_by t (Halts (Trap cause)) = Rests (halt.Trap cause)
next_by t (Halts Call) = next_at_call t.state t.left
next_by t (Halts Limit) = Rests halt.EndOfTrace

unfoldable pub next_of : Traced → Next
next_of t = next_by t (next t.state)

-- where it goes on by a move, and else stays
abbrev pub by_next : {A : Type 0} → Next → (Traced → A) → A → A
by_next (Moves t) go stay = go t
by_next (Rests why) go stay = stay

-- n instructions on, or as many as there are
unfoldable pub along : ℕ → Traced → Traced
along zero t = t
along (suc n) t = by_next (next_of t) (λ u. along n u) t

-- The state of a program with its trace after n instructions, calls that took a reply among them; or the last one, where there
-- are fewer. Its count tells which.
unfoldable pub reached : Program → List Reply → ℕ → Traced
reached program replies n = along n (traced (first_state program) replies)

-- what keeps it from going on, if anything does
abbrev pub halt_of : Next → Option Halt
halt_of (Moves t) = None
halt_of (Rests why) = Some why
