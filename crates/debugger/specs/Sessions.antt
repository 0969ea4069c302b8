-- What a debugger is to its callers.
use Rattle.std.specs.Prelude.{◌≡◌, ℕ, ◌+◌, ◌%◌, ◌⊎◌, List, [], Option, None, refl, slice_index_or, count_by, is_some}
use Rattle.std.specs.Coded.{Coded, code_by, coded×, coded_ℕ, coded_list, coded_option}
use Rattle.machine_model.specs.Images.{Program, program_code}
use Rattle.machine_model.specs.CallReplies.{reply_code}
use Rattle.machine_model.specs.declared.reply.Reply.{Reply}
use Rattle.debugger.specs.Traces.{EntersNext, Traced, next_of, halt_of, reached}
use Rattle.debugger.specs.declared.halt.Halt.{Halt}

-- The program and the trace, the count at which it stands, the address of each breakpoint by its number, and how many
-- instructions the last rewind ran again.
pub record Session : Type 0 where
  pub program : Program
  pub replies : List Reply
  pub count : ℕ
  pub breaks : List (Option ℕ)
  pub reran : ℕ

-- by this code a proof tells sessions apart
abbrev pub session_code : Coded Session
session_code =
    code_by (Program × (List Reply × (ℕ × (List (Option ℕ) × ℕ)))) (coded× program_code (coded× (coded_list reply_code) (coded× coded_ℕ (coded× (coded_list (coded_option coded_ℕ)) coded_ℕ))))
    (λ s. (s.program, (s.replies, (s.count, (s.breaks, s.reran)))))
    (λ p. record { program = p.0; replies = p.1.0; count = p.1.1.0; breaks = p.1.1.1.0; reran = p.1.1.1.1 })
    (λ _. refl)

-- a program with its trace, at its first state
abbrev pub begins : Program → List Reply → Session
begins program replies = record { program = program; replies = replies; count = 0; breaks = []; reran = 0 }

-- the state after n instructions, with the replies that are left
abbrev pub place_at : Session → ℕ → Traced
place_at s n = reached s.program s.replies n

-- what keeps the state after n instructions from going on, if anything does
abbrev pub halt_at : Session → ℕ → Option Halt
halt_at s n = halt_of (next_of (place_at s n))

-- The next step takes memory: it goes to a count that is a multiple of 1,024, where a state is kept, or over a call whose reply
-- has an image.
abbrev pub TakesMemory : Session → Type 0
TakesMemory s = ((s.count + 1) % 1024 ≡ 0) ⊎ EntersNext (place_at s s.count)

-- the address of the breakpoint of a number
abbrev pub break_of : Session → ℕ → Option ℕ
break_of s number = slice_index_or s.breaks number None

-- how many breakpoints are set
abbrev pub break_count : Session → ℕ
break_count s = count_by is_some s.breaks
