-- Steps, and where a run stops.
use Rattle.std.specs.Prelude.{◌≡◌, ℕ, ◌+◌, ◌^◌, ◌<◌, ◌≤◌, ◌==◌, min, nat_lt, if◌then◌else◌, Bool, false, List, [], ◌∷◌, Option, Some, None, option_map, Result, Ok, Err}
use Rattle.std.specs.Option.{option_or}
use Rattle.debugger.specs.Sessions.{Session, TakesMemory, place_at, halt_at}
use Rattle.debugger.specs.declared.halt.Halt.{Halt}
use Rattle.debugger.specs.declared.halt.Halt.TheVariants as halt
use Rattle.debugger.specs.declared.fault.DebugFault.{DebugFault}
use Rattle.debugger.specs.declared.fault.DebugFault.TheVariants as fault
use Rattle.debugger.specs.declared.stops.Stepped.{Stepped}
use Rattle.debugger.specs.declared.stops.Stepped.TheVariants as stepped
use Rattle.debugger.specs.declared.stops.Stopped.{Stopped}
use Rattle.debugger.specs.declared.stops.Stopped.TheVariants as stopped

-- what a step answers, by what keeps the state from going on
abbrev pub answer_at : Option Halt → Result Stepped DebugFault
answer_at None = Ok stepped.Went
answer_at (Some (halt.Trap cause)) = Ok (stepped.Trap cause)
answer_at (Some halt.EndOfTrace) = Err fault.PastTrace

-- what a step answers, memory aside; the count is tested first
abbrev pub answer_of : Session → Result Stepped DebugFault
answer_of s = if s.count == 2 ^ 40 then Err fault.Budget else answer_at (halt_at s s.count)

-- what a step leaves
abbrev pub after_step : Session → Result Stepped DebugFault → Session
after_step s (Ok stepped.Went) = record s { count = s.count + 1 }
after_step s (Ok (stepped.Trap cause)) = s
after_step s (Err why) = s

abbrev pub is_at : ℕ → Option ℕ → Bool
is_at address None = false
is_at address (Some other) = other == address

-- the least number of a breakpoint at an address, where the first has a number
abbrev pub least_from : ℕ → List (Option ℕ) → ℕ → Option ℕ
least_from number [] address = None
least_from number (slot ∷ slots) address = if is_at address slot then Some number else least_from (number + 1) slots address

abbrev pub stopped_by : Halt → Stopped
stopped_by (halt.Trap cause) = stopped.Trap cause
stopped_by halt.EndOfTrace = stopped.EndOfTrace

-- where a run of at most max instructions ends at the latest
abbrev pub limit_of : Session → ℕ → ℕ
limit_of s max = min (s.count + max) (2 ^ 40)

-- why a run stops before the instruction at a count, if it does
abbrev pub stop_before : Session → ℕ → ℕ → Option Stopped
stop_before s max n = if n == limit_of s max then Some stopped.Limit else option_map stopped_by (halt_at s n)

-- why a run stops after the instruction that led to a count, if it does
abbrev pub stop_after : Session → ℕ → Option Stopped
stop_after s n = if nat_lt s.count n then option_map (λ number. stopped.Break number) (least_from 0 s.breaks (place_at s n).state.architectural.pc) else None

-- why a run of at most max instructions, from a session on, stops at a count, if it does
abbrev pub stop_at : Session → ℕ → ℕ → Option Stopped
stop_at s max n = option_or (stop_after s n) (stop_before s max n)

-- a run went on from a count up to another, where it stands, past what stops it at some counts; all else is as it was
pub record Passes (stop : ℕ → Option Stopped) (old new : Session) : Type 0 where
  pub on : old.count ≤ new.count
  pub past : (n : ℕ) → old.count ≤ n → n < new.count → stop n ≡ None
  pub rest : new ≡ record old { count = new.count }

-- a run went on up to its first stop
pub record Stops (stop : ℕ → Option Stopped) (old : Session) (why : Stopped) (new : Session) : Type 0 where
  pub passes : Passes stop old new
  pub here : stop new.count ≡ Some why

-- a run went on up to where the next step takes memory, and found none
pub record StopsShort (stop : ℕ → Option Stopped) (old new : Session) : Type 0 where
  pub passes : Passes stop old new
  pub onward : stop new.count ≡ None
  pub takes : TakesMemory new
