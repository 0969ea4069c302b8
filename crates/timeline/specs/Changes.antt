-- Which instructions of a session change what locations hold.
use Rattle.std.specs.Prelude.{◌≡◌, ◌≢◌, ℕ, ◌+◌, ◌-◌, ◌%◌, ◌<◌, ◌≤◌, List, Option, Some, None}
use Rattle.debugger.specs.Backward.{break_after}
use Rattle.debugger.specs.Sessions.{Session, place_at}
use Rattle.debugger.specs.declared.stops.Stopped.{Stopped}
use Rattle.debugger.specs.declared.stops.Stopped.TheVariants.{Break}
use Rattle.timeline.specs.Locations.{held_in}
use Rattle.timeline.specs.declared.location.Location.{Location}

-- what locations hold after n instructions
abbrev pub held_at : Session → List Location → ℕ → List (Option ℕ)
held_at s locations n = held_in locations (place_at s n).state

-- the instruction after n others changes what locations hold; a call that takes its reply is one
abbrev pub ChangesAt : Session → List Location → ℕ → Type 0
ChangesAt s locations n = held_at s locations (n + 1) ≢ held_at s locations n

-- no instruction from a count on, and before another count, does
abbrev pub NoneChanges : Session → List Location → ℕ → ℕ → Type 0
NoneChanges s locations from end = (n : ℕ) → from ≤ n → n < end → held_at s locations (n + 1) ≡ held_at s locations n

-- the last instruction that does, of those from a count on and before another, by the count before it
abbrev pub IsLastChange : Session → List Location → ℕ → ℕ → Option ℕ → Type 0
IsLastChange s locations from end None = NoneChanges s locations from end
IsLastChange s locations from end (Some n) = (from ≤ n) × (n < end) × ChangesAt s locations n × NoneChanges s locations (n + 1) end

-- a session that went back to its state after n instructions
abbrev pub back_at : Session → ℕ → Session
back_at s n = record s { count = n; reran = n % 1024 }

-- Why a run on ended at a count: right after the first instruction that changes what locations hold, or else before any does.
abbrev pub EndsAtChange : Session → List Location → Option Stopped → ℕ → Type 0
EndsAtChange s locations None end = (s.count < end) × ChangesAt s locations (end - 1) × NoneChanges s locations s.count (end - 1)
EndsAtChange s locations (Some why) end = NoneChanges s locations s.count end

-- A session went on up to the first instruction that changes what locations hold, or to where something else stopped it: no
-- breakpoint was passed.
pub record RunsToChange (old : Session) (locations : List Location) (stopped : Option Stopped) (new : Session) : Type 0 where
  pub on : old.count ≤ new.count
  pub change : EndsAtChange old locations stopped new.count
  pub unbroken : (n : ℕ) → old.count < n → n < new.count → break_after old n ≡ None
  pub here : (number : ℕ) → stopped ≡ Some (Break number) → break_after old new.count ≡ Some number
  pub rest : new ≡ record old { count = new.count }
