-- Where a run back stops.
use Rattle.std.specs.Prelude.{◌≡◌, ℕ, ◌%◌, ◌<◌, ◌≤◌, Option, Some, None}
use Rattle.debugger.specs.Sessions.{Session, place_at}
use Rattle.debugger.specs.Stops.{least_from}

-- the least number of a breakpoint at the program counter after n instructions
abbrev pub break_after : Session → ℕ → Option ℕ
break_after s n = least_from 0 s.breaks (place_at s n).state.architectural.pc

-- no breakpoint stands at a count from one on and below the present one
abbrev pub HasNone : Session → ℕ → Type 0
HasNone s least = (n : ℕ) → least ≤ n → n < s.count → break_after s n ≡ None

-- A run went back to the greatest count below the present one at which a breakpoint stands, if one stands from a least count on,
-- and else to that.
pub record GoesBack (old : Session) (least : ℕ) (number : Option ℕ) (new : Session) : Type 0 where
  pub within : least ≤ new.count
  pub past : (n : ℕ) → new.count < n → n < old.count → break_after old n ≡ None
  pub here : (k : ℕ) → number ≡ Some k → (new.count < old.count) × (break_after old new.count ≡ Some k)
  pub none : number ≡ None → (new.count ≡ least) × HasNone old least
  pub rest : new ≡ record old { count = new.count; reran = new.count % 1024 }
