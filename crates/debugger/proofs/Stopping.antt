-- Where runs stop.
use Rattle.std.proofs.Common.{◌≡◌, ℕ, ◌≤◌, None}
use Rattle.debugger.specs.Sessions.{Session}
use Rattle.debugger.specs.Stops.{limit_of, stop_after, stop_at, stop_before, Passes}

-- A run so far: it went on past each count up to the present one, which it may reach, and no breakpoint is there.
pub record Goes (old : Session) (max : ℕ) (now : Session) : Type 0 where
  pub passes : Passes (stop_at old max) old now
  pub within : now.count ≤ limit_of old max
  pub unbroken : stop_after old now.count ≡ None

-- the same of a run that no breakpoint stops
pub record GoesPast (old : Session) (max : ℕ) (now : Session) : Type 0 where
  pub passes : Passes (stop_before old max) old now
  pub within : now.count ≤ limit_of old max
