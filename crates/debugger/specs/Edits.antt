-- Breakpoints that are set and cleared.
use Rattle.std.specs.Prelude.{◌≡◌, ◌≢◌, ℕ, Option}
use Rattle.debugger.specs.Sessions.{Session, break_of}

-- a number has this breakpoint now, or none; all else is as it was
pub record Changes (old : Session) (number : ℕ) (slot : Option ℕ) (new : Session) : Type 0 where
  pub changed : break_of new number ≡ slot
  pub others : (other : ℕ) → other ≢ number → break_of new other ≡ break_of old other
  pub rest : new ≡ record old { breaks = new.breaks }
