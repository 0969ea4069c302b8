-- How far a place or a session goes on by its machine alone.
use Rattle.std.specs.Prelude.{◌≡◌, ℕ, ◌<◌, ◌≤◌, false, List, Option, None}
use Rattle.machine_model.specs.Stopping.{is_among}
use Rattle.debugger.specs.Sessions.{Session, halt_at, place_at}
use Rattle.debugger.specs.Stops.{least_from}
use Rattle.debugger.specs.Traces.{Traced, along}
use Rattle.debugger.specs.Ways.{Leads}

-- at most max instructions, none at one of these addresses, led from one to the other
pub record Coasted (stops : List ℕ) (max : ℕ) (from to : Traced) : Type 0 where
  pub done : ℕ
  pub leads : Leads done from to
  pub within : done ≤ max
  pub off : (k : ℕ) → k < done → is_among stops (along k from).state.architectural.pc ≡ false

-- the address of each breakpoint is one of these
abbrev pub HasAll : List (Option ℕ) → List ℕ → Type 0
HasAll breaks stops = (a : ℕ) → is_among stops a ≡ false → least_from 0 breaks a ≡ None

-- a session went on, to no count above a limit, past counts at which nothing keeps it and no breakpoint stands
pub record Coasts (old : Session) (limit : ℕ) (new : Session) : Type 0 where
  pub on : old.count ≤ new.count
  pub within : new.count ≤ limit
  pub past : (n : ℕ) → old.count ≤ n → n < new.count → halt_at old n ≡ None
  pub unbroken : (n : ℕ) → old.count ≤ n → n < new.count → least_from 0 old.breaks (place_at old n).state.architectural.pc ≡ None
  pub rest : new ≡ record old { count = new.count }
