-- How far a place comes along its trace.
use Rattle.std.specs.Prelude.{◌≡◌, ◌≢◌, ℕ, ◌+◌, ◌<◌, ◌≤◌, List, drop, Option, Some, None}
use Rattle.machine_model.specs.declared.reply.Reply.{Reply}
use Rattle.debugger.specs.Traces.{Traced, traced, next_of, halt_of, along}
use Rattle.debugger.specs.declared.halt.Halt.{Halt}
use Rattle.debugger.specs.declared.place.Place.{Place}

-- a place's state, with the replies that it did not take
abbrev pub traced_at : List Reply → Place → Traced
traced_at replies place = traced place.machine (drop place.taken replies)

-- n instructions lead from one to the other
pub record Leads (n : ℕ) (from to : Traced) : Type 0 where
  pub moves : along n from ≡ to
  pub counts : to.state.count ≡ from.state.count + n

-- At most max instructions led from one to the other, up to what keeps that from going on; where nothing does, at least one.
pub record Came (max : ℕ) (from : Traced) (halt : Option Halt) (to : Traced) : Type 0 where
  pub done : ℕ
  pub leads : Leads done from to
  pub within : done ≤ max
  pub progress : halt ≡ None → 0 < done
  pub short : halt ≢ None → done < max
  pub stands : (why : Halt) → halt ≡ Some why → halt_of (next_of to) ≡ Some why
