-- Which events have a cone, and how an Enter joins the footprints by which cones are found.
use Rattle.std.specs.Prelude.{◌≡◌, ℕ, ◌-◌, ◌==◌, ◌&&◌, not, Bool, true, false, List, [], ◌∷◌, ◌++◌, slice_get, Option, Some, None}
use Rattle.footprints.specs.Kept.{footprint}
use Rattle.kernel_model.specs.Entries.{Entry}
use Rattle.kernel_model.specs.declared.carrier.Carrier.{Carrier}
use Rattle.kernel_model.specs.declared.carrier.Carrier.TheVariants.{Proc}
use Rattle.kernel_model.specs.declared.event.Event.{Event}
use Rattle.kernel_model.specs.declared.event.Event.TheVariants.{Turn, Enter, Cut, Complete, Fail}
use Rattle.kernel_step.specs.declared.cones.ConeFault.{ConeFault}
use Rattle.kernel_step.specs.declared.cones.ConeFault.TheVariants.{NoEvent, OutOfMemory}

-- there is an event, and it is a process's
abbrev pub is_of_process : Option Event → Bool
is_of_process None = false
is_of_process (Some (Turn pid n)) = true
is_of_process (Some (Enter pid)) = true
is_of_process (Some Cut) = false
is_of_process (Some (Complete at)) = false
is_of_process (Some (Fail at)) = false

-- among these events is one of this number, counted from 1, and it is a process's
abbrev pub has_event : List Event → ℕ → Bool
has_event events n = not (n == 0) && is_of_process (slice_get events (n - 1))

-- the number of a fault
abbrev pub number_of : ConeFault → ℕ
number_of NoEvent = 1
number_of OutOfMemory = 2

-- an Enter of process pid with this entry joins these footprints: with what it reads beside its process, and what it writes
pub record IsFootprintNoted (pid : ℕ) (x : Entry) (old new : List Entry) : Type 0 where
  pub reads : List Carrier
  pub own : x.reads ≡ Proc pid ∷ reads
  pub noted : new ≡ old ++ footprint reads x.writes ∷ []
