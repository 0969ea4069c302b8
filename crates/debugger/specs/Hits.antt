-- The last breakpoint on a way.
use Rattle.std.specs.Prelude.{◌≡◌, ℕ, zero, suc, ◌+◌, ◌<◌, ◌≤◌, List, Option, Some, None}
use Rattle.std.specs.Option.{option_or}
use Rattle.debugger.specs.Traces.{Traced, along}
use Rattle.debugger.specs.Sessions.{Session}
use Rattle.debugger.specs.Stops.{least_from}
use Rattle.debugger.specs.Backward.{break_after, HasNone}
use Rattle.debugger.specs.declared.hits.Hit.{Hit}

-- the hit at a count, by the least number of a breakpoint there
abbrev pub hit_with : ℕ → Option ℕ → Option Hit
hit_with count None = None
hit_with count (Some number) = Some (record { count = count; number = number })

-- the last hit among n states, the first of which has a count
unfoldable pub last_hit : List (Option ℕ) → Traced → ℕ → ℕ → Option Hit
last_hit breaks t from zero = None
last_hit breaks t from (suc n) = option_or (hit_with (from + n) (least_from 0 breaks (along n t).state.architectural.pc)) (last_hit breaks t from n)

-- the last hit at a count below n
unfoldable pub last_below : Session → ℕ → Option Hit
last_below s zero = None
last_below s (suc n) = option_or (hit_with n (break_after s n)) (last_below s n)

-- the last hit below the present count, if it stands from a least count on
abbrev pub IsLast : Session → ℕ → Option Hit → Type 0
IsLast s least None = HasNone s least
IsLast s least (Some h) = (last_below s s.count ≡ Some h) × (least ≤ h.count) × (h.count < s.count)
