-- The footprints of all events, by those that are kept of Enters; and the cone of an event.
use Rattle.std.specs.Prelude.{◌≡◌, ℕ, ◌+◌, ◌-◌, Bool, true, false, if◌then◌else◌, count_by, List, [], ◌∷◌, length, map, get_or, slice_get}
use Rattle.kernel_model.specs.Entries.{Entry}
use Rattle.kernel_model.specs.declared.carrier.Carrier.TheVariants.{Proc}
use Rattle.kernel_model.specs.declared.event.Event.{Event}
use Rattle.kernel_model.specs.declared.event.Event.TheVariants.{Turn, Enter, Cut, Complete, Fail}
use Rattle.kernel_laws.specs.Cones.{cone_numbers}
use Rattle.footprints.specs.Kept.{footprint, no_footprint}

-- the footprint of a log's entry
abbrev pub footprint_of : Entry → Entry
footprint_of e = footprint e.reads e.writes

-- the event is an Enter
abbrev pub is_enter : Event → Bool
is_enter (Turn pid n) = false
is_enter (Enter pid) = true
is_enter Cut = false
is_enter (Complete at) = false
is_enter (Fail at) = false

-- how many Enters an event is
abbrev pub enter_count : Event → ℕ
enter_count e = if is_enter e then 1 else 0

-- how many Enters are among these events
abbrev pub enters_among : List Event → ℕ
enters_among es = count_by is_enter es

-- The footprint of an event. A Turn reads and writes its process. Of an Enter a footprint is kept: what it reads beside its process, and
-- all that it writes.
abbrev pub footprint_by : Event → Entry → Entry
footprint_by (Turn pid n) kept = footprint (Proc pid ∷ []) (Proc pid ∷ [])
footprint_by (Enter pid) kept = footprint (Proc pid ∷ kept.reads) kept.writes
footprint_by Cut kept = no_footprint
footprint_by (Complete at) kept = no_footprint
footprint_by (Fail at) kept = no_footprint

-- the footprints of these events, where k Enters came before them, and these footprints are kept of all Enters
abbrev pub footprints_after : ℕ → List Event → List Entry → List Entry
footprints_after k [] kept = []
footprints_after k (e ∷ es) kept = footprint_by e (get_or kept k no_footprint) ∷ footprints_after (k + enter_count e) es kept

-- What is kept are the footprints of this log of these events: one for each Enter, and with them the footprint of each event is that of
-- its entry.
abbrev pub AreFootprints : List Event → List Entry → List Entry → Type 0
AreFootprints events log kept = (length kept ≡ enters_among events) × (footprints_after 0 events kept ≡ map footprint_of log)

-- these are the numbers of the events in the cone of event n, of whatever log of these events the footprints are
abbrev pub AreTheCone : List Event → List Entry → ℕ → List ℕ → Type 0
AreTheCone events kept n numbers = (log : List Entry) → AreFootprints events log kept → numbers ≡ cone_numbers log n (slice_get log (n - 1))

-- the event is one of the disk
abbrev pub IsOfDisk : Event → Type 0
IsOfDisk (Turn pid n) = ⊥
IsOfDisk (Enter pid) = ⊥
IsOfDisk Cut = Unit {0}
IsOfDisk (Complete at) = Unit {0}
IsOfDisk (Fail at) = Unit {0}
