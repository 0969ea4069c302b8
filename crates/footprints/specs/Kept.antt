-- How the footprints of Enters are kept: all carriers in one list, of each footprint where its own begin and end there, and of each Enter
-- which footprint is its own.
use Rattle.std.specs.Prelude.{◌≡◌, ℕ, ◌-◌, ◌^◌, ◌<◌, ◌≤◌, List, [], length, map, get_or, drop, take, None}
use Rattle.std.specs.List.{AllByRecursion}
use Rattle.kernel_model.specs.Entries.{Entry}
use Rattle.kernel_model.specs.declared.carrier.Carrier.{Carrier}
use Rattle.kernel_laws.specs.Cones.{IsBeginningOf}
use Rattle.footprints.specs.declared.footprints.Ends.{Ends}

-- a footprint: an entry of which the carriers alone are known
abbrev pub footprint : List Carrier → List Carrier → Entry
footprint reads writes = record { process = 0; reads = reads; writes = writes; change = None; output = None; item = None; child = None }

-- the footprint of an event of the disk
abbrev pub no_footprint : Entry
no_footprint = footprint [] []

-- the carriers from one place up to another
abbrev pub part : ℕ → ℕ → List Carrier → List Carrier
part from to cs = take (to - from) (drop from cs)

-- the footprint with these ends
abbrev pub footprint_in : List Carrier → Ends → Entry
footprint_in cs e = footprint (part e.from e.reads cs) (part e.reads e.writes cs)

-- the ends where none are
abbrev pub no_ends : Ends
no_ends = record { from = 0; reads = 0; writes = 0 }

-- the footprints with these ends
abbrev pub footprints_in : List Carrier → List Ends → List Entry
footprints_in cs es = map (footprint_in cs) es

-- the footprints of these names
abbrev pub footprints_named : List Entry → List ℕ → List Entry
footprints_named xs names = map (λ name. get_or xs name no_footprint) names

-- the ends come in order, and within so many carriers
pub record IsWithin (many : ℕ) (e : Ends) : Type 0 where
  pub starts : e.from ≤ e.reads
  pub reads : e.reads ≤ e.writes
  pub writes : e.writes ≤ many

-- so do all of these
abbrev pub AreWithin : ℕ → List Ends → Type 0
AreWithin many es = AllByRecursion (IsWithin many) es

-- These carriers stay, with more after them or none. There this footprint has these ends.
pub record IsPlaced (before after : List Carrier) (e : Ends) (noted : Entry) : Type 0 where
  pub stay : IsBeginningOf before after
  pub within : IsWithin (length after) e
  pub is : footprint_in after e ≡ noted

-- The footprints of before stay, with more after them or none. There this footprint has this name.
pub record IsNamed (before after : List Entry) (name : ℕ) (noted : Entry) : Type 0 where
  pub stay : IsBeginningOf before after
  pub there : name < length after
  pub is : get_or after name no_footprint ≡ noted

-- The ends are within so many carriers, each name is the place of one of them, and they are at most 2^32, so that a name is a u32.
pub record AreKept (many : ℕ) (ends : List Ends) (names : List ℕ) : Type 0 where
  pub within : AreWithin many ends
  pub named : AllByRecursion (λ name. name < length ends) names
  pub few : length ends ≤ 2 ^ 32

-- The footprints that are kept, one for each Enter. And the room that there is: for how many more, and for how many carriers more.
pub record Kept : Type 0 where
  pub footprints : List Entry
  pub enter_room : ℕ
  pub carrier_room : ℕ
