-- How much of a change a disk has. Moment u is before change u, and moment u + 1 after it.
use Rattle.std.specs.Prelude.{ℕ, Bool, List, nat_lt, if◌then◌else◌}
use Rattle.std.specs.List.{list_all, list_any}
use Rattle.crash_lists.specs.declared.presence.PartOnDisk.{PartOnDisk}
use Rattle.crash_lists.specs.declared.presence.Presence.{Presence}
use Rattle.crash_lists.specs.declared.presence.Presence.TheVariants.{There, NotThere, InPart}

-- the disk has this part of a change: it has the cell as at a moment after the change
abbrev pub has_part : ℕ → PartOnDisk → Bool
has_part change part = nat_lt change part.moment

-- a change is there where the disk has each part of it, and not there where it has none; else it is there in part
abbrev pub presence_of : ℕ → List PartOnDisk → Presence
presence_of change parts = if list_all (has_part change) parts then There else if list_any (has_part change) parts then InPart else NotThere
