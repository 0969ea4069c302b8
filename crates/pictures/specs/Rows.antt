-- Where rows stand, and which are events.
use Rattle.std.specs.Prelude.{ℕ, ◌+◌, ◌-◌, ◌*◌, ◌&&◌, Bool, true, false, nat_le, nat_lt, if◌then◌else◌}
use Rattle.pictures.specs.declared.picture.Deed.{Deed}
use Rattle.pictures.specs.declared.picture.Deed.TheVariants.{Disk, Turn, Call, Note}
use Rattle.pictures.specs.declared.picture.Row.{Row}
use Rattle.pictures.specs.declared.window.Window.{Window}

-- where the drawn row at a place begins, in pixels from the top
abbrev pub row_top : ℕ → ℕ
row_top place = 92 + 34 * place

-- where the rows end
abbrev pub rows_end : Window → ℕ
rows_end w = row_top w.count

-- so many pixels below the top of a row, and where the rows end for one that is not drawn
abbrev pub below : Window → ℕ → ℕ → ℕ
below w row pixels = if nat_le w.first row && nat_lt row (w.first + w.count) then row_top (row - w.first) + pixels else rows_end w

abbrev pub is_event_deed : Deed → Bool
is_event_deed Disk = true
is_event_deed (Turn _) = true
is_event_deed (Call _ _ _) = true
is_event_deed (Note _) = false

abbrev pub is_event : Row → Bool
is_event row = is_event_deed row.deed
