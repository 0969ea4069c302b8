-- Where a lane turns, and where it ends.
use Rattle.std.specs.Prelude.{ℕ, ◌+◌, nat_le, if◌then◌else◌}
use Rattle.pictures.specs.Rows.{row_top, rows_end, below}
use Rattle.pictures.specs.declared.picture.Fate.{Fate}
use Rattle.pictures.specs.declared.picture.Fate.TheVariants.{Open, Kept, CutOff}
use Rattle.pictures.specs.declared.window.Window.{Window}

-- where a lane begins whose row is drawn at this place
abbrev pub lane_start : ℕ → ℕ
lane_start place = row_top place + 10

-- where what begins in one row changes in another: at once in its own, else 20 pixels below the top of the other
abbrev pub changes_at : Window → ℕ → ℕ → ℕ → ℕ
changes_at w place row other = if nat_le other row then lane_start place else below w other 20

-- up to where it is held back
abbrev pub lane_turn : Window → ℕ → ℕ → Fate → ℕ
lane_turn w place row Open = rows_end w
lane_turn w place row (Kept other) = changes_at w place row other
lane_turn w place row (CutOff other) = changes_at w place row other

-- up to where it is drawn at all
abbrev pub lane_end : Window → ℕ → ℕ → Fate → ℕ
lane_end w place row Open = rows_end w
lane_end w place row (Kept other) = rows_end w
lane_end w place row (CutOff other) = changes_at w place row other
