-- The board's rule.
use Rattle.std.specs.Prelude.{◌≡◌, ℕ, ◌+◌, ◌≤◌, true, false, List, slice_index}
use mathlib.Core.Option.{some}
use lib.ListN.{get_elem?}
use Rattle.board.specs.declared.board.View.{View}

-- the pair that a pass shows
abbrev pub pair_of : View → ℕ × ℕ
pair_of v = (v.committed, v.changes)

-- the pass that publishes, where this pair was published last
abbrev pub publisher : ℕ → ℕ → View
publisher committed changes = record { publishes = true; loads = 0; committed = committed; changes = changes }

-- a pass that has loaded nothing
abbrev pub newcomer : View
newcomer = record { publishes = false; loads = 0; committed = 0; changes = 0 }

-- pass number `by` shows no more than the cell holds; if it publishes, it is the one of this seat, and shows what the cell holds
abbrev pub Fits : ℕ → ℕ → ℕ → ℕ → View → Type 0
Fits seat committed changes by v =
    (v.publishes ≡ true → (by ≡ seat) × (v.committed ≡ committed) × (v.changes ≡ changes))
    × (v.committed ≤ committed) × (v.changes ≤ changes)

-- the rule, over what the cell holds and what all passes show: one pass at most publishes, and each fits
abbrev pub Follows : List ℕ → List View → Type 0
Follows words views = (seat : ℕ) × ((by : ℕ) (v : View) → get_elem? views by ≡ some v → Fits seat (slice_index words 0) (slice_index words 1) by v)

-- after a load the pass shows one load more, and the pair that was there; neither number is below the one it showed
abbrev pub Loaded : View → List ℕ → List ℕ → View → Type 0
Loaded v before after w =
    (w ≡ record { publishes = v.publishes; loads = v.loads + 1; committed = slice_index before 0; changes = slice_index before 1 })
    × (v.committed ≤ slice_index before 0) × (v.changes ≤ slice_index before 1)

-- after a store the publishing pass shows the pair stored
abbrev pub Published : View → List ℕ → List ℕ → View → Type 0
Published v before after w = w ≡ record { publishes = v.publishes; loads = v.loads; committed = slice_index after 0; changes = slice_index after 1 }
