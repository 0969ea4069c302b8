-- Which label is the nearest one before an address.
use Rattle.std.specs.Prelude.{◌≡◌, ℕ, ◌+◌, ◌<◌, ◌≤◌, List, slice_get, Option, Some, None}
use Rattle.debug_info.specs.declared.labels.Label.{Label}

-- Among the first labels, so many, one at a place is the nearest at an address or before it, and the address is so far beyond it.
-- Without a place each of them is above the address.
abbrev pub IsNearest : List Label → ℕ → ℕ → Option (ℕ × ℕ) → Type 0
IsNearest labels address count None = (i : ℕ) (l : Label) → i < count → slice_get labels i ≡ Some l → address < l.at
IsNearest labels address count (Some found) =
    ((l : Label) → slice_get labels found.0 ≡ Some l → l.at + found.1 ≡ address)
    × (found.0 < count)
    × ((i : ℕ) (l : Label) → i < count → slice_get labels i ≡ Some l → l.at ≤ address → found.1 + l.at ≤ address)
