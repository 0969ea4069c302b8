-- Where a write may go, and what a crash leaves for a fill.
use Rattle.std.specs.Prelude.{◌≡◌, ℕ, ◌+◌, ◌≤◌, ◌%◌, ◌&&◌, ◌||◌, nat_lt, nat_le, Bool, true, if◌then◌else◌, List, [], ◌∷◌, ◌++◌, length, slice_index}
use Rattle.std.specs.List.{list_any, list_all}
use Rattle.disk_model.specs.declared.change.Piece.{Piece}
use Rattle.disk_model.specs.Storage.{Device, is_empty}

-- the place lies in the range of one of these pieces
abbrev pub in_range : List Piece → ℕ → Bool
in_range ps i = list_any (λ (p : Piece). nat_le p.at i && nat_lt i (p.at + length p.bytes)) ps

-- the range of n bytes from `at` on meets none of these pieces
abbrev pub is_apart : List Piece → ℕ → ℕ → Bool
is_apart ps at n = list_all (λ (p : Piece). nat_le (at + n) p.at || nat_le (p.at + length p.bytes) at) ps

-- there is room for a write: 1 to 4,096 bytes on the disk, which meet nothing in flight or failed
abbrev pub has_room : Device → ℕ → ℕ → Bool
has_room v at n = nat_le 1 n && nat_le n 4096 && nat_le (at + n) 2097152 && is_apart v.in_flight at n && is_apart v.failed at n

-- there is room for these pieces together: each has 1 to 4,096 bytes on a disk of this size, and no two meet
abbrev pub AreSpaced : ℕ → List Piece → Type 0
AreSpaced size [] = Unit {0}
AreSpaced size (p ∷ ps) = (1 ≤ length p.bytes) × (length p.bytes ≤ 4096) × (p.at + length p.bytes ≤ size) × (is_apart ps p.at (length p.bytes) ≡ true) × AreSpaced size ps

-- the bytes from place i on, where those in the range of a piece come from the fill, the k-th and the next ones, again and again
abbrev pub filled : List Piece → List ℕ → ℕ → ℕ → List ℕ → List ℕ
filled ps fill i k [] = []
filled ps fill i k (b ∷ bytes) =
    if in_range ps i then slice_index fill (k % length fill) ∷ filled ps fill (i + 1) (k + 1) bytes
    else b ∷ filled ps fill (i + 1) k bytes

-- the bytes that a crash leaves for this fill; an empty one leaves the completed bytes
abbrev pub crashed : Device → List ℕ → List ℕ
crashed v fill = if is_empty fill then v.disk else filled (v.in_flight ++ v.failed) fill 0 0 v.disk

-- each piece lies on a disk of this size
abbrev pub LieOn : ℕ → List Piece → Type 0
LieOn size [] = Unit {0}
LieOn size (p ∷ ps) = (p.at + length p.bytes ≤ size) × LieOn size ps
