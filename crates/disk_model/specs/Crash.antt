-- What a crash leaves on a disk.
use Rattle.std.specs.Prelude.{◌≡◌, ℕ, ◌+◌, ◌<◌, ◌≤◌, ◌⊎◌, List, [], ◌∷◌, ◌++◌, length, slice_index}
use Rattle.disk_model.specs.declared.change.Piece.{Piece}
use Rattle.disk_model.specs.Storage.{Device}

-- the place lies in the range of one of these pieces
abbrev pub InRange : List Piece → ℕ → Type 0
InRange [] i = ⊥
InRange (p ∷ ps) i = ((p.at ≤ i) × (i < p.at + length p.bytes)) ⊎ InRange ps i

-- the new disk has the old one's size, and the same bytes outside the ranges of these pieces
pub record IsSameBut (ps : List Piece) (old new : List ℕ) : Type 0 where
  pub size : length new ≡ length old
  pub same : (i : ℕ) → (InRange ps i → ⊥) → slice_index new i ≡ slice_index old i

-- a crash may leave this disk: any bytes where a write is in flight or has failed, elsewhere the completed ones
abbrev pub IsCrashOf : Device → List ℕ → Type 0
IsCrashOf v disk = IsSameBut (v.in_flight ++ v.failed) v.disk disk
