-- What recovery reads of a disk: the first byte, which selects a half, and the bytes of the half from its first gate to the first one that is
-- not open.
use Rattle.std.specs.Prelude.{◌≡◌, ℕ, ◌<◌, ◌≤◌, List, length, slice_index}
use Rattle.disk_model.specs.Held.{selected_half, start_of}

-- another disk is the same there; but the gate at which recovery ends may have another byte, by which it is not open either
pub record AreReadAlike (disk other : List ℕ) (gate : ℕ) : Type 0 where
  pub size : length other ≡ length disk
  pub selected : slice_index other 0 ≡ slice_index disk 0
  pub records : (place : ℕ) → start_of (selected_half (slice_index disk 0)) ≤ place → place < gate → slice_index other place ≡ slice_index disk place
  pub closed : slice_index other gate ≡ 1 → ⊥

-- recovery, which ends at a gate, does not read this place
abbrev pub IsPassedOver : List ℕ → ℕ → ℕ → Type 0
IsPassedOver disk gate place = (0 < place) × (start_of (selected_half (slice_index disk 0)) ≤ place → gate < place)
