-- Tapes at their places.
use Rattle.std.specs.Prelude.{ℕ, List, [], ◌∷◌, slice_get, unwrap_or}
use Rattle.kernel_model.specs.State.{TapeState}

-- a tape for each of these places, with the bytes that stand at its number; where none do it is empty
abbrev pub tapes_at : List (List ℕ) → List ℕ → List TapeState
tapes_at tapes [] = []
tapes_at [] (place ∷ places) = record { bytes = []; place = place } ∷ tapes_at [] places
tapes_at (bytes ∷ tapes) (place ∷ places) = record { bytes = bytes; place = place } ∷ tapes_at tapes places

-- the bytes of a tape by its number; none where none are given
abbrev pub bytes_of : List (List ℕ) → ℕ → List ℕ
bytes_of tapes t = unwrap_or (slice_get tapes t) []
