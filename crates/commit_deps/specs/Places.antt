-- Where the marks stand.
use Rattle.std.specs.Prelude.{◌≡◌, ℕ, suc, slice_get, if◌then◌else◌, List, [], ◌∷◌, Option, Some, None}
use Rattle.std.specs.Option.{option_map}
use Rattle.std.specs.Map.{lookup}
use Rattle.kernel_model.specs.declared.carrier.Carrier.{Carrier}
use Rattle.kernel_model.specs.Entries.{is_same}
use Rattle.commit_deps.specs.Kept.{Marked}

-- the place of a carrier's mark, if some event wrote it
abbrev pub place_at : Carrier → List Marked → Option ℕ
place_at x [] = None
place_at x (k ∷ ks) = if is_same k.0 x then Some 0 else option_map (λ n. suc n) (place_at x ks)

-- the entries of an index say of each carrier where its mark stands
abbrev pub SaysPlaces : List (Carrier × ℕ) → List Marked → Type 0
SaysPlaces index marks = (x : Carrier) → lookup (is_same x) index ≡ place_at x marks

-- no carrier has two marks
abbrev pub AreDistinct : List Marked → Type 0
AreDistinct marks = (place : ℕ) (k : Marked) → slice_get marks place ≡ Some k → place_at k.0 marks ≡ Some place
