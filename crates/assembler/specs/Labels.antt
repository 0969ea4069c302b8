-- Where labels stand, by their names.
use Rattle.std.specs.Prelude.{ℕ, Bool, List, map, refl}
use Rattle.std.specs.{Cmp.Lexicographic.slice_cmp, Ordering.nat_cmp, FinMap.FinMap, FinMap.code}
use Rattle.std.specs.Coded.{Coded, code_by, coded×, coded_ℕ, coded_bool, coded_list}
use denote.Ref.{Bor}
use Rattle.assembler.specs.declared.labels.Spot.{Spot}

abbrev pub SpotsByName : Type 0
SpotsByName = FinMap (slice_cmp nat_cmp) Spot

-- by these codes a proof tells values apart
abbrev pub labels_code : Coded SpotsByName
labels_code =
    code (coded_list coded_ℕ)
    (code_by (Bool × ℕ) (coded× coded_bool coded_ℕ) (λ (s : Spot). (s.in_data, s.offset)) (λ p. record { in_data = p.0; offset = p.1 }) (λ _. refl))

-- entries whose names lie in memory, by the names' bytes
abbrev pub spots_by_name : List (Bor (List ℕ) × Spot) → List (List ℕ × Spot)
spots_by_name entries = map (λ (e : Bor (List ℕ) × Spot). (e.0.now, e.1)) entries
