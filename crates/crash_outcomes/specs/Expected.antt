-- The outcomes that are expected.
use Rattle.std.specs.Prelude.{ℕ, Bool, true, List, Option, Some, None, Vec, bytes_eq}
use Rattle.std.specs.List.{list_any}

-- whether an outcome is expected: each one is where no lines are given, and else each that is one of the lines, whose bytes these are
abbrev pub is_expected : {A B : Type 0} → (A → List ℕ) → Option (Vec A B) → List ℕ → Bool
is_expected bytes None outcome = true
is_expected bytes (Some lines) outcome = list_any (λ line. bytes_eq (bytes line) outcome) lines.items
