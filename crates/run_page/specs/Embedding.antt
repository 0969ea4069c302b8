-- JSON in an element of HTML.
use Rattle.std.specs.Prelude.{ℕ, ◌==◌, ◌||◌, Bool, not, if◌then◌else◌, List, [], ◌∷◌}

-- the six bytes \u00 and two digits, by which a string of JSON has a byte
abbrev pub by_number : ℕ → ℕ → List ℕ
by_number high low = 92 ∷ 117 ∷ 48 ∷ 48 ∷ high ∷ low ∷ []

-- what stands for a byte: & as \u0026, < as \u003c, > as \u003e, and any other byte as it is
abbrev pub embedded_byte : ℕ → List ℕ
embedded_byte b =
    if b == 38 then by_number 50 54
    else (if b == 60 then by_number 51 99
    else (if b == 62 then by_number 51 101
    else b ∷ []))

-- no sign that begins or ends a tag, nor one that begins an entity
abbrev pub is_calm : ℕ → Bool
is_calm b = not ((b == 38) || ((b == 60) || (b == 62)))
