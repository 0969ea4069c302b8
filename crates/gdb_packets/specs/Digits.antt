-- Bytes as hexadecimal digits.
use Rattle.std.specs.Prelude.{ℕ, ◌+◌, ◌/◌, ◌%◌, nat_lt, if◌then◌else◌, List, [], ◌∷◌}
use Rattle.std.specs.List.{flat_map}

-- the digit of a number below 16, 0 to 9 or a to f
abbrev pub digit : ℕ → ℕ
digit n = if nat_lt n 10 then 48 + n else 87 + n

-- the two digits of a byte
abbrev pub digits_of : ℕ → List ℕ
digits_of byte = digit (byte / 16) ∷ digit (byte % 16) ∷ []

-- the digits of bytes
abbrev pub hex_of : List ℕ → List ℕ
hex_of bytes = flat_map digits_of bytes
