-- Lists of bytes.
use Rattle.std.specs.Prelude.{ℕ, zero, suc, ◌+◌, ◌*◌, ◌^◌, List, [], ◌∷◌, slice_index, slice_set}

-- the number that n bytes from a place on spell, little-endian
abbrev pub value_in : List ℕ → ℕ → ℕ → ℕ
value_in bytes at zero = 0
value_in bytes at (suc n) = slice_index bytes at + 2 ^ 8 * value_in bytes (at + 1) n

-- others in place of those from a place on
abbrev pub put_in : List ℕ → ℕ → List ℕ → List ℕ
put_in bytes at [] = bytes
put_in bytes at (b ∷ bs) = put_in (slice_set bytes at b) (at + 1) bs
