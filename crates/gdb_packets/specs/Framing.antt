-- How a payload is sent as a packet.
use Rattle.std.specs.Prelude.{ℕ, ◌+◌, ◌%◌, ◌/◌, ◌==◌, ◌||◌, Bool, bit_xor, if◌then◌else◌, List, [], ◌∷◌, ◌++◌, sum}
use Rattle.std.specs.List.{flat_map}
use Rattle.gdb_packets.specs.Digits.{digit}

-- the bytes # $ * }, which do not stand for themselves in a text
abbrev pub is_special : ℕ → Bool
is_special c = (c == 35) || ((c == 36) || ((c == 42) || (c == 125)))

-- what stands for a byte
abbrev pub escape_of : ℕ → List ℕ
escape_of c = if is_special c then 125 ∷ bit_xor c 32 ∷ [] else c ∷ []

-- the text of a payload
abbrev pub escaped : List ℕ → List ℕ
escaped payload = flat_map escape_of payload

-- the two digits of the sum of a text's bytes, modulo 256
abbrev pub first_digit : List ℕ → ℕ
first_digit text = digit (sum text % 256 / 16)

abbrev pub last_digit : List ℕ → ℕ
last_digit text = digit (sum text % 256 % 16)

-- #, and the digits of the sum of a text
abbrev pub ending : List ℕ → List ℕ
ending text = 35 ∷ first_digit text ∷ last_digit text ∷ []

-- $, the text, and its ending
abbrev pub framed : List ℕ → List ℕ
framed payload = 36 ∷ (escaped payload ++ ending (escaped payload))
