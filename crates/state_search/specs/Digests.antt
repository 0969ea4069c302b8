-- What a key is made from.
use Rattle.std.specs.Prelude.{ℕ, ◌++◌, nat_lt, if◌then◌else◌, List, [], ◌∷◌, length, take, drop, Option, Some, None}
use Rattle.std.specs.Int.{w64, to_be_bytes}
use Rattle.byteorder.specs.Endian.{big_number}
use Rattle.sha2.specs.Hashers.{Holds256}
use Rattle.sha2.specs.Sha256.{sha256}
use Rattle.state_search.specs.declared.key.Key.{Key}
use Rattle.state_search.specs.declared.state_digest.StateDigest.{StateDigest}

-- a number in 8 bytes, the highest first
abbrev pub word_bytes : ℕ → List ℕ
word_bytes n = to_be_bytes w64 n

-- a number in one byte where it is less than 255, else in 8 after that one: most are small
abbrev pub number_bytes : ℕ → List ℕ
number_bytes n = if nat_lt n 255 then n ∷ [] else 255 ∷ word_bytes n

-- both halves of a key
abbrev pub sum_bytes : Key → List ℕ
sum_bytes k = word_bytes k.high ++ word_bytes k.low

-- bytes, after how many they are
abbrev pub text_bytes : List ℕ → List ℕ
text_bytes bytes = number_bytes (length bytes) ++ bytes

-- a number that may be missing
abbrev pub option_bytes : Option ℕ → List ℕ
option_bytes None = 0 ∷ []
option_bytes (Some n) = 1 ∷ number_bytes n

-- the first 128 bits of the SHA-256 digest of a text
abbrev pub key_in : List ℕ → Key
key_in text = record { high = big_number 8 (take 8 (sha256 text)); low = big_number 8 (take 8 (drop 8 (sha256 text))) }

-- a digest of some text so far is of this text
abbrev pub IsOf : StateDigest → List ℕ → Type 0
IsOf d text = Holds256 d.hasher text

-- a digest was fed these bytes more
abbrev pub Fed : StateDigest → List ℕ → StateDigest → Type 0
Fed d more after = (text : List ℕ) → IsOf d text → IsOf after (text ++ more)
