-- The bytes of words, the blanks between tokens, and the values of numbers.
use Rattle.std.specs.Prelude.{◌≡◌, ℕ, ◌≤◌, ◌||◌, ◌==◌, Bool, true, false, not, List, [], ◌∷◌, length, codes, ◌+◌, ◌*◌, ◌^◌, ◌&&◌, nat_lt, nat_le, if◌then◌else◌, Option, Some, None, ℤ, pos, neg_ℤ}
use Rattle.std.specs.{Char.is_ascii_alphabetic, Char.is_ascii_alphanumeric, Char.digit_value, List.AllPass, Option.option_and_then}

-- what a word goes on with: a letter, a digit or `_`
abbrev pub is_name_byte : ℕ → Bool
is_name_byte b = is_ascii_alphanumeric b || (b == 95)

-- what a word begins with: a letter, `_` or `.`
abbrev pub begins_word : ℕ → Bool
begins_word b = is_ascii_alphabetic b || ((b == 95) || (b == 46))

abbrev pub is_blank : ℕ → Bool
is_blank b = (b == 32) || (b == 9)

-- a line goes on with any byte but a line feed
abbrev pub goes_on : ℕ → Bool
goes_on b = not (b == 10)

-- a word that is one run: its first byte, and what it goes on with, at most 64 bytes in all
abbrev pub IsRun : List ℕ → Type 0
IsRun [] = ⊥
IsRun (b ∷ bs) = (begins_word b ≡ true) × AllPass is_name_byte bs × (length (b ∷ bs) ≤ 64)

-- the one word that has a `.` inside
abbrev pub fence_i : List ℕ
fence_i = codes "fence.i"

-- the next byte, if there is one, does not pass the test
abbrev pub IsRunEnd : (ℕ → Bool) → List ℕ → Type 0
IsRunEnd test [] = Unit {0}
IsRunEnd test (b ∷ bs) = test b ≡ false

-- the number that digits to a base make after digits of the value `high`; none where one of them is no digit to it
abbrev pub digits_value : ℕ → ℕ → List ℕ → Option ℕ
digits_value base high [] = Some high
digits_value base high (b ∷ bs) = if nat_lt (digit_value b) base then digits_value base (base * high + digit_value b) bs else None

abbrev pub some_digits : ℕ → List ℕ → Option ℕ
some_digits base [] = None
some_digits base (b ∷ bs) = digits_value base 0 (b ∷ bs)

-- a number with no sign: hexadecimal after `0x`, else decimal
abbrev pub magnitude : List ℕ → Option ℕ
magnitude [] = None
magnitude (a ∷ []) = some_digits 10 (a ∷ [])
magnitude (a ∷ b ∷ bs) = if (a == 48) && (b == 120) then some_digits 16 bs else some_digits 10 (a ∷ b ∷ bs)

-- a number that is at most 2^32 - 1, and one below 0 that is at least -2^31
abbrev pub above_zero : ℕ → Option ℤ
above_zero m = if nat_lt m (2 ^ 32) then Some (pos m) else None

abbrev pub below_zero : ℕ → Option ℤ
below_zero m = if nat_le m (2 ^ 31) then Some (neg_ℤ (pos m)) else None

abbrev pub number_value : List ℕ → Option ℤ
number_value [] = None
number_value (b ∷ bs) = if b == 45 then option_and_then below_zero (magnitude bs) else option_and_then above_zero (magnitude (b ∷ bs))

abbrev pub has_sign : List ℕ → Bool
has_sign [] = false
has_sign (b ∷ bs) = b == 45
