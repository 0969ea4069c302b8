-- Steps that may fail, and tokens as the grammar sees them: their bytes, their kinds, their numbers.
use Rattle.std.specs.Prelude.{Result, Ok, Err, ℕ, ℤ, pos, negsuc, ◌^◌, ◌&&◌, ◌==◌, Bool, true, false, not, nat_lt, nat_le, if◌then◌else◌, List, [], ◌∷◌, Option, Some, None, length, slice_range, ◌≤ℤ◌}
use Rattle.std.specs.Str.{bytes_eq}
use Rattle.asm_text.specs.{Letters.fence_i, Text.is_word, declared.token.Token.Token, declared.token.TokenKind.TokenKind}
use Rattle.asm_statements.specs.Names.{named, registers}

-- the step after another, where that one gave a value
abbrev pub and_then : {A B E : Type 0} → Result A E → (A → Result B E) → Result B E
and_then (Ok x) f = f x
and_then (Err e) f = Err e

-- the bytes of the source from one place up to another; none where it has no such places
abbrev pub text_at : List ℕ → ℕ → ℕ → List ℕ
text_at source start end = if nat_le start end && nat_le end (length source) then slice_range source start end else []

abbrev pub is_mark : TokenKind → TokenKind → Bool
is_mark TokenKind.Comma TokenKind.Comma = true
is_mark TokenKind.Colon TokenKind.Colon = true
is_mark TokenKind.Open TokenKind.Open = true
is_mark TokenKind.Close TokenKind.Close = true
is_mark TokenKind.Plus TokenKind.Plus = true
is_mark TokenKind.Minus TokenKind.Minus = true
is_mark _ _ = false

-- a number from -2^31 to 2^32 - 1
abbrev pub literal_of : ℤ → Option ℤ
literal_of (pos n) = if nat_lt n (2 ^ 32) then Some (pos n) else None
literal_of (negsuc n) = if nat_lt n (2 ^ 31) then Some (negsuc n) else None

abbrev pub number_of : TokenKind → Option ℤ
number_of (TokenKind.Number n) = literal_of n
number_of _ = None

abbrev pub is_string : TokenKind → Bool
is_string (TokenKind.Text bytes) = true
is_string _ = false

-- a name that is no directive's, since it does not begin with `.`, and not `fence.i`, which only a mnemonic is
abbrev pub is_name : List ℕ → Bool
is_name [] = false
is_name (b ∷ bs) = not (b == 46) && not (bytes_eq fence_i (b ∷ bs))

abbrev pub is_label : List ℕ → Token → Bool
is_label source t = is_word t.kind && is_name (text_at source t.start t.end)

abbrev pub register_at : List ℕ → Token → Option ℕ
register_at source t = if is_word t.kind then named registers (text_at source t.start t.end) else None

-- from -2^31 to 2^32 - 1
abbrev pub IsLiteral : ℤ → Type 0
IsLiteral z = (negsuc 2147483647 ≤ℤ z) × (z ≤ℤ pos 4294967295)
