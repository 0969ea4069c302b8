-- What begins a list of bytes, computed from the left. Nothing public speaks of it: the lemmas join it to the forms.
use Rattle.std.specs.Prelude.{ℕ, suc, ◌+◌, ◌&&◌, ◌||◌, ◌==◌, ◌^◌, Bool, true, false, not, nat_eq, nat_lt, nat_le, if◌then◌else◌, List, [], ◌∷◌, ◌++◌, Option, Some, None, length, take, drop}
use Rattle.std.specs.{Char.is_ascii_digit, List.prefix_len, List.starts_with, Option.option_map, Option.option_and_then}
use Rattle.asm_text.specs.{Letters.is_name_byte, Letters.begins_word, Letters.fence_i, Letters.number_value, declared.token.TokenKind.TokenKind}

-- a number below 2^32
abbrev pub bounded : Option ℕ → Option ℕ
bounded None = None
bounded (Some m) = if nat_lt m (2 ^ 32) then Some m else None

abbrev pub escaped : ℕ → Option ℕ
escaped b =
    if b == 110 then Some 10
    else (if b == 116 then Some 9
    else (if b == 48 then Some 0
    else (if b == 92 then Some 92
    else (if b == 34 then Some 34
    else None))))

-- contents after others, and one byte more that they take
abbrev pub one_more : List ℕ → Option (List ℕ × ℕ) → Option (List ℕ × ℕ)
one_more prefix None = None
one_more prefix (Some found) = Some (prefix ++ found.0, 1 + found.1)

-- the contents up to the closing quote, and how many bytes they and the quote take; `escaping`: after a backslash
abbrev pub contents_from : Bool → List ℕ → Option (List ℕ × ℕ)
contents_from escaping [] = None
contents_from true (b ∷ bs) = option_and_then (λ c. one_more (c ∷ []) (contents_from false bs)) (escaped b)
contents_from false (b ∷ bs) =
    if b == 34 then Some ([], 1)
    else (if b == 92 then one_more [] (contents_from true bs)
    else (if nat_le 32 b && nat_le b 126 then one_more (b ∷ []) (contents_from false bs)
    else None))

-- how many bytes a run takes that comes first, its first byte whatever it is
abbrev pub run_len : List ℕ → ℕ
run_len [] = 0
run_len (b ∷ bs) = suc (prefix_len is_name_byte bs)

-- `fence.i` comes first, and after its seven bytes no letter, digit or `_`
abbrev pub begins_fence_i : List ℕ → Bool
begins_fence_i bytes = starts_with nat_eq bytes fence_i && (prefix_len is_name_byte (drop 7 bytes) == 0)

abbrev pub word_len : List ℕ → ℕ
word_len bytes = if begins_fence_i bytes then 7 else run_len bytes

abbrev pub word_of : ℕ → Option (TokenKind × ℕ)
word_of len = if nat_le len 64 then Some (TokenKind.Word, len) else None

abbrev pub number_of : List ℕ → Option (TokenKind × ℕ)
number_of text = option_map (λ n. (TokenKind.Number n, length text)) (number_value text)

abbrev pub string_of : Option (List ℕ × ℕ) → Option (TokenKind × ℕ)
string_of found = option_map (λ f. (TokenKind.Text f.0, 1 + f.1)) found

abbrev pub mark_of : Bool → ℕ → Option TokenKind
mark_of after_word b =
    if b == 44 then Some TokenKind.Comma
    else (if b == 58 then Some TokenKind.Colon
    else (if b == 40 then Some TokenKind.Open
    else (if b == 41 then Some TokenKind.Close
    else (if after_word && (b == 43) then Some TokenKind.Plus
    else (if after_word && (b == 45) then Some TokenKind.Minus
    else None)))))

-- the kind of the token that comes first, and how many bytes it takes
abbrev pub token_at : Bool → List ℕ → Option (TokenKind × ℕ)
token_at after_word [] = None
token_at after_word (b ∷ bs) =
    if begins_word b then word_of (word_len (b ∷ bs))
    else (if is_ascii_digit b || ((b == 45) && not after_word) then number_of (take (run_len (b ∷ bs)) (b ∷ bs))
    else (if b == 34 then string_of (contents_from false bs)
    else option_map (λ kind. (kind, 1)) (mark_of after_word b)))
