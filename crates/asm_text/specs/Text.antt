-- Tokens one after the other in a line, the lines of a source, its first fault, and where lines and tokens lie in it.
use Rattle.std.specs.Prelude.{◌≡◌, ◌≢◌, ℕ, ◌+◌, ◌&&◌, ◌||◌, ◌==◌, ◌⊎◌, Bool, true, false, nat_le, if◌then◌else◌, List, [], ◌∷◌, ◌++◌, length, Some, ◌<◌, ◌≤◌, slice_range, All}
use Rattle.std.specs.List.{AllPass, flat_map}
use Rattle.asm_text.specs.Letters.{is_name_byte, is_blank, fence_i, IsRun, IsRunEnd, number_value, has_sign, goes_on}
use Rattle.asm_text.specs.{declared.token.TokenKind.TokenKind, declared.token.Token.Token, declared.token.Line.Line}

-- how a byte of a string is written: `\n`, `\t`, `\0`, `\\` and `\"`, and each other byte as itself
abbrev pub spelling : ℕ → List ℕ
spelling b =
    if b == 10 then 92 ∷ 110 ∷ []
    else (if b == 9 then 92 ∷ 116 ∷ []
    else (if b == 0 then 92 ∷ 48 ∷ []
    else (if b == 92 then 92 ∷ 92 ∷ []
    else (if b == 34 then 92 ∷ 34 ∷ []
    else b ∷ []))))

-- the bytes that a string may have: those from 0x20 to 0x7E, and the three that only escapes write
abbrev pub has_spelling : ℕ → Bool
has_spelling b = (nat_le 32 b && nat_le b 126) || ((b == 10) || ((b == 9) || (b == 0)))

-- a string: its bytes as they are written, in quotes
pub record IsString (contents text : List ℕ) : Type 0 where
  pub spelled : AllPass has_spelling contents
  pub quoted : text ≡ 34 ∷ (flat_map spelling contents ++ 34 ∷ [])

-- The form of each kind of token. Directly after a word `+` and `-` are tokens; anywhere else `-` begins a number, and `+` nothing.
abbrev pub IsForm : Bool → TokenKind → List ℕ → Type 0
IsForm after_word TokenKind.Word text = IsRun text ⊎ (text ≡ fence_i)
IsForm after_word (TokenKind.Number n) text = (number_value text ≡ Some n) × ((after_word && has_sign text) ≡ false)
IsForm after_word (TokenKind.Text contents) text = IsString contents text
IsForm after_word TokenKind.Comma text = text ≡ 44 ∷ []
IsForm after_word TokenKind.Colon text = text ≡ 58 ∷ []
IsForm after_word TokenKind.Open text = text ≡ 40 ∷ []
IsForm after_word TokenKind.Close text = text ≡ 41 ∷ []
IsForm after_word TokenKind.Plus text = (text ≡ 43 ∷ []) × (after_word ≡ true)
IsForm after_word TokenKind.Minus text = (text ≡ 45 ∷ []) × (after_word ≡ true)

abbrev pub is_word : TokenKind → Bool
is_word TokenKind.Word = true
is_word _ = false

-- where `fence.i` stands, with no letter, digit or `_` after it, it is the word, and `fence` alone is none
abbrev pub IsNoPart : List ℕ → List ℕ → Type 0
IsNoPart text rest = (after : List ℕ) → text ++ rest ≡ fence_i ++ after → IsRunEnd is_name_byte after → text ≡ fence_i

-- words and numbers are whole: no letter, digit or `_` comes after them, and a word is no part of `fence.i`
abbrev pub IsWhole : TokenKind → List ℕ → List ℕ → Type 0
IsWhole TokenKind.Word text rest = IsRunEnd is_name_byte rest × IsNoPart text rest
IsWhole (TokenKind.Number n) text rest = IsRunEnd is_name_byte rest
IsWhole _ text rest = Unit {0}

-- the form of a token's text, with what comes after it
abbrev pub IsToken : Bool → TokenKind → List ℕ → List ℕ → Type 0
IsToken after_word kind text rest = IsForm after_word kind text × IsWhole kind text rest

-- A place in a line: its byte in the source, the bytes from there to the line's end, and whether a word ends there.
pub record Place : Type 0 where
  pub at : ℕ
  pub bytes : List ℕ
  pub after_word : Bool

abbrev pub line_start : ℕ → List ℕ → Place
line_start from line = record { at = from; bytes = line; after_word = false }

-- from one place over blanks, if any, to another
pub record IsOverBlanks (p q : Place) : Type 0 where
  pub blanks : List ℕ
  pub parted : p.bytes ≡ blanks ++ q.bytes
  pub blank : AllPass is_blank blanks
  pub place : q.at ≡ p.at + length blanks
  pub directly : q.after_word ≡ (p.after_word && (length blanks == 0))

pub record IsOverToken (t : Token) (p q : Place) : Type 0 where
  pub text : List ℕ
  pub parted : p.bytes ≡ text ++ q.bytes
  pub form : IsToken p.after_word t.kind text q.bytes
  pub first : t.start ≡ p.at
  pub last : t.end ≡ p.at + length text
  pub place : q.at ≡ t.end
  pub directly : q.after_word ≡ is_word t.kind

-- from one place over blanks, if any, and over a token after them
pub record IsNext (p : Place) (t : Token) (q : Place) : Type 0 where
  pub between : Place
  pub blanks : IsOverBlanks p between
  pub token : IsOverToken t between q

-- from one place to another over items, step by step
abbrev pub Leads : {P X : Type 0} → (P → X → P → Type 0) → P → List X → P → Type 0
Leads Step p [] q = p ≡ q
Leads {P} Step p (x ∷ xs) q = (m : P) × Step p x m × Leads Step m xs q

-- the line is at its end, or a comment takes the rest of it
abbrev pub IsEndOrComment : List ℕ → Type 0
IsEndOrComment [] = Unit {0}
IsEndOrComment (b ∷ bs) = b ≡ 35

-- no blank, comment or token stands here, and the line goes on
abbrev pub IsNothing : Bool → List ℕ → Type 0
IsNothing after_word [] = ⊥
IsNothing after_word (b ∷ bs) =
    (is_blank b ≡ false) × (b ≢ 35)
    × ((kind : TokenKind) (text rest : List ℕ) → b ∷ bs ≡ text ++ rest → IsToken after_word kind text rest → ⊥)

-- A line: its number and place, and its tokens, with only blanks before and between them, and then blanks and perhaps a comment.
pub record IsLine (count from : ℕ) (bytes : List ℕ) (l : Line) : Type 0 where
  pub number : l.number ≡ count
  pub start : l.start ≡ from
  pub end : l.end ≡ from + length bytes
  pub after : Place
  pub last : Place
  pub tokens : Leads IsNext (line_start from bytes) l.tokens after
  pub blanks : IsOverBlanks after last
  pub ends : IsEndOrComment last.bytes

-- A line's first fault: after tokens and blanks, a place where nothing stands. Columns count its bytes from 1.
pub record IsLineFault (from : ℕ) (bytes : List ℕ) (column : ℕ) : Type 0 where
  pub before : List Token
  pub after : Place
  pub last : Place
  pub tokens : Leads IsNext (line_start from bytes) before after
  pub blanks : IsOverBlanks after last
  pub nothing : IsNothing last.after_word last.bytes
  pub place : from + column ≡ last.at + 1

-- Where a line begins: its number, its first byte in the source, and the bytes from there on.
pub record LineStart : Type 0 where
  pub count : ℕ
  pub from : ℕ
  pub bytes : List ℕ

abbrev pub source_start : List ℕ → LineStart
source_start source = record { count = 1; from = 0; bytes = source }

-- from where a line begins over it and its line feed, to where the next one begins
pub record IsNextLine (p : LineStart) (l : Line) (q : LineStart) : Type 0 where
  pub text : List ℕ
  pub parted : p.bytes ≡ text ++ 10 ∷ q.bytes
  pub one_line : AllPass goes_on text
  pub line : IsLine p.count p.from text l
  pub number : q.count ≡ p.count + 1
  pub place : q.from ≡ p.from + length text + 1

-- The lines of a source: those that line feeds end, and the last, which the end of the source ends.
pub record IsText (source : List ℕ) (ls : List Line) : Type 0 where
  pub ended : List Line
  pub last : Line
  pub start : LineStart
  pub parted : ls ≡ ended ++ last ∷ []
  pub leads : Leads IsNextLine (source_start source) ended start
  pub one_line : AllPass goes_on start.bytes
  pub line : IsLine start.count start.from start.bytes last

-- The first fault of a source: that of a line, after lines that have none.
pub record FirstFault (source : List ℕ) (line column : ℕ) : Type 0 where
  pub before : List Line
  pub start : LineStart
  pub text : List ℕ
  pub rest : List ℕ
  pub leads : Leads IsNextLine (source_start source) before start
  pub parted : start.bytes ≡ text ++ rest
  pub one_line : AllPass goes_on text
  pub ends : IsRunEnd goes_on rest
  pub number : line ≡ start.count
  pub fault : IsLineFault start.from text column

-- a token lies in its line, and the bytes of the source that it takes have the form of its kind
pub record IsSlice (source : List ℕ) (l : Line) (t : Token) : Type 0 where
  pub after_start : l.start ≤ t.start
  pub some : t.start < t.end
  pub before_end : t.end ≤ l.end
  pub after_word : Bool
  pub form : IsForm after_word t.kind (slice_range source t.start t.end)

pub record HasSlices (source : List ℕ) (l : Line) : Type 0 where
  pub ordered : l.start ≤ l.end
  pub within : l.end ≤ length source
  pub tokens : All (IsSlice source l) l.tokens
