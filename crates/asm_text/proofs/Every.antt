-- Every source has a reading.
use Rattle.std.proofs.Common.{◌≡◌, ℕ, zero, suc, ◌+◌, ◌-◌, ◌<◌, ◌≤◌, Bool, eqb, ◌&&◌, List, [], ◌∷◌, ◌++◌, length, take, drop, ◌⊎◌, inl, inr, Option, Some, None, refl, ap, arith, length-drop, ⊎_elim}
use Rattle.std.specs.List.{prefix_len}
use Rattle.std.proofs.{lemmas.Bool.cases_eq, lemmas.List.length-take-le, lemmas.List.Sums.prefix_len-le-length}
use Rattle.asm_text.specs.{Letters.is_blank, Letters.goes_on, Text.Place, Text.line_start, Text.is_word, Text.IsLine, Text.IsLineFault, Text.IsText, Text.FirstFault, Scan.token_at}
use Rattle.asm_text.specs.{declared.token.TokenKind.TokenKind, declared.token.Token.Token, declared.token.Line.Line}
use Rattle.asm_text.proofs.{Finding.found, Slices.some_text, Reading.IsRead, Reading.line_read, Reading.line_fault, Reading.read_further}
use Rattle.asm_text.proofs.Sources.{AreRead, first_fault, text_read, lines_further}

-- a line has its tokens, or a first fault
abbrev HasLine : ℕ → ℕ → List ℕ → Type 0
HasLine number from line = ((l : Line) × IsLine number from line l) ⊎ ((column : ℕ) × IsLineFault from line column)

-- a token takes some bytes, and no more than there are
some_len : (w : Bool) (bytes : List ℕ) (kind : TokenKind) (len : ℕ) → token_at w bytes ≡ Some (kind, len) → (0 < len) × (len ≤ length bytes)
some_len w bytes kind len token =
    let f = found w bytes kind len token in
    let some : 0 < length (take len bytes) = some_text w kind (take len bytes) f.token.0 in
    (omega (arith, length-take-le len bytes f.within), f.within)

abbrev blanks_of : Place → ℕ
blanks_of p = prefix_len is_blank p.bytes

abbrev directly_at : Place → Bool
directly_at p = p.after_word && eqb (blanks_of p) 0

-- where a line goes on and no comment begins, a token comes next or nothing does
by_token : (number from : ℕ) (line : List ℕ) (tokens : List Token) (p : Place) → IsRead from line tokens p
    → ((items : List Token) (q : Place) → length q.bytes < length p.bytes → IsRead from line items q → HasLine number from line)
    → (b : ℕ) (rest : List ℕ) → b ∷ rest ≡ drop (blanks_of p) p.bytes → (b ≡ 35 → ⊥) → (f : Option (TokenKind × ℕ)) → token_at (directly_at p) (b ∷ rest) ≡ f → HasLine number from line
by_token number from line tokens p read next b rest here_is on None token =
    inr (p.at + blanks_of p - from + 1, line_fault read (blanks_of p) (directly_at p) (b ∷ rest) refl refl here_is on token)
by_token number from line tokens p read next b rest here_is on (Some (kind, len)) token =
    let size = some_len (directly_at p) (b ∷ rest) kind len token in
    let t : Token = record { kind = kind; start = p.at + blanks_of p; end = p.at + blanks_of p + len } in
    let q : Place = record { at = p.at + blanks_of p + len; bytes = drop len (b ∷ rest); after_word = is_word kind } in
    next (tokens ++ t ∷ []) q
    (omega (arith, size.0, size.1, length-drop len (b ∷ rest), ap length here_is, length-drop (blanks_of p) p.bytes, prefix_len-le-length is_blank p.bytes))
    (read_further read (blanks_of p) (directly_at p) (b ∷ rest) refl refl here_is kind len (is_word kind) (drop len (b ∷ rest)) (tokens ++ t ∷ []) token size.1 refl refl refl)

by_here : (number from : ℕ) (line : List ℕ) (tokens : List Token) (p : Place) → IsRead from line tokens p
    → ((items : List Token) (q : Place) → length q.bytes < length p.bytes → IsRead from line items q → HasLine number from line)
    → (here : List ℕ) → here ≡ drop (blanks_of p) p.bytes → HasLine number from line
by_here number from line tokens p read next [] here_is =
    inl (record { number = number; start = from; end = from + length line; tokens = tokens }, line_read read (blanks_of p) (directly_at p) [] refl refl here_is number tokens refl tt)
by_here number from line tokens p read next (b ∷ rest) here_is =
    ⊎_elim (λ comment. inl (record { number = number; start = from; end = from + length line; tokens = tokens }, line_read read (blanks_of p) (directly_at p) (b ∷ rest) refl refl here_is number tokens refl comment))
    (λ on. by_token number from line tokens p read next b rest here_is on (token_at (directly_at p) (b ∷ rest)) refl)
    (cases_eq b 35)

line_goes : (fuel number from : ℕ) (line : List ℕ) (tokens : List Token) (p : Place) → length p.bytes < fuel → IsRead from line tokens p → HasLine number from line
line_goes zero number from line tokens p few read = absurd (omega arith)
line_goes (suc fuel) number from line tokens p few read =
    by_here number from line tokens p read (λ items q less further. line_goes fuel number from line items q (omega arith) further) (drop (blanks_of p) p.bytes) refl

has_line : (number from : ℕ) (line : List ℕ) → HasLine number from line
has_line number from line =
    line_goes (suc (length line)) number from line [] (line_start from line) (omega arith) (record { leads = refl; onward = omega arith; remains = refl })

-- a source has its lines, or a first fault
abbrev HasText : List ℕ → Type 0
HasText source = ((ls : List Line) × IsText source ls) ⊎ ((line : ℕ) × (column : ℕ) × FirstFault source line column)

by_after : (source : List ℕ) (lines : List Line) (from : ℕ) (rest : List ℕ) → AreRead source lines from rest
    → ((items : List Line) (start : ℕ) (onward : List ℕ) → length onward < length rest → AreRead source items start onward → HasText source)
    → (l : Line) → IsLine (length lines + 1) from (take (prefix_len goes_on rest) rest) l → (after : List ℕ) → after ≡ drop (prefix_len goes_on rest) rest → HasText source
by_after source lines from rest read next l line [] after_is =
    inl (lines ++ l ∷ [], text_read read (prefix_len goes_on rest) (take (prefix_len goes_on rest) rest) [] refl refl after_is l (lines ++ l ∷ []) line refl refl)
by_after source lines from rest read next l line (b ∷ onward) after_is =
    let text : List ℕ = take (prefix_len goes_on rest) rest in
    next (lines ++ l ∷ []) (from + (length text + 1)) onward
    (omega (arith, ap length after_is, length-drop (prefix_len goes_on rest) rest))
    (lines_further read (prefix_len goes_on rest) text (b ∷ onward) refl refl after_is l (lines ++ l ∷ []) b onward (from + (length text + 1)) line refl refl refl)

source_goes : (fuel : ℕ) (source : List ℕ) (lines : List Line) (from : ℕ) (rest : List ℕ) → length rest < fuel → AreRead source lines from rest → HasText source
source_goes zero source lines from rest few read = absurd (omega arith)
source_goes (suc fuel) source lines from rest few read =
    let n : ℕ = prefix_len goes_on rest in
    ⊎_elim (λ is. by_after source lines from rest read (λ items start onward less further. source_goes fuel source items start onward (omega arith) further) is.0 is.1 (drop n rest) refl)
    (λ fault. inr (length lines + 1, fault.0, first_fault read n (take n rest) (drop n rest) refl refl refl (length lines + 1) fault.0 (refl, fault.1)))
    (has_line (length lines + 1) from (take n rest))

pub has_text : (source : List ℕ) → ((ls : List Line) × IsText source ls) ⊎ ((line : ℕ) × (column : ℕ) × FirstFault source line column)
has_text source = source_goes (suc (length source)) source [] 0 source (omega arith) (record { leads = refl; onward = omega arith; remains = omega arith })
