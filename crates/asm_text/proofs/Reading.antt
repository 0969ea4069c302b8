-- A line, token by token.
use Rattle.std.proofs.Common.{◌≡◌, ℕ, ◌+◌, ◌-◌, ◌≤◌, Bool, false, ◌&&◌, eqb, List, [], ◌∷◌, ◌++◌, length, take, drop, Some, None, refl, sym, ap, subst, ◌∙◌, arith}
use Rattle.std.specs.List.{prefix_len, AllPass}
use Rattle.std.proofs.{lemmas.List.take-append-drop, lemmas.List.length-take-le, lemmas.List.length-drop, lemmas.List.Sums.prefix_len-le-length}
use Rattle.asm_text.specs.{Letters.is_blank, Letters.IsRunEnd, Scan.token_at, declared.token.TokenKind.TokenKind, declared.token.Token.Token}
use Rattle.asm_text.specs.Text.{IsLine, IsLineFault, Place, line_start, is_word, IsOverBlanks, IsOverToken, IsNext, Leads, IsEndOrComment, IsNothing}
use Rattle.asm_text.proofs.{Names.prefix_passes, Names.run_ends, Finding.found, Finding.none}

-- one more step
pub leads_further : {P X : Type 0} (Step : P → X → P → Type 0) (p : P) (xs : List X) (q : P) (x : X) (r : P) → Leads Step p xs q → Step q x r → Leads Step p (xs ++ x ∷ []) r
leads_further {P} Step p [] q x r here step = (r, subst (λ (s : P). Step s x r) (sym here) step, refl)
leads_further Step p (y ∷ ys) q x r way step = (way.0, way.1, leads_further Step way.0 ys q x r way.2 step)

-- a place this many blanks further on
abbrev pub past_blanks : Place → ℕ → Bool → Place
past_blanks p n directly = record { at = p.at + n; bytes = drop n p.bytes; after_word = directly }

pub over_blanks : (p : Place) (n : ℕ) (directly : Bool) → n ≡ prefix_len is_blank p.bytes → directly ≡ (p.after_word && eqb n 0) → IsOverBlanks p (past_blanks p n directly)
over_blanks p n directly n_is directly_is =
    let within : n ≤ length p.bytes = omega (arith, prefix_len-le-length is_blank p.bytes) in
    let len = length-take-le n p.bytes within in
    record {
      blanks = take n p.bytes;
      parted = sym (take-append-drop n p.bytes);
      blank = subst (λ (m : ℕ). AllPass is_blank (take m p.bytes)) (sym n_is) (prefix_passes is_blank p.bytes);
      place = omega arith;
      directly = directly_is ∙ ap (λ (m : ℕ). p.after_word && eqb m 0) (sym len);
    }

-- the token after the blanks
pub over_token : (p : Place) (kind : TokenKind) (len : ℕ) (word : Bool) → token_at p.after_word p.bytes ≡ Some (kind, len) → word ≡ is_word kind
    → IsOverToken (record { kind = kind; start = p.at; end = p.at + len }) p (record { at = p.at + len; bytes = drop len p.bytes; after_word = word })
over_token p kind len word token word_is =
    let f = found p.after_word p.bytes kind len token in
    record {
      text = take len p.bytes;
      parted = sym (take-append-drop len p.bytes);
      form = f.token;
      first = refl;
      last = ap (λ (m : ℕ). p.at + m) (sym (length-take-le len p.bytes f.within));
      place = refl;
      directly = word_is;
    }

-- after the blanks, no blank stands
no_blank : (bs : List ℕ) (n b : ℕ) (rest : List ℕ) → n ≡ prefix_len is_blank bs → drop n bs ≡ b ∷ rest → is_blank b ≡ false
no_blank bs n b rest n_is prefix = subst (IsRunEnd is_blank) (ap (λ (m : ℕ). drop m bs) (sym n_is) ∙ prefix) (run_ends is_blank bs)

pub no_token : (after_word : Bool) (bs : List ℕ) (n : ℕ) (here : List ℕ) → n ≡ prefix_len is_blank bs → drop n bs ≡ here → (IsEndOrComment here → ⊥) → token_at after_word here ≡ None → IsNothing after_word here
no_token after_word bs n [] n_is here_is on token = on tt
no_token after_word bs n (b ∷ rest) n_is here_is on token = (no_blank bs n b rest n_is here_is, on, none after_word (b ∷ rest) token)

-- the tokens lead from the line's start to this place
pub record IsRead (from : ℕ) (line : List ℕ) (tokens : List Token) (p : Place) : Type 0 where
  pub leads : Leads IsNext (line_start from line) tokens p
  pub onward : from ≤ p.at
  pub remains : p.at + length p.bytes ≡ from + length line

module _ {from : ℕ} {line : List ℕ} {tokens : List Token} {p : Place} (read : IsRead from line tokens p)
    (n : ℕ) (directly : Bool) (here : List ℕ)
    (n_is : n ≡ prefix_len is_blank p.bytes) (directly_is : directly ≡ (p.after_word && eqb n 0)) (here_is : here ≡ drop n p.bytes) where
  over : IsOverBlanks p (record { at = p.at + n; bytes = here; after_word = directly })
  over = subst (λ (bs : List ℕ). IsOverBlanks p (record { at = p.at + n; bytes = bs; after_word = directly })) (sym here_is) (over_blanks p n directly n_is directly_is)

  -- the line ends after the blanks
  pub line_read : (number : ℕ) (items : List Token) → items ≡ tokens → IsEndOrComment here → IsLine number from line (record { number = number; start = from; end = from + length line; tokens = items })
  line_read number items items_are ends = record {
    number = refl;
    start = refl;
    end = refl;
    after = p;
    last = record { at = p.at + n; bytes = here; after_word = directly };
    tokens = subst (λ (ts : List Token). Leads IsNext (line_start from line) ts p) (sym items_are) read.leads;
    blanks = over;
    ends = ends;
  }

  -- nothing stands after the blanks
  pub line_fault : (IsEndOrComment here → ⊥) → token_at directly here ≡ None → IsLineFault from line (p.at + n - from + 1)
  line_fault on token = record {
    before = tokens;
    after = p;
    last = record { at = p.at + n; bytes = here; after_word = directly };
    tokens = read.leads;
    blanks = over;
    nothing = no_token directly p.bytes n here n_is (sym here_is) on token;
    place = omega (arith, read.onward);
  }

  -- a token stands after the blanks
  pub read_further : (kind : TokenKind) (len : ℕ) (word : Bool) (rest : List ℕ) (items : List Token)
      → token_at directly here ≡ Some (kind, len) → len ≤ length here → word ≡ is_word kind → rest ≡ drop len here
      → items ≡ tokens ++ record { kind = kind; start = p.at + n; end = p.at + n + len } ∷ []
      → IsRead from line items (record { at = p.at + n + len; bytes = rest; after_word = word })
  read_further kind len word rest items token fits word_is rest_is items_are =
      let q : Place = record { at = p.at + n; bytes = here; after_word = directly } in
      let t : Token = record { kind = kind; start = p.at + n; end = p.at + n + len } in
      let r : Place = record { at = p.at + n + len; bytes = rest; after_word = word } in
      let next : IsNext p t r = record {
        between = q;
        blanks = over;
        token = subst (λ (bs : List ℕ). IsOverToken t q (record { at = p.at + n + len; bytes = bs; after_word = word })) (sym rest_is) (over_token q kind len word token word_is);
      } in
      let blanks_in : n ≤ length p.bytes = omega (arith, prefix_len-le-length is_blank p.bytes) in
      record {
        leads = subst (λ (ts : List Token). Leads IsNext (line_start from line) ts r) (sym items_are) (leads_further IsNext (line_start from line) tokens p t r read.leads next);
        onward = omega (arith, read.onward);
        remains = omega (arith, read.remains, ap length here_is, ap length rest_is, length-drop n p.bytes, length-drop len here);
      }
