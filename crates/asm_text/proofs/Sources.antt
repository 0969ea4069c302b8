-- A source, line by line.
use Rattle.std.proofs.Common.{◌≡◌, ℕ, ◌+◌, ◌-◌, ◌<◌, ◌≤◌, Bool, true, false, not, eqb, List, [], ◌∷◌, ◌++◌, length, take, drop, get_or, refl, sym, ap, subst, ◌∙◌, arith, length-append}
use Rattle.std.specs.List.{prefix_len, AllPass}
use Rattle.std.proofs.{lemmas.Bool.eqb-true, lemmas.List.take-append-drop, lemmas.List.append-nil, lemmas.List.length-drop, Math.Seq.take-length}
use Rattle.asm_text.specs.{Letters.goes_on, Letters.IsRunEnd, Faults.StandsBy, declared.fault.Cause.Cause, declared.token.Line.Line}
use Rattle.asm_text.specs.Text.{Leads, IsLine, IsLineFault, LineStart, source_start, IsNextLine, IsText, FirstFault}
use Rattle.asm_text.specs.declared.fault.Cause.TheVariants.{Syntax, OutOfMemory}
use Rattle.asm_text.proofs.{Names.prefix_passes, Names.run_ends, Reading.leads_further}

-- the lines so far lead from the source's start to here
pub record AreRead (source : List ℕ) (lines : List Line) (from : ℕ) (rest : List ℕ) : Type 0 where
  pub leads : Leads IsNextLine (source_start source) lines (record { count = length lines + 1; from = from; bytes = rest })
  pub onward : length lines ≤ from
  pub remains : from + length rest ≡ length source

-- a fault of syntax seen from further out
pub seen_from : (P Q : ℕ → ℕ → Type 0) → ((line column : ℕ) → P line column → Q line column) → (why : Cause) (line column : ℕ) → StandsBy why P line column → StandsBy why Q line column
seen_from P Q further Syntax line column at = further line column at
seen_from P Q further OutOfMemory line column at = at

-- slices of one element fewer, and of none
pub all_but_first : (l : List ℕ) → take (length l - 1) (drop 1 l) ≡ drop 1 l
all_but_first l = ap (λ (n : ℕ). take n (drop 1 l)) (sym (length-drop 1 l)) ∙ take-length (drop 1 l)

pub with_first : (l : List ℕ) → 0 < length l → l ≡ get_or l 0 0 ∷ drop 1 l
with_first [] some = absurd (omega arith)
with_first (b ∷ bs) some = refl

pub is_none : (l : List ℕ) → length l < 1 → l ≡ []
is_none [] few = refl
is_none (b ∷ bs) few = absurd (omega arith)

module _ {source : List ℕ} {lines : List Line} {from : ℕ} {rest : List ℕ} (read : AreRead source lines from rest)
    (n : ℕ) (text after : List ℕ) (n_is : n ≡ prefix_len goes_on rest) (text_is : text ≡ take n rest) (after_is : after ≡ drop n rest) where
  parts : rest ≡ text ++ after
  parts = sym (take-append-drop n rest) ∙ (λ i. sym text_is i ++ sym after_is i)

  one_line : AllPass goes_on text
  one_line = subst (AllPass goes_on) (sym (text_is ∙ ap (λ (m : ℕ). take m rest) n_is)) (prefix_passes goes_on rest)

  line_ends : IsRunEnd goes_on after
  line_ends = subst (IsRunEnd goes_on) (sym (after_is ∙ ap (λ (m : ℕ). drop m rest) n_is)) (run_ends goes_on rest)

  -- a fault of the line is the first of the source
  pub first_fault : (line column : ℕ) → (line ≡ length lines + 1) × IsLineFault from text column → FirstFault source line column
  first_fault line column f = record {
    before = lines;
    start = record { count = length lines + 1; from = from; bytes = rest };
    text = text;
    rest = after;
    leads = read.leads;
    parted = parts;
    one_line = one_line;
    ends = line_ends;
    number = f.0;
    fault = f.1;
  }

  -- the last line ends the text
  pub text_read : (last : Line) (items : List Line) → IsLine (length lines + 1) from text last → items ≡ lines ++ last ∷ [] → after ≡ [] → IsText source items
  text_read last items line items_are ends =
      let all : rest ≡ text = parts ∙ ap (λ (l : List ℕ). text ++ l) ends ∙ append-nil text in
      record {
        ended = lines;
        last = last;
        start = record { count = length lines + 1; from = from; bytes = rest };
        parted = items_are;
        leads = read.leads;
        one_line = subst (AllPass goes_on) (sym all) one_line;
        line = subst (λ (bs : List ℕ). IsLine (length lines + 1) from bs last) (sym all) line;
      }

  -- a line feed ends the line, and the next begins after it
  pub lines_further : (l : Line) (items : List Line) (b : ℕ) (next : List ℕ) (start : ℕ) → IsLine (length lines + 1) from text l → items ≡ lines ++ l ∷ [] → after ≡ b ∷ next → start ≡ from + (length text + 1) → AreRead source items start next
  lines_further l items b next start line items_are goes start_is =
      let feed : b ≡ 10 = line_feed b next (subst (IsRunEnd goes_on) goes line_ends) in
      let p : LineStart = record { count = length lines + 1; from = from; bytes = rest } in
      let count_is : length items ≡ length lines + 1 = ap length items_are ∙ length-append lines (l ∷ []) in
      let q : LineStart = record { count = length items + 1; from = start; bytes = next } in
      let step : IsNextLine p l q = record {
        text = text;
        parted = parts ∙ ap (λ (bs : List ℕ). text ++ bs) (goes ∙ ap (λ (c : ℕ). c ∷ next) feed);
        one_line = one_line;
        line = line;
        number = ap (λ (k : ℕ). k + 1) count_is;
        place = omega (arith, start_is);
      } in
      record {
        leads = subst (λ (ls : List Line). Leads IsNextLine (source_start source) ls q) (sym items_are) (leads_further IsNextLine (source_start source) lines p l q read.leads step);
        onward = omega (arith, read.onward, count_is, start_is);
        remains = omega (arith, read.remains, start_is, ap length parts, length-append text after, ap length goes);
      }
    where
      line_feed : (b : ℕ) (next : List ℕ) → not (eqb b 10) ≡ false → b ≡ 10
      line_feed b next e = eqb-true b 10 (not_false (eqb b 10) e)
        where
          not_false : (t : Bool) → not t ≡ false → t ≡ true
          not_false true e = refl
          not_false false e = cc
