-- Where the lines and tokens of a source lie in it.
use Rattle.std.proofs.Common.{◌≡◌, ℕ, ◌+◌, ◌-◌, ◌<◌, ◌≤◌, Bool, List, [], ◌∷◌, ◌++◌, length, take, drop, refl, sym, ap, subst, ◌∙◌, ⊎_elim, arith, append_assoc, length-append}
use Rattle.std.specs.Prelude.{All, slice_range}
use Rattle.std.proofs.{lemmas.List.append-nil, Math.Seq.take-append_seam, Math.Seq.drop-append_seam}
use Rattle.std.proofs.lemmas.List.Elements.{All-nil, All-cons, All-push}
use Rattle.asm_text.specs.Text.{Place, line_start, IsForm, IsNext, Leads, IsLine, LineStart, source_start, IsNextLine, IsText, IsSlice, HasSlices}
use Rattle.asm_text.specs.{declared.token.TokenKind.TokenKind, declared.token.Token.Token, declared.token.Line.Line}
use Rattle.asm_text.specs.declared.token.TokenKind.TheVariants.{Word, Number, Text, Comma, Colon, Open, Close, Plus, Minus}

-- a form has at least one byte
pub some_text : (w : Bool) (kind : TokenKind) (text : List ℕ) → IsForm w kind text → 0 < length text
some_text w Word [] f = absurd (⊎_elim (λ run. run) (λ e. (let no : ⊥ = cc in no)) f)
some_text w (Number n) [] f = absurd (let value = f.0 in let no : ⊥ = cc in no)
some_text w (Text contents) [] f = absurd (let quoted = f.quoted in let no : ⊥ = cc in no)
some_text w Comma [] f = absurd (let no : ⊥ = cc in no)
some_text w Colon [] f = absurd (let no : ⊥ = cc in no)
some_text w Open [] f = absurd (let no : ⊥ = cc in no)
some_text w Close [] f = absurd (let no : ⊥ = cc in no)
some_text w Plus [] f = absurd (let sign = f.0 in let no : ⊥ = cc in no)
some_text w Minus [] f = absurd (let sign = f.0 in let no : ⊥ = cc in no)
some_text w kind (b ∷ bs) f = omega arith

-- a part of the source, by what stands before it
slice_of : (source prefix text rest : List ℕ) (a b : ℕ) → source ≡ prefix ++ (text ++ rest) → a ≡ length prefix → b ≡ a + length text → slice_range source a b ≡ text
slice_of source prefix text rest a b parted a_is b_is =
    let count : b - a ≡ length text = omega arith in
    ap (λ (l : List ℕ). take (b - a) (drop a l)) parted
    ∙ ap (λ (n : ℕ). take (b - a) (drop n (prefix ++ (text ++ rest)))) a_is
    ∙ ap (take (b - a)) (drop-append_seam prefix (text ++ rest))
    ∙ ap (λ (n : ℕ). take n (text ++ rest)) count
    ∙ take-append_seam text rest

-- the bytes of a place, after this prefix of the source, with these after the line's end
record IsIn (source : List ℕ) (at : ℕ) (bytes after : List ℕ) : Type 0 where
  prefix : List ℕ
  parted : source ≡ prefix ++ (bytes ++ after)
  place : at ≡ length prefix

-- further on by some bytes
in_further : (source : List ℕ) (at : ℕ) (bytes after text rest : List ℕ) (next : ℕ) → IsIn source at bytes after → bytes ≡ text ++ rest → next ≡ at + length text → IsIn source next rest after
in_further source at bytes after text rest next i parted next_is = record {
  prefix = i.prefix ++ text;
  parted = i.parted ∙ ap (λ (l : List ℕ). i.prefix ++ l) (ap (λ (l : List ℕ). l ++ after) parted ∙ append_assoc text rest after) ∙ sym (append_assoc i.prefix text (rest ++ after));
  place = omega (arith, next_is, i.place, length-append i.prefix text);
}

tokens_in : (source : List ℕ) (l : Line) (ts : List Token) (p q : Place) (after : List ℕ) → Leads IsNext p ts q → IsIn source p.at p.bytes after → l.start ≤ p.at → l.end ≡ p.at + length p.bytes → All (IsSlice source l) ts
tokens_in source l [] p q after way i start end = All-nil (IsSlice source l)
tokens_in source l (t ∷ ts) p q after way i start end =
    let m = way.0 in
    let blanks = way.1.blanks in
    let token = way.1.token in
    let between = way.1.between in
    let here = in_further source p.at p.bytes after blanks.blanks between.bytes between.at i blanks.parted blanks.place in
    let there = in_further source between.at between.bytes after token.text m.bytes m.at here token.parted (token.place ∙ token.last) in
    let before : length p.bytes ≡ length blanks.blanks + length between.bytes = ap length blanks.parted ∙ length-append blanks.blanks between.bytes in
    let lengths : length between.bytes ≡ length token.text + length m.bytes = ap length token.parted ∙ length-append token.text m.bytes in
    let first : t.start ≡ between.at = token.first in
    let last : t.end ≡ between.at + length token.text = token.last in
    let at : between.at ≡ p.at + length blanks.blanks = blanks.place in
    let next : m.at ≡ t.end = token.place in
    let some : 0 < length token.text = some_text between.after_word t.kind token.text token.form.0 in
    let parted : source ≡ here.prefix ++ (token.text ++ (m.bytes ++ after)) = here.parted ∙ ap (λ (b : List ℕ). here.prefix ++ b) (ap (λ (b : List ℕ). b ++ after) token.parted ∙ append_assoc token.text m.bytes after) in
    let same = slice_of source here.prefix token.text (m.bytes ++ after) t.start t.end parted (first ∙ here.place) (omega arith) in
    All-cons (IsSlice source l) t ts
    (record {
      after_start = omega arith;
      some = omega arith;
      before_end = omega arith;
      after_word = between.after_word;
      form = subst (IsForm between.after_word t.kind) (sym same) token.form.0;
    })
    (tokens_in source l ts m q after way.2 there (omega arith) (omega arith))

line_in : (source : List ℕ) (n at : ℕ) (bytes after : List ℕ) (l : Line) → IsLine n at bytes l → IsIn source at bytes after → HasSlices source l
line_in source n at bytes after l line i =
    let start : l.start ≡ at = line.start in
    let end : l.end ≡ at + length bytes = line.end in
    record {
      ordered = omega arith;
      within = omega (arith, i.place, ap length i.parted, length-append i.prefix (bytes ++ after), length-append bytes after);
      tokens = tokens_in source l l.tokens (line_start at bytes) line.after after line.tokens i (omega arith) end;
    }

lines_in : (source : List ℕ) (ls : List Line) (p q : LineStart) → Leads IsNextLine p ls q → IsIn source p.from p.bytes [] → All (HasSlices source) ls × IsIn source q.from q.bytes []
lines_in source [] p q way i = (All-nil (HasSlices source), subst (λ (r : LineStart). IsIn source r.from r.bytes []) way i)
lines_in source (l ∷ ls) p q way i =
    let m = way.0 in
    let step = way.1 in
    let whole : source ≡ i.prefix ++ (step.text ++ (10 ∷ (m.bytes ++ []))) = i.parted ∙ ap (λ (b : List ℕ). i.prefix ++ b) (ap (λ (b : List ℕ). b ++ []) step.parted ∙ append_assoc step.text (10 ∷ m.bytes) []) in
    let here : IsIn source p.from step.text (10 ∷ (m.bytes ++ [])) = record { prefix = i.prefix; parted = whole; place = i.place } in
    let regrouped : p.bytes ≡ (step.text ++ 10 ∷ []) ++ m.bytes = step.parted ∙ sym (append_assoc step.text (10 ∷ []) m.bytes) in
    let there = in_further source p.from p.bytes [] (step.text ++ 10 ∷ []) m.bytes m.from i regrouped (step.place ∙ (let e : p.from + length step.text + 1 ≡ p.from + length (step.text ++ 10 ∷ []) = omega (arith, length-append step.text (10 ∷ [])) in e)) in
    let rest = lines_in source ls m q way.2 there in
    (All-cons (HasSlices source) l ls (line_in source p.count p.from step.text (10 ∷ (m.bytes ++ [])) l step.line here) rest.0, rest.1)

-- the lines of a source lie in it
pub text_in : (source : List ℕ) (ls : List Line) → IsText source ls → All (HasSlices source) ls
text_in source ls t =
    let begins : IsIn source 0 source [] = record { prefix = []; parted = sym (append-nil source); place = refl } in
    let ended = lines_in source t.ended (source_start source) t.start t.leads begins in
    let last = line_in source t.start.count t.start.from t.start.bytes [] t.last t.line ended.1 in
    subst (All (HasSlices source)) (sym t.parted) (All-push (HasSlices source) t.ended t.last ended.0 last)
