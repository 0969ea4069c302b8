-- A source has one reading.
use Rattle.std.proofs.Common.{◌≡◌, ℕ, ◌+◌, Bool, true, false, eqb, ◌&&◌, List, [], ◌∷◌, ◌++◌, length, take, drop, Some, None, refl, sym, ap, subst, ◌∙◌, arith, ⊎_elim}
use Rattle.std.specs.List.{prefix_len, AllPass}
use Rattle.std.proofs.{Math.Seq.take-append_seam, Math.Seq.drop-append_seam, lemmas.Bool.cases_eq, lemmas.Bool.Decides.nat_tests}
use Rattle.std.proofs.lemmas.List.{append-nil, take-append-drop}
use Rattle.asm_text.specs.{Letters.is_blank, Letters.goes_on, Letters.IsRunEnd, Scan.token_at, declared.token.TokenKind.TokenKind, declared.token.Token.Token}
use Rattle.asm_text.specs.Text.{Place, line_start, is_word, IsOverBlanks, IsNext, Leads, IsEndOrComment, IsNothing, IsLine, IsLineFault, LineStart, source_start, IsNextLine, IsText, FirstFault}
use Rattle.asm_text.specs.declared.token.Line.{Line}
use Rattle.asm_text.proofs.{Names.run_is, Finding.found, Finding.only}

-- where each step has one outcome, there is one way to where no step goes on
same_way : {P X : Type 0} (Step : P → X → P → Type 0) (one : (p : P) (x : X) (q : P) (y : X) (r : P) → Step p x q → Step p y r → (x ≡ y) × (q ≡ r))
    → (p : P) (xs : List X) (q : P) (ys : List X) (r : P) → Leads Step p xs q → ((x : X) (s : P) → Step q x s → ⊥) → Leads Step p ys r → ((x : X) (s : P) → Step r x s → ⊥) → (xs ≡ ys) × (q ≡ r)
same_way Step one p [] q [] r way stops other ends = (refl, sym way ∙ other)
same_way {P} Step one p [] q (y ∷ ys) r way stops other ends = absurd (stops y other.0 (subst (λ (s : P). Step s y other.0) way other.1))
same_way {P} Step one p (x ∷ xs) q [] r way stops other ends = absurd (ends x way.0 (subst (λ (s : P). Step s x way.0) other way.1))
same_way {P} Step one p (x ∷ xs) q (y ∷ ys) r way stops other ends =
    let first = one p x way.0 y other.0 way.1 other.1 in
    let rest = same_way Step one way.0 xs q ys r way.2 stops (subst (λ (s : P). Leads Step s ys r) (sym first.1) other.2) ends in
    ((λ i. first.0 i ∷ rest.0 i), rest.1)

-- the place after the blanks
abbrev past_blanks : Place → Place
past_blanks p = record { at = p.at + prefix_len is_blank p.bytes; bytes = drop (prefix_len is_blank p.bytes) p.bytes; after_word = p.after_word && eqb (prefix_len is_blank p.bytes) 0 }

past_blanks_is : (p q : Place) → IsOverBlanks p q → IsRunEnd is_blank q.bytes → q ≡ past_blanks p
past_blanks_is p q over ends =
    let count : prefix_len is_blank p.bytes ≡ length over.blanks = ap (prefix_len is_blank) over.parted ∙ run_is is_blank over.blanks q.bytes over.blank ends in
    let at : q.at ≡ p.at + prefix_len is_blank p.bytes = over.place ∙ ap (λ (n : ℕ). p.at + n) (sym count) in
    let bytes : q.bytes ≡ drop (prefix_len is_blank p.bytes) p.bytes = sym (drop-append_seam over.blanks q.bytes) ∙ ap (drop (length over.blanks)) (sym over.parted) ∙ ap (λ (n : ℕ). drop n p.bytes) (sym count) in
    let after : q.after_word ≡ (p.after_word && eqb (prefix_len is_blank p.bytes) 0) = over.directly ∙ ap (λ (n : ℕ). p.after_word && eqb n 0) (sym count) in
    λ i. record { at = at i; bytes = bytes i; after_word = after i }

-- no token begins with a blank or `#`
no_token_at_blank : (w : Bool) (b : ℕ) (bs : List ℕ) → is_blank b ≡ true → token_at w (b ∷ bs) ≡ None
no_token_at_blank w b bs blank =
    ⊎_elim (λ e. ap (λ (c : ℕ). token_at w (c ∷ bs)) e ∙ space w)
    (λ no_space. ⊎_elim (λ e. ap (λ (c : ℕ). token_at w (c ∷ bs)) e ∙ tab w)
    (λ no_tab. absurd (let no : ⊥ = grind (arith, nat_tests) in no))
    (cases_eq b 9))
    (cases_eq b 32)
  where
    space : (w : Bool) → token_at w (32 ∷ bs) ≡ None
    space true = refl
    space false = refl

    tab : (w : Bool) → token_at w (9 ∷ bs) ≡ None
    tab true = refl
    tab false = refl

no_token_at_end : (w : Bool) (bytes : List ℕ) → IsEndOrComment bytes → token_at w bytes ≡ None
no_token_at_end w [] ends = refl
no_token_at_end w (b ∷ bs) ends = ap (λ (c : ℕ). token_at w (c ∷ bs)) ends ∙ comment w
  where
    comment : (w : Bool) → token_at w (35 ∷ bs) ≡ None
    comment true = refl
    comment false = refl

run_end_at_token : (w : Bool) (bytes : List ℕ) (kind : TokenKind) (len : ℕ) → token_at w bytes ≡ Some (kind, len) → IsRunEnd is_blank bytes
run_end_at_token w [] kind len token = tt
run_end_at_token w (b ∷ bs) kind len token = by_test (is_blank b) refl
  where
    by_test : (t : Bool) → is_blank b ≡ t → is_blank b ≡ false
    by_test false e = e
    by_test true e = absurd (let none = no_token_at_blank w b bs e in let no : ⊥ = cc in no)

run_end_at_end : (bytes : List ℕ) → IsEndOrComment bytes → IsRunEnd is_blank bytes
run_end_at_end [] ends = tt
run_end_at_end (b ∷ bs) ends = ap is_blank ends

run_end_at_nothing : (w : Bool) (bytes : List ℕ) → IsNothing w bytes → IsRunEnd is_blank bytes
run_end_at_nothing w [] nothing = tt
run_end_at_nothing w (b ∷ bs) nothing = nothing.0

no_token_at_nothing : (w : Bool) (bytes : List ℕ) → IsNothing w bytes → (kind : TokenKind) (len : ℕ) → token_at w bytes ≡ Some (kind, len) → ⊥
no_token_at_nothing w [] nothing kind len token = nothing
no_token_at_nothing w (b ∷ bs) nothing kind len token =
    let f = found w (b ∷ bs) kind len token in
    nothing.2 kind (take len (b ∷ bs)) (drop len (b ∷ bs)) (sym (take-append-drop len (b ∷ bs))) f.token

-- the token that comes next, and the place after it
record IsStep (p : Place) (t : Token) (q : Place) : Type 0 where
  len : ℕ
  token : token_at (past_blanks p).after_word (past_blanks p).bytes ≡ Some (t.kind, len)
  is_token : t ≡ record { kind = t.kind; start = (past_blanks p).at; end = (past_blanks p).at + len }
  is_place : q ≡ record { at = (past_blanks p).at + len; bytes = drop len (past_blanks p).bytes; after_word = is_word t.kind }

step_of : (p : Place) (t : Token) (q : Place) → IsNext p t q → IsStep p t q
step_of p t q next =
    let m = next.between in
    let over = next.token in
    let token : token_at m.after_word m.bytes ≡ Some (t.kind, length over.text) = ap (token_at m.after_word) over.parted ∙ only m.after_word t.kind over.text q.bytes over.form in
    let m_is = past_blanks_is p m next.blanks (run_end_at_token m.after_word m.bytes t.kind (length over.text) token) in
    let bytes : q.bytes ≡ drop (length over.text) m.bytes = sym (drop-append_seam over.text q.bytes) ∙ ap (drop (length over.text)) (sym over.parted) in
    subst (λ (s : Place). (token_at s.after_word s.bytes ≡ Some (t.kind, length over.text)) × (t.start ≡ s.at) × (t.end ≡ s.at + length over.text) × (q.bytes ≡ drop (length over.text) s.bytes) → IsStep p t q) (sym m_is)
    (λ h. record {
      len = length over.text;
      token = h.0;
      is_token = λ i. record { kind = t.kind; start = h.1 i; end = h.2 i };
      is_place = λ i. record { at = (over.place ∙ h.2) i; bytes = h.3 i; after_word = over.directly i };
    })
    (token, over.first, over.last, bytes)

one_step : (p : Place) (t : Token) (q : Place) (u : Token) (r : Place) → IsNext p t q → IsNext p u r → (t ≡ u) × (q ≡ r)
one_step p t q u r first other =
    let a = step_of p t q first in
    let b = step_of p u r other in
    let s = past_blanks p in
    let same : ◌≡◌ {A = TokenKind × ℕ} (t.kind, a.len) (u.kind, b.len) = cc (sym a.token ∙ b.token) in (
      a.is_token ∙ ap (λ (k : TokenKind × ℕ). record { kind = k.0; start = s.at; end = s.at + k.1 }) same ∙ sym b.is_token,
      a.is_place ∙ ap (λ (k : TokenKind × ℕ). record { at = s.at + k.1; bytes = drop k.1 s.bytes; after_word = is_word k.0 }) same ∙ sym b.is_place,
    )

-- where no token is found, no step goes on
stops_at : (p : Place) → ((kind : TokenKind) (len : ℕ) → token_at (past_blanks p).after_word (past_blanks p).bytes ≡ Some (kind, len) → ⊥) → (t : Token) (q : Place) → IsNext p t q → ⊥
stops_at p none t q next = let s = step_of p t q next in none t.kind s.len s.token

end_stops : (p last : Place) → IsOverBlanks p last → IsEndOrComment last.bytes → (t : Token) (q : Place) → IsNext p t q → ⊥
end_stops p last over ends =
    let last_is = past_blanks_is p last over (run_end_at_end last.bytes ends) in
    stops_at p (λ kind len token.
    let none : token_at (past_blanks p).after_word (past_blanks p).bytes ≡ None = subst (λ (s : Place). token_at s.after_word s.bytes ≡ None) last_is (no_token_at_end last.after_word last.bytes ends) in
    let no : ⊥ = cc in
    no)

nothing_stops : (p last : Place) → IsOverBlanks p last → IsNothing last.after_word last.bytes → (t : Token) (q : Place) → IsNext p t q → ⊥
nothing_stops p last over nothing =
    let last_is = past_blanks_is p last over (run_end_at_nothing last.after_word last.bytes nothing) in
    stops_at p (subst (λ (s : Place). (kind : TokenKind) (len : ℕ) → token_at s.after_word s.bytes ≡ Some (kind, len) → ⊥) last_is (no_token_at_nothing last.after_word last.bytes nothing))

-- a line has one reading
one_line : (n at : ℕ) (bytes : List ℕ) (l m : Line) → IsLine n at bytes l → IsLine n at bytes m → l ≡ m
one_line n at bytes l m a b =
    let same = same_way IsNext one_step (line_start at bytes) l.tokens a.after m.tokens b.after a.tokens (end_stops a.after a.last a.blanks a.ends) b.tokens (end_stops b.after b.last b.blanks b.ends) in
    λ i. record { number = (a.number ∙ sym b.number) i; start = (a.start ∙ sym b.start) i; end = (a.end ∙ sym b.end) i; tokens = same.0 i }

end_is_something : (w : Bool) (bytes : List ℕ) → IsEndOrComment bytes → IsNothing w bytes → ⊥
end_is_something w [] ends nothing = nothing
end_is_something w (b ∷ bs) ends nothing = nothing.1 ends

line_or_fault : (n at : ℕ) (bytes : List ℕ) (l : Line) (column : ℕ) → IsLine n at bytes l → IsLineFault at bytes column → ⊥
line_or_fault n at bytes l column a f =
    let same = same_way IsNext one_step (line_start at bytes) l.tokens a.after f.before f.after a.tokens (end_stops a.after a.last a.blanks a.ends) f.tokens (nothing_stops f.after f.last f.blanks f.nothing) in
    let last_is = past_blanks_is a.after a.last a.blanks (run_end_at_end a.last.bytes a.ends) ∙ ap past_blanks same.1 ∙ sym (past_blanks_is f.after f.last f.blanks (run_end_at_nothing f.last.after_word f.last.bytes f.nothing)) in
    end_is_something f.last.after_word f.last.bytes (subst (λ (s : Place). IsEndOrComment s.bytes) last_is a.ends) f.nothing

one_column : (at : ℕ) (bytes : List ℕ) (c d : ℕ) → IsLineFault at bytes c → IsLineFault at bytes d → c ≡ d
one_column at bytes c d f g =
    let same = same_way IsNext one_step (line_start at bytes) f.before f.after g.before g.after f.tokens (nothing_stops f.after f.last f.blanks f.nothing) g.tokens (nothing_stops g.after g.last g.blanks g.nothing) in
    let last_is : f.last ≡ g.last = past_blanks_is f.after f.last f.blanks (run_end_at_nothing f.last.after_word f.last.bytes f.nothing) ∙ ap past_blanks same.1 ∙ sym (past_blanks_is g.after g.last g.blanks (run_end_at_nothing g.last.after_word g.last.bytes g.nothing)) in
    let ats : f.last.at ≡ g.last.at = ap (λ (p : Place). p.at) last_is in
    omega (arith, f.place, g.place)

-- a line's bytes are those before the first line feed
text_is : (bytes text rest : List ℕ) → bytes ≡ text ++ rest → AllPass goes_on text → IsRunEnd goes_on rest → (text ≡ take (prefix_len goes_on bytes) bytes) × (rest ≡ drop (prefix_len goes_on bytes) bytes)
text_is bytes text rest parted all ends =
    let count : prefix_len goes_on bytes ≡ length text = ap (prefix_len goes_on) parted ∙ run_is goes_on text rest all ends in (
      sym (take-append_seam text rest) ∙ ap (take (length text)) (sym parted) ∙ ap (λ (n : ℕ). take n bytes) (sym count),
      sym (drop-append_seam text rest) ∙ ap (drop (length text)) (sym parted) ∙ ap (λ (n : ℕ). drop n bytes) (sym count),
    )

one_next : (p : LineStart) (l : Line) (q : LineStart) (m : Line) (r : LineStart) → IsNextLine p l q → IsNextLine p m r → (l ≡ m) × (q ≡ r)
one_next p l q m r a b =
    let x = text_is p.bytes a.text (10 ∷ q.bytes) a.parted a.one_line refl in
    let y = text_is p.bytes b.text (10 ∷ r.bytes) b.parted b.one_line refl in
    let texts : a.text ≡ b.text = x.0 ∙ sym y.0 in
    let rests : 10 ∷ q.bytes ≡ 10 ∷ r.bytes = x.1 ∙ sym y.1 in
    let bytes : q.bytes ≡ r.bytes = ap (drop 1) rests in
    let line = one_line p.count p.from b.text l m (subst (λ (t : List ℕ). IsLine p.count p.from t l) texts a.line) b.line in
    let from : q.from ≡ r.from = a.place ∙ ap (λ (t : List ℕ). p.from + length t + 1) texts ∙ sym b.place in
    (line, λ i. record { count = (a.number ∙ sym b.number) i; from = from i; bytes = bytes i })

-- after the last line, and at a faulty one, no line comes
last_stops : (p : LineStart) → AllPass goes_on p.bytes → (m : Line) (r : LineStart) → IsNextLine p m r → ⊥
last_stops p all m r b =
    let x = text_is p.bytes p.bytes [] (sym (append-nil p.bytes)) all tt in
    let y = text_is p.bytes b.text (10 ∷ r.bytes) b.parted b.one_line refl in
    let none : [] ≡ 10 ∷ r.bytes = x.1 ∙ sym y.1 in
    let no : ⊥ = cc in
    no

fault_stops : (p : LineStart) (text rest : List ℕ) (column : ℕ) → p.bytes ≡ text ++ rest → AllPass goes_on text → IsRunEnd goes_on rest → IsLineFault p.from text column → (m : Line) (r : LineStart) → IsNextLine p m r → ⊥
fault_stops p text rest column parted all ends fault m r b =
    let x = text_is p.bytes text rest parted all ends in
    let y = text_is p.bytes b.text (10 ∷ r.bytes) b.parted b.one_line refl in
    line_or_fault p.count p.from text m column (subst (λ (t : List ℕ). IsLine p.count p.from t m) (y.0 ∙ sym x.0) b.line) fault

pub one_text : (source : List ℕ) (ls ms : List Line) → IsText source ls → IsText source ms → ls ≡ ms
one_text source ls ms a b =
    let same = same_way IsNextLine one_next (source_start source) a.ended a.start b.ended b.start a.leads (last_stops a.start a.one_line) b.leads (last_stops b.start b.one_line) in
    let line = subst (λ (p : LineStart). IsLine p.count p.from p.bytes a.last) same.1 a.line in
    let last = one_line b.start.count b.start.from b.start.bytes a.last b.last line b.line in
    a.parted ∙ (λ i. same.0 i ++ last i ∷ []) ∙ sym b.parted

pub text_or_fault : (source : List ℕ) (ls : List Line) (line column : ℕ) → IsText source ls → FirstFault source line column → ⊥
text_or_fault source ls line column a f =
    let same = same_way IsNextLine one_next (source_start source) a.ended a.start f.before f.start a.leads (last_stops a.start a.one_line) f.leads (fault_stops f.start f.text f.rest column f.parted f.one_line f.ends f.fault) in
    let one : AllPass goes_on f.start.bytes = subst (λ (p : LineStart). AllPass goes_on p.bytes) same.1 a.one_line in
    let last = subst (λ (p : LineStart). IsLine p.count p.from p.bytes a.last) same.1 a.line in
    let x = text_is f.start.bytes f.start.bytes [] (sym (append-nil f.start.bytes)) one tt in
    let y = text_is f.start.bytes f.text f.rest f.parted f.one_line f.ends in
    line_or_fault f.start.count f.start.from f.text a.last column (subst (λ (t : List ℕ). IsLine f.start.count f.start.from t a.last) (x.0 ∙ sym y.0) last) f.fault

pub one_fault : (source : List ℕ) (j c k d : ℕ) → FirstFault source j c → FirstFault source k d → (j ≡ k) × (c ≡ d)
one_fault source j c k d f g =
    let same = same_way IsNextLine one_next (source_start source) f.before f.start g.before g.start f.leads (fault_stops f.start f.text f.rest c f.parted f.one_line f.ends f.fault) g.leads (fault_stops g.start g.text g.rest d g.parted g.one_line g.ends g.fault) in
    let x = text_is f.start.bytes f.text f.rest f.parted f.one_line f.ends in
    let y = text_is g.start.bytes g.text g.rest g.parted g.one_line g.ends in
    let texts : f.text ≡ g.text = x.0 ∙ ap (λ (p : LineStart). take (prefix_len goes_on p.bytes) p.bytes) same.1 ∙ sym y.0 in
    let from : f.start.from ≡ g.start.from = ap (λ (p : LineStart). p.from) same.1 in
    let there : IsLineFault g.start.from g.text c = subst (λ (n : ℕ). IsLineFault n g.text c) from (subst (λ (t : List ℕ). IsLineFault f.start.from t c) texts f.fault) in
    (f.number ∙ ap (λ (p : LineStart). p.count) same.1 ∙ sym g.number, one_column g.start.from g.text c d there g.fault)
