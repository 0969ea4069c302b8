-- The statements of lines, one after the other, and what they come to.
use Rattle.std.proofs.Common.{ℕ, ◌≡◌, List, [], ◌∷◌, ◌++◌, Result, Ok, Option, refl, sym, ap, ◌∙◌, subst, append_assoc, append-nil}
use Rattle.asm_text.specs.{Text.Leads, declared.token.Token.Token, declared.token.Line.Line}
use Rattle.asm_statements.specs.{Tokens.and_then, Statements.label_read, Statements.statement_read, declared.statement.Label.Label, declared.statement.Statement.Statement}
use Rattle.assembler.specs.{Faults.at_line, Labels.SpotsByName, Sections.lines_of, declared.fault.AsmFault.AsmFault, declared.fault.Cause.TheVariants.Syntax}
use Rattle.assembler.specs.Layout.{Laid, start_layout, after, labelled, space_checked, parsed, with_piece, all_placed, Contents, Scope, nothing, joined, added, held, all_held}
use Rattle.assembler.specs.{declared.layout.Piece.Piece, declared.layout.Position.Position}
use Rattle.asm_statements.proofs.Stepping.{and_then-ok, and_then-each}
use Rattle.assembler.proofs.{Stepping.at_line-ok, Sizes.IsMeasured, Sizes.measured-nothing, Sizes.measured-statement, Sizes.same_contents}

-- ---- a line

-- a line's statement where it stands
abbrev pub piece_at : Laid → Line → Statement × SpotsByName → Piece
piece_at l line r = record { line = line; position = l.position; statement = r.0 }

-- from what is there before a statement to what is there after it
pub record IsPlaced (source : List ℕ) (l : Laid) (p : Piece) (m : Laid) : Type 0 where
  pub label : Option Label
  pub rest : List Token
  pub prefix : label_read source p.line.tokens ≡ Ok (label, rest)
  pub labels : labelled source p.line label l.position l.labels ≡ Ok m.labels
  pub body : statement_read source p.position.in_data p.line.end rest ≡ Ok p.statement
  pub checked : space_checked source p.line p.position.in_data p.statement ≡ Ok tt
  pub at : p.position ≡ l.position
  pub next : after p.position p.statement p.line.tokens ≡ m.position

-- the steps of a line, from the last
abbrev parsed_checked : List ℕ → Line → Position → SpotsByName → Statement → Result (Statement × SpotsByName) AsmFault
parsed_checked source line p known s = and_then (space_checked source line p.in_data s) (λ _. Ok (s, known))

abbrev parsed_stated : List ℕ → Line → Position → (Option Label × List Token) → SpotsByName → Result (Statement × SpotsByName) AsmFault
parsed_stated source line p r known = and_then (at_line source line Syntax (statement_read source p.in_data line.end r.1)) (λ s. parsed_checked source line p known s)

abbrev parsed_labelled : List ℕ → Line → Position → SpotsByName → (Option Label × List Token) → Result (Statement × SpotsByName) AsmFault
parsed_labelled source line p labels r = and_then (labelled source line r.0 p labels) (λ known. parsed_stated source line p r known)

pub same_parsed : (a b : Statement × SpotsByName) → ◌≡◌ {A = Result (Statement × SpotsByName) AsmFault} (Ok a) (Ok b) → a ≡ b
same_parsed a b is = cc

pub parsed-is : (source : List ℕ) (line : Line) (l : Laid) (r : Statement × SpotsByName) → parsed source line l.position l.labels ≡ Ok r → IsPlaced source l (piece_at l line r) (with_piece l line r)
parsed-is source line l r is =
    let (split, prefix, is2) = and_then-ok (at_line source line Syntax (label_read source line.tokens)) (parsed_labelled source line l.position l.labels) r is in
    let (known, label, is3) = and_then-ok (labelled source line split.0 l.position l.labels) (parsed_stated source line l.position split) r is2 in
    let (s, body, is4) = and_then-ok (at_line source line Syntax (statement_read source l.position.in_data line.end split.1)) (parsed_checked source line l.position known) r is3 in
    let (_, space, is5) = and_then-ok (space_checked source line l.position.in_data s) (λ (u : Unit {0}). Ok (s, known)) r is4 in
    subst (λ (x : Statement × SpotsByName). IsPlaced source l (piece_at l line x) (with_piece l line x)) (same_parsed (s, known) r is5) (record {
      label = split.0;
      rest = split.1;
      prefix = at_line-ok source line Syntax (label_read source line.tokens) split prefix;
      labels = label;
      body = at_line-ok source line Syntax (statement_read source l.position.in_data line.end split.1) s body;
      checked = space;
      at = refl;
      next = refl;
    })

-- ---- all lines

pub same_laid : (l m : Laid) → ◌≡◌ {A = Result Laid AsmFault} (Ok l) (Ok m) → l ≡ m
same_laid l m is = cc

-- the statements that lines add
pub record HasSteps (source : List ℕ) (lines : List Line) (l m : Laid) : Type 0 where
  pub pieces : List Piece
  pub each : lines_of pieces ≡ lines
  pub steps : Leads (IsPlaced source) l pieces m
  pub grown : m.pieces ≡ l.pieces ++ pieces

pub lines-steps : (source : List ℕ) (lines : List Line) (l m : Laid) → all_placed source lines l ≡ Ok m → HasSteps source lines l m
lines-steps source [] l m is =
    let same : l ≡ m = same_laid l m is in
    record { pieces = []; each = refl; steps = same; grown = ap (λ (x : Laid). x.pieces) (sym same) ∙ sym (append-nil l.pieces) }
lines-steps source (line ∷ lines) l m is =
    let (r, here, onward) = and_then-ok (parsed source line l.position l.labels) (λ (x : Statement × SpotsByName). all_placed source lines (with_piece l line x)) m is in
    let rest : HasSteps source lines (with_piece l line r) m = lines-steps source lines (with_piece l line r) m onward in
    record {
      pieces = piece_at l line r ∷ rest.pieces;
      each = (λ i. line ∷ rest.each i);
      steps = (with_piece l line r, parsed-is source line l r here, rest.steps);
      grown = rest.grown ∙ append_assoc l.pieces (piece_at l line r ∷ []) rest.pieces;
    }

-- the statements of all lines of a source
pub record AreLaid (source : List ℕ) (lines : List Line) (l : Laid) : Type 0 where
  pub each : lines_of l.pieces ≡ lines
  pub steps : Leads (IsPlaced source) start_layout l.pieces l

pub lines-laid : (source : List ℕ) (lines : List Line) (l : Laid) → all_placed source lines start_layout ≡ Ok l → AreLaid source lines l
lines-laid source lines l is =
    let h : HasSteps source lines start_layout l = lines-steps source lines start_layout l is in
    record { each = ap lines_of h.grown ∙ h.each; steps = subst (λ (ps : List Piece). Leads (IsPlaced source) start_layout ps l) (sym h.grown) h.steps }

pub all_placed-append : (source : List ℕ) (xs ys : List Line) (l : Laid) → all_placed source (xs ++ ys) l ≡ and_then (all_placed source xs l) (λ (m : Laid). all_placed source ys m)
all_placed-append source [] ys l = refl
all_placed-append source (x ∷ xs) ys l =
    and_then-each (parsed source x l.position l.labels) (λ (r : Statement × SpotsByName). all_placed source xs (with_piece l x r)) (λ (m : Laid). all_placed source ys m)
    (λ (r : Statement × SpotsByName). all_placed source (xs ++ ys) (with_piece l x r)) (λ r. all_placed-append source xs ys (with_piece l x r))

-- ---- what statements come to

pub joined_assoc : (c d e : Contents) → joined (joined c d) e ≡ joined c (joined d e)
joined_assoc c d e = λ i. record { cells = append_assoc c.cells d.cells e.cells i; bytes = append_assoc c.bytes d.bytes e.bytes i }

-- what a statement comes to, and others after it
pub record IsHeld (scope : Scope) (p : Piece) (ps : List Piece) (c : Contents) : Type 0 where
  pub first : Contents
  pub more : Contents
  pub here : held scope p.line p.position p.statement ≡ Ok first
  pub onward : all_held scope ps ≡ Ok more
  pub whole : joined first more ≡ c

abbrev ok_joined : Contents → Contents → Result Contents AsmFault
ok_joined c d = Ok (joined c d)

pub held-is : (scope : Scope) (p : Piece) (ps : List Piece) (c : Contents) → all_held scope (p ∷ ps) ≡ Ok c → IsHeld scope p ps c
held-is scope p ps c is =
    let (first, here, is2) = and_then-ok (held scope p.line p.position p.statement) (λ (x : Contents). added x (all_held scope ps)) c is in
    let (more, onward, made) = and_then-ok (all_held scope ps) (ok_joined first) c is2 in
    record { first = first; more = more; here = here; onward = onward; whole = same_contents (joined first more) c made }

-- what a statement comes to, and others before and after it
pub record IsParted (scope : Scope) (before : List Piece) (p : Piece) (after : List Piece) (c : Contents) : Type 0 where
  pub earlier : Contents
  pub made : Contents
  pub later : Contents
  pub prefix : all_held scope before ≡ Ok earlier
  pub here : held scope p.line p.position p.statement ≡ Ok made
  pub back : all_held scope after ≡ Ok later
  pub whole : joined earlier (joined made later) ≡ c

pub held-parted : (scope : Scope) (before : List Piece) (p : Piece) (after : List Piece) (c : Contents) → all_held scope (before ++ p ∷ after) ≡ Ok c → IsParted scope before p after c
held-parted scope [] p after c is =
    let h : IsHeld scope p after c = held-is scope p after c is in
    record { earlier = nothing; made = h.first; later = h.more; prefix = refl; here = h.here; back = h.onward; whole = h.whole }
held-parted scope (q ∷ before) p after c is =
    let h : IsHeld scope q (before ++ p ∷ after) c = held-is scope q (before ++ p ∷ after) c is in
    let rest : IsParted scope before p after h.more = held-parted scope before p after h.more h.onward in
    record {
      earlier = joined h.first rest.earlier;
      made = rest.made;
      later = rest.later;
      prefix = ap (λ (r : Result Contents AsmFault). and_then r (λ (x : Contents). added x (all_held scope before))) h.here ∙ ap (λ (r : Result Contents AsmFault). added h.first r) rest.prefix;
      here = rest.here;
      back = rest.back;
      whole = joined_assoc h.first rest.earlier (joined rest.made rest.later) ∙ ap (joined h.first) rest.whole ∙ h.whole;
    }

-- after statements the position counts what the sections hold
pub measured-steps : (scope : Scope) (source : List ℕ) (ps : List Piece) (l m : Laid) (c d : Contents) → Leads (IsPlaced source) l ps m → IsMeasured l.position c → all_held scope ps ≡ Ok d → IsMeasured m.position (joined c d)
measured-steps scope source [] l m c d steps measured is =
    subst (λ (x : Laid). IsMeasured x.position (joined c d)) steps
    (subst (λ (x : Contents). IsMeasured l.position (joined c x)) (same_contents nothing d is) (measured-nothing l.position c measured))
measured-steps scope source (p ∷ ps) l m c d steps measured is =
    let h : IsHeld scope p ps d = held-is scope p ps d is in
    let step : IsPlaced source l p steps.0 = steps.1 in
    let here : IsMeasured steps.0.position (joined c h.first) =
    subst (λ (q : Position). IsMeasured q (joined c h.first)) step.next
    (measured-statement scope p.line p.position p.statement c h.first (subst (λ (q : Position). IsMeasured q c) (sym step.at) measured) h.here) in
    subst (λ (x : Contents). IsMeasured m.position x) (joined_assoc c h.first h.more ∙ ap (joined c) h.whole)
    (measured-steps scope source ps steps.0 m (joined c h.first) h.more steps.2 here h.onward)

pub measured-all : (scope : Scope) (source : List ℕ) (ps : List Piece) (l : Laid) (c : Contents) → Leads (IsPlaced source) start_layout ps l → all_held scope ps ≡ Ok c → IsMeasured l.position c
measured-all scope source ps l c steps is = measured-steps scope source ps start_layout l nothing c steps (record { words = refl; bytes = refl }) is
