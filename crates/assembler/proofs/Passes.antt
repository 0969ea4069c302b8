-- A step over the lines, and over the statements, that are left.
use Rattle.std.proofs.Common.{ℕ, suc, ◌≡◌, ◌<◌, ◌+◌, List, ◌∷◌, length, get_or, drop, Result, Ok, Err, refl, sym, ap, ◌∙◌, arith, drop-cons}
use Rattle.asm_text.specs.declared.token.Line.{Line}
use Rattle.asm_statements.specs.{declared.statement.Statement.Statement, Tokens.and_then}
use Rattle.assembler.specs.{Labels.SpotsByName, declared.fault.AsmFault.AsmFault, declared.layout.Piece.Piece}
use Rattle.assembler.specs.Layout.{Laid, parsed, with_piece, all_placed, Contents, Scope, nothing, joined, added, held, all_held}
use Rattle.asm_statements.proofs.Stepping.{and_then-err}
use Rattle.assembler.proofs.Pieces.{joined_assoc}

pub none-added : (r : Result Contents AsmFault) → added nothing r ≡ r
none-added (Ok c) = refl
none-added (Err f) = refl

abbrev ok_contents : Contents → Result Contents AsmFault
ok_contents c = Ok c

-- what a statement comes to, and then others
added-on : (o n : Contents) (here rest : Result Contents AsmFault) → added o here ≡ Ok n → added o (and_then here (λ (c : Contents). added c rest)) ≡ added n rest
added-on o n (Ok c) (Ok d) is = let same : joined o c ≡ n = cc in ap ok_contents (sym (joined_assoc o c d) ∙ ap (λ (x : Contents). joined x d) same)
added-on o n (Ok c) (Err f) is = refl
added-on o n (Err f) rest is = absurd (let no : ⊥ = cc in no)

added-stops : (o : Contents) (f : AsmFault) (here rest : Result Contents AsmFault) → added o here ≡ Err f → added o (and_then here (λ (c : Contents). added c rest)) ≡ Err f
added-stops o f (Ok c) rest is = absurd (let no : ⊥ = cc in no)
added-stops o f (Err g) rest is = is

next-held : (scope : Scope) (ps : List Piece) (i : ℕ) (p : Piece) → i < length ps → p ≡ get_or ps i p → all_held scope (drop i ps) ≡ all_held scope (p ∷ drop (suc i) ps)
next-held scope ps i p more is = ap (all_held scope) (drop-cons ps i p more) ∙ ap (λ (x : Piece). all_held scope (x ∷ drop (suc i) ps)) (sym is)

pub held-goes-on : (scope : Scope) (ps : List Piece) (i : ℕ) (p : Piece) (o n : Contents) → i < length ps → p ≡ get_or ps i p → added o (held scope p.line p.position p.statement) ≡ Ok n
    → added n (all_held scope (drop (i + 1) ps)) ≡ added o (all_held scope (drop i ps))
held-goes-on scope ps i p o n more is made =
    let next : i + 1 ≡ suc i = omega arith in
    ap (λ (k : ℕ). added n (all_held scope (drop k ps))) next
    ∙ sym (ap (added o) (next-held scope ps i p more is) ∙ added-on o n (held scope p.line p.position p.statement) (all_held scope (drop (suc i) ps)) made)

pub held-stops : (scope : Scope) (ps : List Piece) (i : ℕ) (p : Piece) (o : Contents) (f : AsmFault) → i < length ps → p ≡ get_or ps i p → added o (held scope p.line p.position p.statement) ≡ Err f
    → added o (all_held scope (drop i ps)) ≡ Err f
held-stops scope ps i p o f more is fault =
    ap (added o) (next-held scope ps i p more is) ∙ added-stops o f (held scope p.line p.position p.statement) (all_held scope (drop (suc i) ps)) fault

pub placing-stops : (source : List ℕ) (items rest : List Line) (line : Line) (l : Laid) (f : AsmFault) → items ≡ line ∷ rest → parsed source line l.position l.labels ≡ Err f → all_placed source items l ≡ Err f
placing-stops source items rest line l f is fault =
    ap (λ (ls : List Line). all_placed source ls l) is
    ∙ and_then-err (parsed source line l.position l.labels) (λ (r : Statement × SpotsByName). all_placed source rest (with_piece l line r)) f fault
