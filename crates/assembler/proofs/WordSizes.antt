-- Each word of text is a number below 2^32, and has the number of its line.
use Rattle.std.proofs.Common.{ℕ, ℤ, ◌≡◌, ◌+◌, ◌*◌, ◌/◌, ◌%◌, ◌^◌, ◌<◌, ◌≤◌, Bool, true, false, List, [], ◌∷◌, length, Result, Ok, Option, Some, None, refl, sym, ap, ◌∙◌, subst, arith, lit<}
use Rattle.std.specs.Prelude.{All}
use Rattle.std.specs.Option.{ok_or}
use Rattle.std.proofs.lemmas.List.Elements.{All-nil, All-cons, All-append, All-map, All-weaker, All-replicate}
use Rattle.asm_text.specs.{Text.Leads, declared.token.Line.Line}
use Rattle.asm_statements.specs.{Expansion.word_of, Expansion.expansion_of, Expansion.modulo_word, declared.mnemonic.Mnemonic.Mnemonic, declared.operands.Operands.Operands}
use Rattle.assembler.specs.{Faults.at_line, Sections.lines_of, declared.fault.AsmFault.AsmFault, declared.fault.Cause.TheVariants.Range, declared.layout.Position.Position}
use Rattle.assembler.specs.Layout.{Laid, numbers_in, string_in, space_bytes, Contents, Scope, nothing, in_bytes, in_words, in_zeros, words_of_numbers, bytes_of_numbers, words_of_expansion, instruction_held, bytes_held, held, all_held}
use Rattle.asm_statements.specs.{declared.expansion.Expansion.Expansion, declared.expansion.Expansion.TheVariants.One, declared.expansion.Expansion.TheVariants.Two}
use Rattle.asm_statements.specs.declared.statement.Statement.{Statement}
use Rattle.asm_statements.specs.declared.statement.Statement.TheVariants as statement
use Rattle.assembler.specs.{declared.filling.Cell.Cell, declared.layout.Piece.Piece}
use Rattle.asm_statements.proofs.{Stepping.and_then-ok, Stepping.ok_or-ok, Registers.HasRegisters, Registers.IsKnown, Registers.statement-known}
use Rattle.assembler.proofs.{Stepping.at_line-ok, Sizes.same_contents, Pieces.IsPlaced, Pieces.IsHeld, Pieces.held-is}
use Rattle.asm_statements.proofs.Expansions.{AreMeant, expansion-meant, modulo-below}

-- ---- the cells that statements come to

-- a word below 2^32, of the line of this number
record IsCell (number : ℕ) (cell : Cell) : Type 0 where
  small : cell.word < 2 ^ 32
  line : cell.line ≡ number

none-cells : (line : ℕ) → All (IsCell line) []
none-cells line = All-nil (IsCell line)

words-cells : (in_data : Bool) (line : ℕ) (words : List ℕ) → All (λ (w : ℕ). w < 2 ^ 32) words → All (IsCell line) (in_words in_data line words).cells
words-cells true line words small = none-cells line
words-cells false line words small =
    All-map (IsCell line) (λ (w : ℕ). record { word = w; line = line }) words
    (All-weaker (λ (w : ℕ). w < 2 ^ 32) (λ (w : ℕ). IsCell line (record { word = w; line = line })) (λ (w : ℕ) is. record { small = is; line = refl }) words small)

numbers-small : (ns : List (ℤ × ℕ)) → All (λ (w : ℕ). w < 2 ^ 32) (words_of_numbers ns)
numbers-small [] = All-nil (λ (w : ℕ). w < 2 ^ 32)
numbers-small (n ∷ ns) = All-cons (λ (w : ℕ). w < 2 ^ 32) (modulo_word n.0) (words_of_numbers ns) (modulo-below n.0) (numbers-small ns)

expansion-small : (e : Expansion) → AreMeant e → All (λ (w : ℕ). w < 2 ^ 32) (words_of_expansion e)
expansion-small (One i) m = All-cons (λ (w : ℕ). w < 2 ^ 32) (word_of i) [] m.0 (All-nil (λ (w : ℕ). w < 2 ^ 32))
expansion-small (Two i j) m = All-cons (λ (w : ℕ). w < 2 ^ 32) (word_of i) (word_of j ∷ []) m.0.0 (All-cons (λ (w : ℕ). w < 2 ^ 32) (word_of j) [] m.1.0 (All-nil (λ (w : ℕ). w < 2 ^ 32)))

zeros-cells : (in_data : Bool) (line n : ℕ) → All (IsCell line) (in_zeros in_data line n).cells
zeros-cells true line n = none-cells line
zeros-cells false line n = All-replicate (IsCell line) (n / 4) (record { word = 0; line = line }) (record { small = omega arith; line = refl })

same-cells : (line : ℕ) (c d : Contents) → ◌≡◌ {A = Result Contents AsmFault} (Ok c) (Ok d) → All (IsCell line) c.cells → All (IsCell line) d.cells
same-cells line c d is all = subst (λ (x : Contents). All (IsCell line) x.cells) (same_contents c d is) all

instruction-cells : (source : List ℕ) (line : Line) (in_data : Bool) (m : Mnemonic) (o : Operands) (v : Option ℤ) (d : Contents) → HasRegisters o → instruction_held source line in_data m o v ≡ Ok d → All (IsCell line.number) d.cells
instruction-cells source line in_data m o (Some n) d h is =
    let (e, expands, made) = and_then-ok (at_line source line Range (ok_or (expansion_of m o n) o.at)) (λ (x : Expansion). Ok (in_words in_data line.number (words_of_expansion x))) d is in
    let meant : AreMeant e = expansion-meant m o n e h (ok_or-ok (expansion_of m o n) o.at e (at_line-ok source line Range (ok_or (expansion_of m o n) o.at) e expands)) in
    same-cells line.number (in_words in_data line.number (words_of_expansion e)) d made (words-cells in_data line.number (words_of_expansion e) (expansion-small e meant))
instruction-cells source line in_data m o None d h is = absurd (let no : ⊥ = cc in no)

bytes-cells : (source : List ℕ) (line : Line) (d : Contents) → bytes_held source line ≡ Ok d → All (IsCell line.number) d.cells
bytes-cells source line d is =
    let (bytes, _, made) = and_then-ok (at_line source line Range (bytes_of_numbers (numbers_in line.tokens))) (λ (x : List ℕ). Ok (in_bytes x)) d is in
    same-cells line.number (in_bytes bytes) d made (none-cells line.number)

held-cells : (scope : Scope) (line : Line) (p : Position) (s : Statement) (d : Contents) → IsKnown p.in_data s → held scope line p s ≡ Ok d → All (IsCell line.number) d.cells
held-cells scope line p statement.Nothing d k is = same-cells line.number nothing d is (none-cells line.number)
held-cells scope line p statement.Text d k is = same-cells line.number nothing d is (none-cells line.number)
held-cells scope line p statement.Data d k is = same-cells line.number nothing d is (none-cells line.number)
held-cells scope line p statement.Words d k is =
    let words : List ℕ = words_of_numbers (numbers_in line.tokens) in
    same-cells line.number (in_words p.in_data line.number words) d is (words-cells p.in_data line.number words (numbers-small (numbers_in line.tokens)))
held-cells scope line p statement.Bytes d k is = bytes-cells scope.source line d is
held-cells scope line p statement.Ascii d k is = same-cells line.number (in_bytes (string_in line.tokens)) d is (none-cells line.number)
held-cells scope line p (statement.Space n at) d k is = same-cells line.number (in_zeros p.in_data line.number (space_bytes n)) d is (zeros-cells p.in_data line.number (space_bytes n))
held-cells scope line p (statement.Instruction m o) d k is = instruction-cells scope.source line p.in_data m o _ d k is

-- ---- the cells of all lines

-- a word below 2^32, of a line from one number up to another
pub record IsOf (low high : ℕ) (cell : Cell) : Type 0 where
  pub small : cell.word < 2 ^ 32
  pub from : low ≤ cell.line
  pub below : cell.line < high

-- lines that are counted from a number on
abbrev pub AreCounted : ℕ → List Line → Type 0
AreCounted n [] = Unit {0}
AreCounted n (l ∷ ls) = (l.number ≡ n) × AreCounted (n + 1) ls

-- statements of lines that are counted come to cells of these lines
pub lines-cells : (scope : Scope) (source : List ℕ) (n : ℕ) (ps : List Piece) (l m : Laid) (c : Contents) → AreCounted n (lines_of ps) → Leads (IsPlaced source) l ps m → all_held scope ps ≡ Ok c → All (IsOf n (n + length ps)) c.cells
lines-cells scope source n [] l m c counts steps is = subst (λ (x : Contents). All (IsOf n (n + 0)) x.cells) (same_contents nothing c is) (All-nil (IsOf n (n + 0)))
lines-cells scope source n (p ∷ ps) l m c counts steps is =
    let h : IsHeld scope p ps c = held-is scope p ps c is in
    let step : IsPlaced source l p steps.0 = steps.1 in
    let number : p.line.number ≡ n = counts.0 in
    let here : All (IsCell p.line.number) h.first.cells = held-cells scope p.line p.position p.statement h.first (statement-known source p.position.in_data p.line.end step.rest p.statement step.body) h.here in
    let more : All (IsOf (n + 1) (n + 1 + length ps)) h.more.cells = lines-cells scope source (n + 1) ps steps.0 m h.more counts.1 steps.2 h.onward in
    subst (λ (x : Contents). All (IsOf n (n + length (p ∷ ps))) x.cells) h.whole
    (All-append (IsOf n (n + length (p ∷ ps))) h.first.cells h.more.cells
    (All-weaker (IsCell p.line.number) (IsOf n (n + length (p ∷ ps))) (λ (x : Cell) is. record { small = is.small; from = omega (arith, is.line, number); below = omega (arith, is.line, number) }) h.first.cells here)
    (All-weaker (IsOf (n + 1) (n + 1 + length ps)) (IsOf n (n + length (p ∷ ps))) (λ (x : Cell) is. record { small = is.small; from = omega (arith, is.from); below = omega (arith, is.below) }) h.more.cells more))
