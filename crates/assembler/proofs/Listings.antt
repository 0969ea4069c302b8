-- The instructions of a source are listed.
use Rattle.std.proofs.Common.{ℕ, ℤ, pos, suc, ◌≡◌, ◌+◌, ◌*◌, ◌<◌, ◌≤◌, ◌^◌, Bool, false, List, [], ◌∷◌, ◌++◌, length, Result, Ok, Option, Some, None, refl, sym, ap, ◌∙◌, subst, arith, append_assoc, length-append}
use Rattle.std.specs.Prelude.{All}
use Rattle.std.specs.Option.{ok_or}
use Rattle.std.proofs.lemmas.List.{length-map}
use Rattle.std.proofs.lemmas.List.Elements.{All-nil, All-cons, All-head, All-tail, All-weaker}
use Rattle.machine_model.specs.Images.{Program}
use Rattle.asm_text.specs.{Text.Leads, Text.LineStart, Text.source_start, Text.IsNextLine, Text.IsText, declared.token.Token.Token, declared.token.Line.Line}
use Rattle.asm_statements.specs.{Tokens.and_then, Statements.label_read, Statements.statement_read, Expansion.expansion_of, Expansion.instructions_of}
use Rattle.assembler.specs.{Faults.at_line, Labels.SpotsByName, Assembly.scope_of, Assembly.Assembled, Assembly.assembly, Assembly.rows_from, declared.fault.AsmFault.AsmFault}
use Rattle.assembler.specs.Layout.{Laid, counted, start_layout, parsed, with_piece, all_placed, Contents, Scope, in_words, words_of_expansion, distance_of, instruction_held, held, all_held}
use Rattle.assembler.specs.Sections.{lines_of, IsInstruction, AreInstructions, IsListedInstruction, ListsInstructions}
use Rattle.assembler.specs.{declared.fault.Cause.TheVariants.Range, declared.layout.Position.Position, declared.layout.Piece.Piece, declared.filling.Cell.Cell}
use Rattle.asm_statements.specs.{declared.mnemonic.Mnemonic.Mnemonic, declared.operands.Operands.Operands, declared.expansion.Expansion.Expansion, declared.statement.Label.Label}
use Rattle.asm_statements.specs.{declared.expansion.Expansion.TheVariants.One, declared.expansion.Expansion.TheVariants.Two, declared.statement.Statement.Statement}
use Rattle.asm_statements.specs.declared.statement.Statement.TheVariants as statement
use Rattle.assembler.specs.declared.listing.ListingRow.{ListingRow}
use Rattle.asm_statements.proofs.{Stepping.and_then-ok, Stepping.ok_or-ok, Registers.HasRegisters, Registers.statement-known, Expansions.AreMeant, Expansions.expansion-meant}
use Rattle.assembler.proofs.{Stepping.at_line-ok, Sizes.IsMeasured, Sizes.same_contents, WordSizes.AreCounted, WordSizes.IsOf, WordSizes.lines-cells}
use Rattle.assembler.proofs.Pieces.{IsPlaced, IsParted, HasSteps, AreLaid, piece_at, parsed-is, lines-steps, lines-laid, all_placed-append, held-parted, measured-all}
use Rattle.assembler.proofs.Assemblies.{IsAssembly, assembly-is}

-- ---- the lines of a source are counted from 1

counted-ended : (p : LineStart) (ls : List Line) (q : LineStart) → Leads IsNextLine p ls q → AreCounted p.count ls × (q.count ≡ p.count + length ls)
counted-ended p [] q leads = (tt, omega (arith, ap (λ (x : LineStart). x.count) leads))
counted-ended p (l ∷ ls) q leads =
    let first = leads.1 in
    let rest = counted-ended leads.0 ls q leads.2 in
    let next : leads.0.count ≡ p.count + 1 = first.number in
    ((first.line.number, subst (λ (n : ℕ). AreCounted n ls) next rest.0), omega (arith, rest.1))

counted-append : (n : ℕ) (xs ys : List Line) → AreCounted n xs → AreCounted (n + length xs) ys → AreCounted n (xs ++ ys)
counted-append n [] ys a b = subst (λ (k : ℕ). AreCounted k ys) (omega arith) b
counted-append n (x ∷ xs) ys a b = (a.0, counted-append (n + 1) xs ys a.1 (subst (λ (k : ℕ). AreCounted k ys) (omega arith) b))

counted-text : (source : List ℕ) (lines : List Line) → IsText source lines → AreCounted 1 lines
counted-text source lines t =
    let ended = counted-ended (source_start source) t.ended t.start t.leads in
    let last : t.last.number ≡ 1 + length t.ended = t.line.number ∙ ended.1 in
    subst (λ (ls : List Line). AreCounted 1 ls) (sym t.parted) (counted-append 1 t.ended (t.last ∷ []) ended.0 (last, tt))

-- counted lines that are parted at one
record IsCountedAt (n : ℕ) (before : List Line) (line : Line) (after : List Line) : Type 0 where
  prefix : AreCounted n before
  number : line.number ≡ n + length before
  back : AreCounted (line.number + 1) after

counted-parts : (n : ℕ) (before : List Line) (line : Line) (after : List Line) → AreCounted n (before ++ line ∷ after) → IsCountedAt n before line after
counted-parts n [] line after c = record { prefix = tt; number = c.0 ∙ omega arith; back = subst (λ (k : ℕ). AreCounted (k + 1) after) (sym c.0) c.1 }
counted-parts n (x ∷ xs) line after c =
    let rest = counted-parts (n + 1) xs line after c.1 in
    record { prefix = (c.0, rest.prefix); number = rest.number ∙ omega arith; back = rest.back }

-- ---- the cells of an instruction, and their rows

-- the cells of an expansion
abbrev cells_of : ℕ → Expansion → List Cell
cells_of line e = (in_words false line (words_of_expansion e)).cells

-- the rows of these cells are the expansion's instructions
are_instructions : (at line : ℕ) (e : Expansion) → AreMeant e → AreInstructions at line (instructions_of e) (rows_from at (cells_of line e))
are_instructions at line (One i) m = (refl, refl, m.1, refl)
are_instructions at line (Two i j) m = (refl, refl, m.0.1, (refl, refl, m.1.1, refl))

rows-append : (at : ℕ) (xs ys : List Cell) → rows_from at (xs ++ ys) ≡ rows_from at xs ++ rows_from (at + 4 * length xs) ys
rows-append at [] ys = ap (λ (n : ℕ). rows_from n ys) (omega arith)
rows-append at (x ∷ xs) ys =
    ap (λ (rows : List ListingRow). (record { address = at; word = x.word; line = x.line }) ∷ rows)
    (rows-append (at + 4) xs ys ∙ ap (λ (n : ℕ). rows_from (at + 4) xs ++ rows_from n ys) (omega arith))

length-rows : (at : ℕ) (xs : List Cell) → length (rows_from at xs) ≡ length xs
length-rows at [] = refl
length-rows at (x ∷ xs) = ap suc (length-rows (at + 4) xs)

-- what is said of each cell's line is said of each row's
rows-lines : (P : ℕ → Type 0) (at : ℕ) (xs : List Cell) → All (λ (x : Cell). P x.line) xs → All (λ (r : ListingRow). P r.line) (rows_from at xs)
rows-lines P at [] all = All-nil (λ (r : ListingRow). P r.line)
rows-lines P at (x ∷ xs) all =
    All-cons (λ (r : ListingRow). P r.line) (record { address = at; word = x.word; line = x.line }) (rows_from (at + 4) xs)
    (All-head (λ (x : Cell). P x.line) x xs all) (rows-lines P (at + 4) xs (All-tail (λ (x : Cell). P x.line) x xs all))

-- what an instruction in text comes to, after so many words
record IsAdded (scope : Scope) (line : Line) (words : ℕ) (m : Mnemonic) (o : Operands) (d : Contents) : Type 0 where
  number : ℤ
  value : distance_of scope (pos (65536 + 4 * words)) o.value ≡ Some number
  expansion : Expansion
  expands : expansion_of m o number ≡ Some expansion
  cells : d.cells ≡ cells_of line.number expansion

added-instruction : (scope : Scope) (line : Line) (words : ℕ) (m : Mnemonic) (o : Operands) (v : Option ℤ) (d : Contents) → distance_of scope (pos (65536 + 4 * words)) o.value ≡ v
    → instruction_held scope.source line false m o v ≡ Ok d → IsAdded scope line words m o d
added-instruction scope line words m o (Some n) d value is =
    let (e, expands, made) = and_then-ok (at_line scope.source line Range (ok_or (expansion_of m o n) o.at)) (λ (x : Expansion). Ok (in_words false line.number (words_of_expansion x))) d is in
    record {
      number = n;
      value = value;
      expansion = e;
      expands = ok_or-ok (expansion_of m o n) o.at e (at_line-ok scope.source line Range (ok_or (expansion_of m o n) o.at) e expands);
      cells = ap (λ (x : Contents). x.cells) (sym (same_contents (in_words false line.number (words_of_expansion e)) d made));
    }
added-instruction scope line words m o None d value is = absurd (let no : ⊥ = cc in no)

-- ---- the whole

-- a position in text, after so many words
text_position : (p : Position) (words : ℕ) → p.in_data ≡ false → p.words ≡ words → p ≡ record { in_data = false; words = words; bytes = p.bytes }
text_position p words in_text as_many = λ i. record { in_data = in_text i; words = as_many i; bytes = p.bytes }

counted-small : (w len : ℕ) → w ≡ counted len → len ≤ 61440 → len ≡ w
counted-small w len e small = omega arith

same_ok : (s t : Statement) → ◌≡◌ {A = Result Statement ℕ} (Ok s) (Ok t) → s ≡ t
same_ok s t is = cc

same_split : (p q : Option Label × List Token) → ◌≡◌ {A = Result (Option Label × List Token) ℕ} (Ok p) (Ok q) → p ≡ q
same_split p q is = cc

same_statement : (source : List ℕ) (line : Line) (in_data : Bool) (a b : Option Label) (xs ys : List Token) (s t : Statement) → label_read source line.tokens ≡ Ok (a, xs) → label_read source line.tokens ≡ Ok (b, ys)
    → statement_read source in_data line.end xs ≡ Ok s → statement_read source in_data line.end ys ≡ Ok t → s ≡ t
same_statement source line in_data a b xs ys s t p q first second =
    let split : ◌≡◌ {A = Result (Option Label × List Token) ℕ} (Ok (a, xs)) (Ok (b, ys)) = sym p ∙ q in
    same_ok s t (sym first ∙ ap (λ (x : List Token). statement_read source in_data line.end x) (ap (λ (r : Option Label × List Token). r.1) (same_split (a, xs) (b, ys) split)) ∙ second)

-- the statement of a line among those of all lines
record HasPiece (source : List ℕ) (before : List Line) (line : Line) (after : List Line) (words : ℕ) (m : Mnemonic) (o : Operands) (l : Laid) : Type 0 where
  begin : Laid
  end : Laid
  piece : Piece
  later : List Piece
  each : lines_of begin.pieces ≡ before
  each_later : lines_of later ≡ after
  steps : Leads (IsPlaced source) start_layout begin.pieces begin
  onward : Leads (IsPlaced source) end later l
  pieces : l.pieces ≡ begin.pieces ++ piece ∷ later
  same_line : piece.line ≡ line
  position : piece.position ≡ record { in_data = false; words = words; bytes = begin.position.bytes }
  is : piece.statement ≡ statement.Instruction m o
  as_many : begin.position.words ≡ words

line-piece : (source : List ℕ) (before : List Line) (line : Line) (after : List Line) (words : ℕ) (m : Mnemonic) (o : Operands) (l : Laid) → IsInstruction source before line words m o → all_placed source (before ++ line ∷ after) start_layout ≡ Ok l
    → HasPiece source before line after words m o l
line-piece source before line after words m o l is placed =
    let b : Laid = is.layout in
    let both : and_then (all_placed source before start_layout) (λ (x : Laid). all_placed source (line ∷ after) x) ≡ Ok l = sym (all_placed-append source before (line ∷ after) start_layout) ∙ placed in
    let onward : all_placed source (line ∷ after) b ≡ Ok l = sym (ap (λ (r : Result Laid AsmFault). and_then r (λ (x : Laid). all_placed source (line ∷ after) x)) is.placed) ∙ both in
    let (r, here, rest) = and_then-ok (parsed source line b.position b.labels) (λ (x : Statement × SpotsByName). all_placed source after (with_piece b line x)) l onward in
    let step : IsPlaced source b (piece_at b line r) (with_piece b line r) = parsed-is source line b r here in
    let early : AreLaid source before b = lines-laid source before b is.placed in
    let late : HasSteps source after (with_piece b line r) l = lines-steps source after (with_piece b line r) l rest in
    record {
      begin = b;
      end = with_piece b line r;
      piece = piece_at b line r;
      later = late.pieces;
      each = early.each;
      each_later = late.each;
      steps = early.steps;
      onward = late.steps;
      pieces = late.grown ∙ append_assoc b.pieces (piece_at b line r ∷ []) late.pieces;
      same_line = refl;
      position = text_position b.position words is.in_text is.as_many;
      is = same_statement source line false step.label is.label step.rest is.statement r.0 (statement.Instruction m o) step.prefix is.parted
          (subst (λ (d : Bool). statement_read source d line.end step.rest ≡ Ok r.0) is.in_text step.body) is.read;
      as_many = is.as_many;
    }

-- the rows of text that is parted as the lines are
record IsPartedText (scope : Scope) (line : Line) (words : ℕ) (m : Mnemonic) (o : Operands) (c : Contents) : Type 0 where
  prefix : List Cell
  back : List Cell
  number : ℤ
  value : distance_of scope (pos (65536 + 4 * words)) o.value ≡ Some number
  expansion : Expansion
  expands : expansion_of m o number ≡ Some expansion
  meant : AreMeant expansion
  cells : c.cells ≡ prefix ++ (cells_of line.number expansion ++ back)
  as_many : words ≡ counted (length prefix)
  earlier : All (λ (x : Cell). x.line < line.number) prefix
  later : All (λ (x : Cell). line.number < x.line) back

parted-lines : (scope : Scope) (source : List ℕ) (before : List Line) (line : Line) (after : List Line) (words : ℕ) (m : Mnemonic) (o : Operands) (l : Laid) (c : Contents) → IsText source (before ++ line ∷ after) → IsInstruction source before line words m o
    → all_placed source (before ++ line ∷ after) start_layout ≡ Ok l → all_held scope l.pieces ≡ Ok c → IsPartedText scope line words m o c
parted-lines scope source before line after words m o l c text instruction placed fills =
    let k : HasPiece source before line after words m o l = line-piece source before line after words m o l instruction placed in
    let h : IsParted scope k.begin.pieces k.piece k.later c = held-parted scope k.begin.pieces k.piece k.later c (subst (λ (ps : List Piece). all_held scope ps ≡ Ok c) k.pieces fills) in
    let counts : IsCountedAt 1 before line after = counted-parts 1 before line after (counted-text source (before ++ line ∷ after) text) in
    let here : held scope line (record { in_data = false; words = words; bytes = k.begin.position.bytes }) (statement.Instruction m o) ≡ Ok h.made =
    subst (λ (x : Line). held scope x (record { in_data = false; words = words; bytes = k.begin.position.bytes }) (statement.Instruction m o) ≡ Ok h.made) k.same_line
    (subst (λ (p : Position). held scope k.piece.line p (statement.Instruction m o) ≡ Ok h.made) k.position
    (subst (λ (s : Statement). held scope k.piece.line k.piece.position s ≡ Ok h.made) k.is h.here)) in
    let added : IsAdded scope line words m o h.made = added-instruction scope line words m o (distance_of scope (pos (65536 + 4 * words)) o.value) h.made refl here in
    let registers : HasRegisters o = statement-known source false line.end instruction.statement (statement.Instruction m o) instruction.read in
    let measured : IsMeasured k.begin.position h.earlier = measured-all scope source k.begin.pieces k.begin h.earlier k.steps h.prefix in
    let early : All (IsOf 1 (1 + length k.begin.pieces)) h.earlier.cells =
    lines-cells scope source 1 k.begin.pieces start_layout k.begin h.earlier (subst (AreCounted 1) (sym k.each) counts.prefix) k.steps h.prefix in
    let late : All (IsOf (line.number + 1) (line.number + 1 + length k.later)) h.later.cells =
    lines-cells scope source (line.number + 1) k.later k.end l h.later (subst (AreCounted (line.number + 1)) (sym k.each_later) counts.back) k.onward h.back in
    let as_long : length k.begin.pieces ≡ length before = sym (length-map k.begin.pieces (λ (p : Piece). p.line)) ∙ ap length k.each in
    record {
      prefix = h.earlier.cells;
      back = h.later.cells;
      number = added.number;
      value = added.value;
      expansion = added.expansion;
      expands = added.expands;
      meant = expansion-meant m o added.number added.expansion registers added.expands;
      cells = ap (λ (x : Contents). x.cells) (sym h.whole) ∙ ap (λ (x : List Cell). h.earlier.cells ++ (x ++ h.later.cells)) added.cells;
      as_many = sym k.as_many ∙ measured.words;
      earlier = All-weaker (IsOf 1 (1 + length k.begin.pieces)) (λ (x : Cell). x.line < line.number) (λ (x : Cell) is. omega (arith, is.below, as_long, counts.number)) h.earlier.cells early;
      later = All-weaker (IsOf (line.number + 1) (line.number + 1 + length k.later)) (λ (x : Cell). line.number < x.line) (λ (x : Cell) is. omega (arith, is.from)) h.later.cells late;
    }

-- the listing of what the lines come to
listed-instruction : (source : List ℕ) (before : List Line) (line : Line) (after : List Line) (words : ℕ) (m : Mnemonic) (o : Operands) (listing : List ListingRow) (l : Laid) (c : Contents) → all_placed source (before ++ line ∷ after) start_layout ≡ Ok l
    → length c.cells ≤ 61440 → rows_from 65536 c.cells ≡ listing → IsPartedText (scope_of source l) line words m o c → IsListedInstruction source (before ++ line ∷ after) line words m o listing
listed-instruction source before line after words m o listing l c placed small shows parted =
    let here : List Cell = cells_of line.number parted.expansion in
    let short : length parted.prefix ≤ 61440 = omega (arith, ap length parted.cells, length-append parted.prefix (here ++ parted.back)) in
    let count : length parted.prefix ≡ words = counted-small words (length parted.prefix) parted.as_many short in
    record {
      layout = l;
      placed = placed;
      number = parted.number;
      value = parted.value;
      expansion = parted.expansion;
      expands = parted.expands;
      above = rows_from 65536 parted.prefix;
      rows = rows_from (65536 + 4 * words) here;
      below = rows_from (65536 + 4 * words + 4 * length here) parted.back;
      parted = sym shows ∙ ap (rows_from 65536) parted.cells ∙ rows-append 65536 parted.prefix (here ++ parted.back)
          ∙ ap (λ (n : ℕ). rows_from 65536 parted.prefix ++ rows_from (65536 + 4 * n) (here ++ parted.back)) count
          ∙ ap (λ (x : List ListingRow). rows_from 65536 parted.prefix ++ x) (rows-append (65536 + 4 * words) here parted.back)
          ∙ sym (append_assoc (rows_from 65536 parted.prefix) (rows_from (65536 + 4 * words) here) (rows_from (65536 + 4 * words + 4 * length here) parted.back));
      as_many = length-rows 65536 parted.prefix ∙ count;
      instructions = are_instructions (65536 + 4 * words) line.number parted.expansion parted.meant;
      earlier = rows-lines (λ (n : ℕ). n < line.number) 65536 parted.prefix parted.earlier;
      later = rows-lines (λ (n : ℕ). line.number < n) (65536 + 4 * words + 4 * length here) parted.back parted.later;
    }

-- what the one reading of a source comes to lists its instructions
pub lists-instructions : (source given : List ℕ) (lines : List Line) (image : Program) (listing : List ListingRow) → given ≡ source → IsText source lines
    → ((s : List ℕ) (ls ms : List Line) → IsText s ls → IsText s ms → ls ≡ ms) → assembly given lines ≡ Ok (record { image = image; listing = listing }) → ListsInstructions source listing
lists-instructions source given lines image listing same text one is before line after words m o other instruction =
    let all : List Line = before ++ line ∷ after in
    let wanted : Assembled = record { image = image; listing = listing } in
    let made : assembly source all ≡ Ok wanted =
    subst (λ (ls : List Line). assembly source ls ≡ Ok wanted) (one source lines all text other) (subst (λ (s : List ℕ). assembly s lines ≡ Ok wanted) same is) in
    let a : IsAssembly source all wanted = assembly-is source all wanted made in
    listed-instruction source before line after words m o listing a.layout a.contents a.placed (omega (arith, a.words, a.fits)) (ap (λ (x : Assembled). x.listing) a.made)
    (parted-lines (scope_of source a.layout) source before line after words m o a.layout a.contents other instruction a.placed a.held)

words-rows : (low high at : ℕ) (cells : List Cell) → All (IsOf low high) cells → All (λ (row : ListingRow). row.word < 2 ^ 32) (rows_from at cells)
words-rows low high at [] all = All-nil (λ (row : ListingRow). row.word < 2 ^ 32)
words-rows low high at (c ∷ cells) all =
    All-cons (λ (row : ListingRow). row.word < 2 ^ 32) (record { address = at; word = c.word; line = c.line }) (rows_from (at + 4) cells)
    (All-head (IsOf low high) c cells all).small (words-rows low high (at + 4) cells (All-tail (IsOf low high) c cells all))

-- each listed word is below 2^32
pub words-made : (source : List ℕ) (lines : List Line) (image : Program) (listing : List ListingRow) → IsText source lines → assembly source lines ≡ Ok (record { image = image; listing = listing }) → All (λ (row : ListingRow). row.word < 2 ^ 32) listing
words-made source lines image listing text is =
    let a : IsAssembly source lines (record { image = image; listing = listing }) = assembly-is source lines (record { image = image; listing = listing }) is in
    let all : AreLaid source lines a.layout = lines-laid source lines a.layout a.placed in
    let counts : AreCounted 1 (lines_of a.layout.pieces) = subst (AreCounted 1) (sym all.each) (counted-text source lines text) in
    subst (λ (x : Assembled). All (λ (row : ListingRow). row.word < 2 ^ 32) x.listing) a.made
    (words-rows 1 (1 + length a.layout.pieces) 65536 a.contents.cells
    (lines-cells (scope_of source a.layout) source 1 a.layout.pieces start_layout a.layout a.contents counts all.steps a.held))
