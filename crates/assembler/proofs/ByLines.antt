-- The image of a source, line by line.
use Rattle.std.proofs.Common.{ℕ, ◌≡◌, ◌+◌, ◌*◌, ◌≤◌, Bool, true, false, List, [], ◌∷◌, ◌++◌, length, Result, Ok, Option, Some, refl, sym, ap, ◌∙◌, subst, arith, append_assoc, append-nil, length-append}
use Rattle.std.specs.Prelude.{if◌then◌else◌, map}
use Rattle.std.specs.{Option.option_map, FinMap.get}
use Rattle.machine_model.specs.Images.{Program}
use Rattle.asm_text.specs.{Text.Leads, Text.IsText, declared.token.Token.Token, declared.token.Line.Line}
use Rattle.asm_statements.specs.{Tokens.text_at, Statements.label_read, declared.statement.Label.Label, declared.statement.Statement.Statement}
use Rattle.assembler.specs.{Labels.SpotsByName, declared.layout.Position.Position, declared.layout.Piece.Piece, declared.labels.Spot.Spot, declared.listing.ListingRow.ListingRow}
use Rattle.assembler.specs.Layout.{Laid, counted, start_layout, all_placed, after, spot_of, advanced, with_bytes, space_checked, Contents, Scope, nothing, joined, address_of, held, all_held}
use Rattle.assembler.specs.Assembly.{pages, data_base, scope_of, Assembled, Assembles, image_of, text_segment, data_segments}
use Rattle.assembler.specs.Sections.{Part, section_after, AreIn, text_of, data_of, data_begins, address_after, HoldsBytes, IsByLines}
use Rattle.asm_statements.specs.declared.statement.Statement.TheVariants as statement
use Rattle.asm_statements.proofs.Registers.{statement-known}
use Rattle.assembler.proofs.{Profiles.text_length, StatementBytes.text_bytes, StatementBytes.bytes-append, StatementBytes.IsHolding, StatementBytes.statement-holding}
use Rattle.assembler.proofs.{LabelPlaces.all-stay, LabelPlaces.label-found, Sizes.IsMeasured, Sizes.measured-statement, Sizes.same_contents}
use Rattle.assembler.proofs.{Pieces.IsPlaced, Pieces.IsHeld, Pieces.held-is, Pieces.AreLaid, Pieces.lines-laid, Pieces.joined_assoc, Assemblies.IsAssembly, Assemblies.assembly-is}

-- ---- sections

section-advanced : (p : Position) (n : ℕ) → (advanced p n).in_data ≡ p.in_data
section-advanced p n = by_section p.in_data refl
  where
    by_section : (b : Bool) → p.in_data ≡ b → (if b then with_bytes p n else record p { words = counted (p.words + n) }).in_data ≡ p.in_data
    by_section true is = refl
    by_section false is = refl

-- a position goes on in the section after its statement
section-after : (p : Position) (s : Statement) (tokens : List Token) → (after p s tokens).in_data ≡ section_after p.in_data s
section-after p statement.Nothing tokens = refl
section-after p statement.Text tokens = refl
section-after p statement.Data tokens = refl
section-after p statement.Words tokens = section-advanced p _
section-after p statement.Bytes tokens = refl
section-after p statement.Ascii tokens = refl
section-after p (statement.Space n at) tokens = section-advanced p _
section-after p (statement.Instruction m o) tokens = section-advanced p _

pieces-in : (source : List ℕ) (ps : List Piece) (l m : Laid) → Leads (IsPlaced source) l ps m → AreIn l.position.in_data ps
pieces-in source [] l m steps = tt
pieces-in source (p ∷ ps) l m steps =
    let step : IsPlaced source l p steps.0 = steps.1 in
    let here : p.position.in_data ≡ l.position.in_data = ap (λ (q : Position). q.in_data) step.at in
    let next : steps.0.position.in_data ≡ section_after l.position.in_data p.statement =
    ap (λ (q : Position). q.in_data) (sym step.next) ∙ section-after p.position p.statement p.line.tokens ∙ ap (λ (b : Bool). section_after b p.statement) here in
    (here, subst (λ (b : Bool). AreIn b ps) next (pieces-in source ps steps.0 m steps.2))

-- ---- what statements hold

-- where statements are, and what those before hold
record Reached : Type 0 where
  laid : Laid
  contents : Contents

-- from what is there before a statement to what is there after it
record IsStep (source : List ℕ) (scope : Scope) (a : Reached) (p : Part) (b : Reached) : Type 0 where
  placed : IsPlaced source a.laid p.piece b.laid
  holds : HoldsBytes scope p.piece.line (address_of scope.data_base (spot_of a.laid.position)) p.piece.statement p.bytes
  text : text_bytes b.contents ≡ text_bytes a.contents ++ (if p.piece.position.in_data then [] else p.bytes)
  data_bytes : b.contents.bytes ≡ a.contents.bytes ++ (if p.piece.position.in_data then p.bytes else [])
  measured : IsMeasured a.laid.position a.contents → IsMeasured b.laid.position b.contents

record HasParts (source : List ℕ) (scope : Scope) (ps : List Piece) (a b : Reached) : Type 0 where
  parts : List Part
  each : map (λ (p : Part). p.piece) parts ≡ ps
  steps : Leads (IsStep source scope) a parts b

step-of : (source : List ℕ) (scope : Scope) (p : Piece) (l m : Laid) (c d : Contents) → scope.source ≡ source → IsPlaced source l p m → (h : IsHolding scope p.line p.position p.statement d) → held scope p.line p.position p.statement ≡ Ok d
    → IsStep source scope (record { laid = l; contents = c }) (record { piece = p; bytes = h.bytes }) (record { laid = m; contents = joined c d })
step-of source scope p l m c d same step h is = record {
  placed = step;
  holds = subst (λ (q : Position). HoldsBytes scope p.line (address_of scope.data_base (spot_of q)) p.statement h.bytes) step.at h.holds;
  text = bytes-append c.cells d.cells ∙ ap (λ (l : List ℕ). text_bytes c ++ l) h.text;
  data_bytes = ap (λ (l : List ℕ). c.bytes ++ l) h.data_bytes;
  measured = λ measured.
      subst (λ (q : Position). IsMeasured q (joined c d)) step.next
      (measured-statement scope p.line p.position p.statement c d (subst (λ (q : Position). IsMeasured q c) (sym step.at) measured) is);
}

has-parts : (source : List ℕ) (scope : Scope) (ps : List Piece) (l m : Laid) (c d : Contents) → scope.source ≡ source → Leads (IsPlaced source) l ps m → all_held scope ps ≡ Ok d
    → HasParts source scope ps (record { laid = l; contents = c }) (record { laid = m; contents = joined c d })
has-parts source scope [] l m c d same steps is =
    let alone : c ≡ joined c nothing = (λ i. record { cells = sym (append-nil c.cells) i; bytes = sym (append-nil c.bytes) i }) in
    let none : c ≡ joined c d = alone ∙ ap (joined c) (same_contents nothing d is) in
    record { parts = []; each = refl; steps = (λ i. record { laid = steps i; contents = none i }) }
has-parts source scope (p ∷ ps) l m c d same steps is =
    let h : IsHeld scope p ps d = held-is scope p ps d is in
    let step : IsPlaced source l p steps.0 = steps.1 in
    let holding : IsHolding scope p.line p.position p.statement h.first =
    statement-holding scope p.line p.position p.statement h.first (statement-known source p.position.in_data p.line.end step.rest p.statement step.body)
    (subst (λ (s : List ℕ). space_checked s p.line p.position.in_data p.statement ≡ Ok tt) (sym same) step.checked) h.here in
    let rest : HasParts source scope ps (record { laid = steps.0; contents = joined c h.first }) (record { laid = m; contents = joined (joined c h.first) h.more }) =
    has-parts source scope ps steps.0 m (joined c h.first) h.more same steps.2 h.onward in
    let whole : joined (joined c h.first) h.more ≡ joined c d = joined_assoc c h.first h.more ∙ ap (joined c) h.whole in
    record {
      parts = record { piece = p; bytes = holding.bytes } ∷ rest.parts;
      each = (λ i. p ∷ rest.each i);
      steps = (
        record { laid = steps.0; contents = joined c h.first },
        step-of source scope p l steps.0 c h.first same step holding h.here,
        subst (λ (x : Contents). Leads (IsStep source scope) (record { laid = steps.0; contents = joined c h.first }) rest.parts (record { laid = m; contents = x })) whole rest.steps,
      );
    }

module _ (source : List ℕ) (scope : Scope) where
  steps-text : (a : Reached) (ps : List Part) (b : Reached) → Leads (IsStep source scope) a ps b → text_bytes b.contents ≡ text_bytes a.contents ++ text_of ps
  steps-text a [] b steps = ap (λ (x : Reached). text_bytes x.contents) (sym steps) ∙ sym (append-nil (text_bytes a.contents))
  steps-text a (p ∷ ps) b steps =
      let step : IsStep source scope a p steps.0 = steps.1 in
      steps-text steps.0 ps b steps.2 ∙ ap (λ (l : List ℕ). l ++ text_of ps) step.text ∙ append_assoc (text_bytes a.contents) (if p.piece.position.in_data then [] else p.bytes) (text_of ps)

  steps-data : (a : Reached) (ps : List Part) (b : Reached) → Leads (IsStep source scope) a ps b → b.contents.bytes ≡ a.contents.bytes ++ data_of ps
  steps-data a [] b steps = ap (λ (x : Reached). x.contents.bytes) (sym steps) ∙ sym (append-nil a.contents.bytes)
  steps-data a (p ∷ ps) b steps =
      let step : IsStep source scope a p steps.0 = steps.1 in
      steps-data steps.0 ps b steps.2 ∙ ap (λ (l : List ℕ). l ++ data_of ps) step.data_bytes ∙ append_assoc a.contents.bytes (if p.piece.position.in_data then p.bytes else []) (data_of ps)

  steps-measured : (a : Reached) (ps : List Part) (b : Reached) → IsMeasured a.laid.position a.contents → Leads (IsStep source scope) a ps b → IsMeasured b.laid.position b.contents
  steps-measured a [] b m steps = subst (λ (x : Reached). IsMeasured x.laid.position x.contents) steps m
  steps-measured a (p ∷ ps) b m steps =
      let step : IsStep source scope a p steps.0 = steps.1 in
      steps-measured steps.0 ps b (step.measured m) steps.2

  steps-placed : (a : Reached) (ps : List Part) (b : Reached) → Leads (IsStep source scope) a ps b → Leads (IsPlaced source) a.laid (map (λ (p : Part). p.piece) ps) b.laid
  steps-placed a [] b steps = ap (λ (x : Reached). x.laid) steps
  steps-placed a (p ∷ ps) b steps =
      let step : IsStep source scope a p steps.0 = steps.1 in
      (steps.0.laid, step.placed, steps-placed steps.0 ps b steps.2)

  -- where a statement begins and ends among others
  record IsBetween (a : Reached) (before : List Part) (p : Part) (after : List Part) (b : Reached) : Type 0 where
    begin : Reached
    end : Reached
    prefix : Leads (IsStep source scope) a before begin
    here : IsStep source scope begin p end
    back : Leads (IsStep source scope) end after b

  steps-between : (a : Reached) (before : List Part) (p : Part) (after : List Part) (b : Reached) → Leads (IsStep source scope) a (before ++ p ∷ after) b → IsBetween a before p after b
  steps-between a [] p after b steps = record { begin = a; end = steps.0; prefix = refl; here = steps.1; back = steps.2 }
  steps-between a (q ∷ before) p after b steps =
      let rest : IsBetween steps.0 before p after b = steps-between steps.0 before p after b steps.2 in
      record { begin = rest.begin; end = rest.end; prefix = (steps.0, steps.1, rest.prefix); here = rest.here; back = rest.back }

-- ---- places

fitting : (w len : ℕ) → w ≡ counted len → len ≤ 245760 → w ≡ len
fitting w len e small = omega arith

-- the address of a place, by the bytes before it
place-of : (b : Bool) (words bytes base begins : ℕ) (text data_bytes : List ℕ) → base ≡ begins → 4 * words ≡ length text → bytes ≡ length data_bytes
    → address_of base (record { in_data = b; offset = if b then bytes else words }) ≡ (if b then begins + length data_bytes else 65536 + length text)
place-of true words bytes base begins text data_bytes e p q = omega arith
place-of false words bytes base begins text data_bytes e p q = omega arith

-- a label's address, by the place where it stands
named-at : (base at : ℕ) (labels : SpotsByName) (name : List ℕ) (spot : Spot) → get labels name ≡ Some spot → address_of base spot ≡ at → option_map (λ (s : Spot). address_of base s) (get labels name) ≡ Some at
named-at base at labels name spot found is = ap (λ (o : Option Spot). option_map (λ (s : Spot). address_of base s) o) found ∙ ap (λ (n : ℕ). Some n) is

-- a line has one label
same_label : (source : List ℕ) (p : Piece) (a b : Option Label) (xs ys : List Token) → label_read source p.line.tokens ≡ Ok (a, xs) → label_read source p.line.tokens ≡ Ok (b, ys) → a ≡ b
same_label source p a b xs ys is js = let same : ◌≡◌ {A = Result (Option Label × List Token) ℕ} (Ok (a, xs)) (Ok (b, ys)) = sym is ∙ js in
    let pair : ◌≡◌ {A = Option Label × List Token} (a, xs) (b, ys) = cc in
    ap (λ (r : Option Label × List Token). r.0) pair

abbrev first_reached : Reached
first_reached = record { laid = start_layout; contents = nothing }

-- what is known of all statements
record AreWhole (source : List ℕ) (scope : Scope) (parts : List Part) (b : Reached) : Type 0 where
  steps : Leads (IsStep source scope) first_reached parts b
  few : length b.contents.cells ≤ 61440
  small : length b.contents.bytes ≤ 245760
  base : scope.data_base ≡ data_begins parts

module _ (source : List ℕ) (scope : Scope) (parts : List Part) (b : Reached) (whole : AreWhole source scope parts b) (before : List Part) (p : Part) (after : List Part) (parted : parts ≡ before ++ p ∷ after) where
  between : IsBetween source scope first_reached before p after b
  between = steps-between source scope first_reached before p after b (subst (λ (ps : List Part). Leads (IsStep source scope) first_reached ps b) parted whole.steps)

  begin_measured : IsMeasured between.begin.laid.position between.begin.contents
  begin_measured = steps-measured source scope first_reached before between.begin (record { words = refl; bytes = refl }) between.prefix

  begin_text : text_bytes between.begin.contents ≡ text_of before
  begin_text = steps-text source scope first_reached before between.begin between.prefix

  begin_data : between.begin.contents.bytes ≡ data_of before
  begin_data = steps-data source scope first_reached before between.begin between.prefix

  -- what is there at the line is no more than at the end
  few_cells : length between.begin.contents.cells ≤ 61440
  few_cells =
      let onward : text_bytes b.contents ≡ text_bytes between.begin.contents ++ text_of (p ∷ after) = steps-text source scope between.begin (p ∷ after) b (between.end, between.here, between.back) in
      omega (arith, whole.few, ap length onward, length-append (text_bytes between.begin.contents) (text_of (p ∷ after)), text_length b.contents.cells, text_length between.begin.contents.cells)

  few_bytes : length between.begin.contents.bytes ≤ 245760
  few_bytes =
      let onward : b.contents.bytes ≡ between.begin.contents.bytes ++ data_of (p ∷ after) = steps-data source scope between.begin (p ∷ after) b (between.end, between.here, between.back) in
      omega (arith, whole.small, ap length onward, length-append between.begin.contents.bytes (data_of (p ∷ after)))

  here_at : p.piece.position ≡ between.begin.laid.position
  here_at = between.here.placed.at

  place : address_of scope.data_base (spot_of between.begin.laid.position) ≡ address_after parts p.piece.position.in_data before
  place =
      let at : Position = between.begin.laid.position in
      let words : at.words ≡ length between.begin.contents.cells = fitting at.words (length between.begin.contents.cells) begin_measured.words (omega (arith, few_cells)) in
      let bytes : at.bytes ≡ length between.begin.contents.bytes = fitting at.bytes (length between.begin.contents.bytes) begin_measured.bytes few_bytes in
      subst (λ (q : Position). address_of scope.data_base (spot_of between.begin.laid.position) ≡ address_after parts q.in_data before) (sym here_at)
      (place-of at.in_data at.words at.bytes scope.data_base (data_begins parts) (text_of before) (data_of before) whole.base
      (omega (arith, words, text_length between.begin.contents.cells, ap length begin_text)) (bytes ∙ ap length begin_data))

  part-holds : HoldsBytes scope p.piece.line (address_after parts p.piece.position.in_data before) p.piece.statement p.bytes
  part-holds = subst (λ (at : ℕ). HoldsBytes scope p.piece.line at p.piece.statement p.bytes) place between.here.holds

  -- a label stands where its line begins
  part-label : (label : Label) (rest : List Token) → label_read source p.piece.line.tokens ≡ Ok (Some label, rest) → get b.laid.labels (text_at source label.start label.end) ≡ Some (spot_of between.begin.laid.position)
  part-label label rest read =
      let step : IsPlaced source between.begin.laid p.piece between.end.laid = between.here.placed in
      all-stay source (map (λ (p : Part). p.piece) after) between.end.laid b.laid (steps-placed source scope between.end after b between.back) (text_at source label.start label.end) (spot_of between.begin.laid.position)
      (label-found source p.piece label between.begin.laid between.end.laid step (same_label source p.piece step.label (Some label) step.rest rest step.prefix read))

-- ---- the whole

-- the image of what the sections hold
image-parts : (parts : List Part) (entry : ℕ) (c : Contents) → text_bytes c ≡ text_of parts → c.bytes ≡ data_of parts
    → image_of entry c ≡ record { entry = entry; segments = text_segment (text_of parts) ∷ data_segments (data_begins parts) (data_of parts) }
image-parts parts entry c text data_is =
    let begins : data_base (length c.cells) ≡ data_begins parts = ap (λ (n : ℕ). 65536 + 4096 * pages n) (sym (text_length c.cells) ∙ ap length text) in
    (λ i. record { entry = entry; segments = text_segment (text i) ∷ data_segments (begins i) (data_is i) })

-- an image that a source assembles to is the one of its lines
pub by-lines : (source : List ℕ) (image : Program) (listing : List ListingRow) → Assembles source image listing → IsByLines source image
by-lines source image listing s =
    let a : IsAssembly source s.lines (record { image = image; listing = listing }) = assembly-is source s.lines (record { image = image; listing = listing }) s.made in
    let laid : AreLaid source s.lines a.layout = lines-laid source s.lines a.layout a.placed in
    let scope : Scope = scope_of source a.layout in
    let b : Reached = record { laid = a.layout; contents = a.contents } in
    let all : HasParts source scope a.layout.pieces first_reached b = has-parts source scope a.layout.pieces start_layout a.layout nothing a.contents refl laid.steps a.held in
    let text_is : text_bytes a.contents ≡ text_of all.parts = steps-text source scope first_reached all.parts b all.steps in
    let data_is : a.contents.bytes ≡ data_of all.parts = steps-data source scope first_reached all.parts b all.steps in
    let base : data_base a.layout.position.words ≡ data_begins all.parts = ap (λ (n : ℕ). 65536 + 4096 * pages n) (omega (arith, a.words, text_length a.contents.cells, ap length text_is)) in
    let few : length a.contents.cells ≤ 61440 = omega (arith, a.words, a.fits) in
    let small : length a.contents.bytes ≤ 245760 = omega (arith, a.bytes, a.fits) in
    let whole : AreWhole source scope all.parts b = record { steps = all.steps; few = few; small = small; base = base } in
    record {
      layout = a.layout;
      text = subst (λ (ls : List Line). IsText source ls) (sym laid.each) s.text;
      placed = subst (λ (ls : List Line). all_placed source ls start_layout ≡ Ok a.layout) (sym laid.each) a.placed;
      sections = pieces-in source a.layout.pieces start_layout a.layout laid.steps;
      parts = all.parts;
      each = all.each;
      entry = a.entry;
      starts = a.starts;
      made = ap (λ (x : Assembled). x.image) (sym a.made) ∙ image-parts all.parts a.entry a.contents text_is data_is;
      bytes = λ before p after parted. part-holds source scope all.parts b whole before p after parted;
      labels = λ before p after label rest parted read.
          named-at scope.data_base (address_after all.parts p.piece.position.in_data before) a.layout.labels (text_at source label.start label.end)
          (spot_of (between source scope all.parts b whole before p after parted).begin.laid.position)
          (part-label source scope all.parts b whole before p after parted label rest read) (place source scope all.parts b whole before p after parted);
    }
