-- What the lines of a source come to, and its image and listing, or its first fault.
use Rattle.std.proofs.Common.{◌≡◌, ◌≢◌, ℕ, ◌+◌, ◌*◌, ◌≤◌, List, [], ◌∷◌, length, Result, Ok, Err, refl, subst, arith}
use Rattle.std.proofs.lemmas.Bool.Decides.{nat_tests}
use Rattle.machine_model.specs.Images.{Program, bytes_of_words}
use Rattle.asm_text.specs.{Text.IsText, declared.token.Line.Line}
use Rattle.asm_statements.specs.Tokens.{and_then}
use Rattle.assembler.specs.{Faults.out_of_memory, Layout.Laid, Layout.counted, Layout.start_layout, Layout.all_placed, Layout.Contents, Layout.Scope, Layout.all_held}
use Rattle.assembler.specs.Assembly.{pages, scope_of, entry_of, Assembled, image_of, assembly, words_of, rows_from, source_limit, FaultOf, in_lines}
use Rattle.assembler.specs.{Sections.AreListed, Sections.IsListedFirst, declared.fault.AsmFault.AsmFault, declared.filling.Cell.Cell, declared.listing.ListingRow.ListingRow}
use Rattle.assembler.specs.declared.layout.Position.{Position}
use Rattle.asm_statements.proofs.Stepping.{and_then-ok}
use Rattle.assembler.proofs.{Sizes.IsMeasured, Pieces.lines-laid, Pieces.measured-all}

fitting : (w len : ℕ) → w ≡ counted len → w ≤ 245760 → len ≡ w
fitting w len e small = omega arith

-- a position that fits the image is what the sections hold
measured-fits : (p : Position) (c : Contents) → IsMeasured p c → pages (4 * p.words) + pages p.bytes ≤ 60 → (length c.cells ≡ p.words) × (length c.bytes ≡ p.bytes)
measured-fits p c m fits = (fitting p.words (length c.cells) m.words (omega arith), fitting p.bytes (length c.bytes) m.bytes (omega arith))

-- the sections are as long as their statements were counted
pub sized : (scope : Scope) (source : List ℕ) (lines : List Line) (l : Laid) (c : Contents) → all_placed source lines start_layout ≡ Ok l → all_held scope l.pieces ≡ Ok c → pages (4 * l.position.words) + pages l.position.bytes ≤ 60
    → (length c.cells ≡ l.position.words) × (length c.bytes ≡ l.position.bytes)
sized scope source lines l c is js fits = measured-fits l.position c (measured-all scope source l.pieces l c (lines-laid source lines l is).steps js) fits

-- text and data that fit have no more pages than an image
entry-fits : (l : Laid) (entry : ℕ) → entry_of l ≡ Ok entry → pages (4 * l.position.words) + pages l.position.bytes ≤ 60
entry-fits l entry is = grind (arith, nat_tests)

pub same_assembled : (a b : Assembled) → ◌≡◌ {A = Result Assembled AsmFault} (Ok a) (Ok b) → a ≡ b
same_assembled a b is = cc

abbrev assembled : ℕ → Contents → Assembled
assembled entry c = record { image = image_of entry c; listing = rows_from 65536 c.cells }

-- what an image and a listing show
pub record IsAssembly (source : List ℕ) (lines : List Line) (a : Assembled) : Type 0 where
  pub layout : Laid
  pub placed : all_placed source lines start_layout ≡ Ok layout
  pub entry : ℕ
  pub starts : entry_of layout ≡ Ok entry
  pub contents : Contents
  pub held : all_held (scope_of source layout) layout.pieces ≡ Ok contents
  pub made : assembled entry contents ≡ a
  pub fits : pages (4 * layout.position.words) + pages layout.position.bytes ≤ 60
  pub words : length contents.cells ≡ layout.position.words
  pub bytes : length contents.bytes ≡ layout.position.bytes

abbrev made_of : ℕ → Contents → Result Assembled AsmFault
made_of entry c = Ok (assembled entry c)

abbrev assembly_after : List ℕ → Laid → ℕ → Result Assembled AsmFault
assembly_after source l entry = and_then (all_held (scope_of source l) l.pieces) (made_of entry)

abbrev assembly_from : List ℕ → Laid → Result Assembled AsmFault
assembly_from source l = and_then (entry_of l) (assembly_after source l)

pub assembly-is : (source : List ℕ) (lines : List Line) (a : Assembled) → assembly source lines ≡ Ok a → IsAssembly source lines a
assembly-is source lines a is =
    let (l, placed, is2) = and_then-ok (all_placed source lines start_layout) (assembly_from source) a is in
    let (entry, starts, is3) = and_then-ok (entry_of l) (assembly_after source l) a is2 in
    let (c, held, is4) = and_then-ok (all_held (scope_of source l) l.pieces) (made_of entry) a is3 in
    let fits : pages (4 * l.position.words) + pages l.position.bytes ≤ 60 = entry-fits l entry starts in
    let size = sized (scope_of source l) source lines l c placed held fits in
    record {
      layout = l;
      placed = placed;
      entry = entry;
      starts = starts;
      contents = c;
      held = held;
      made = same_assembled (assembled entry c) a is4;
      fits = fits;
      words = size.0;
      bytes = size.1;
    }

-- a fault of the lines is one of the source
pub line-fault : (source given : List ℕ) (lines : List Line) (f : AsmFault) → given ≡ source → length source ≤ source_limit → IsText source lines → (f ≢ out_of_memory → assembly given lines ≡ Err f)
    → f ≢ out_of_memory → FaultOf source f
line-fault source given lines f same fits text refused differs = in_lines fits lines text (subst (λ (s : List ℕ). assembly s lines ≡ Err f) same (refused differs))

listing-of : (at : ℕ) (cells : List Cell) → AreListed at (bytes_of_words (words_of cells)) (rows_from at cells)
listing-of at [] = refl
listing-of at (c ∷ cells) = (bytes_of_words (words_of cells), refl, refl, listing-of (at + 4) cells)

-- what the lines come to is listed
pub listed-made : (source : List ℕ) (lines : List Line) (image : Program) (listing : List ListingRow) → assembly source lines ≡ Ok (record { image = image; listing = listing }) → IsListedFirst image.segments listing
listed-made source lines image listing is =
    let a : IsAssembly source lines (record { image = image; listing = listing }) = assembly-is source lines (record { image = image; listing = listing }) is in
    subst (λ (x : Assembled). IsListedFirst x.image.segments x.listing) a.made (listing-of 65536 a.contents.cells)
