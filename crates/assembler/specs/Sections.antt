-- The image and the listing of a source, line by line: what its statements hold, where labels stand, and what the listing tells of the
-- image and of the instructions.
use Rattle.std.specs.Prelude.{◌≡◌, ℕ, ℤ, pos, ◌+◌, ◌*◌, Bool, true, false, if◌then◌else◌, List, [], ◌∷◌, ◌++◌, length, map, replicate, Some, Ok, ◌<◌, All, Option}
use Rattle.machine_model.specs.{Images.Program, Images.bytes_of_words, declared.image.Segment.Segment}
use Rattle.asm_text.specs.{Text.IsText, declared.token.Token.Token, declared.token.Line.Line}
use Rattle.asm_statements.specs.{Statements.label_read, Statements.statement_read, Expansion.word_of, Expansion.expansion_of, Expansion.modulo_word, Expansion.instructions_of}
use Rattle.asm_statements.specs.{declared.expansion.Expansion.Expansion, declared.statement.Label.Label, declared.statement.Statement.Statement}
use Rattle.asm_statements.specs.{declared.mnemonic.Mnemonic.Mnemonic, declared.operands.Operands.Operands}
use Rattle.assembler.specs.Layout.{Laid, start_layout, all_placed, numbers_in, string_in, space_bytes, Scope, address_named, distance_of, byte_of}
use Rattle.assembler.specs.{Assembly.pages, Assembly.scope_of, Assembly.entry_of, Assembly.text_segment, Assembly.data_segments, declared.layout.Piece.Piece}
use Rattle.assembler.specs.declared.listing.ListingRow.{ListingRow}
use Rattle.memory_model.specs.Access.{low_bytes}
use Rattle.formats.specs.{Meaning.Means, declared.instr.Instr.Instr}

-- a statement with its line and place, and the bytes that it holds
pub record Part : Type 0 where
  pub piece : Piece
  pub bytes : List ℕ

abbrev pub lines_of : List Piece → List Line
lines_of pieces = map (λ (p : Piece). p.line) pieces

abbrev pub section_after : Bool → Statement → Bool
section_after in_data Statement.Text = false
section_after in_data Statement.Data = true
section_after in_data s = in_data

-- each statement goes to the section that the last `.text` or `.data` before it names, the first ones to this section
abbrev pub AreIn : Bool → List Piece → Type 0
AreIn in_data [] = Unit {0}
AreIn in_data (p ∷ ps) = (p.position.in_data ≡ in_data) × AreIn (section_after in_data p.statement) ps

-- the bytes that statements hold in text, and in data
abbrev pub text_of : List Part → List ℕ
text_of [] = []
text_of (p ∷ ps) = (if p.piece.position.in_data then [] else p.bytes) ++ text_of ps

abbrev pub data_of : List Part → List ℕ
data_of [] = []
data_of (p ∷ ps) = (if p.piece.position.in_data then p.bytes else []) ++ data_of ps

abbrev pub data_begins : List Part → ℕ
data_begins parts = 65536 + 4096 * pages (length (text_of parts))

-- the address of what stands after some statements in a section: its base, and the bytes of that section before it
abbrev pub address_after : List Part → Bool → List Part → ℕ
address_after parts in_data before = if in_data then data_begins parts + length (data_of before) else 65536 + length (text_of before)

-- the bytes that a line's statement holds at an address
abbrev pub HoldsBytes : Scope → Line → ℕ → Statement → List ℕ → Type 0
HoldsBytes scope line at Statement.Words bytes = bytes ≡ bytes_of_words (map (λ n. modulo_word n.0) (numbers_in line.tokens))
HoldsBytes scope line at Statement.Bytes bytes = map (λ n. byte_of n.0) (numbers_in line.tokens) ≡ map Some bytes
HoldsBytes scope line at Statement.Ascii bytes = bytes ≡ string_in line.tokens
HoldsBytes scope line at (Statement.Space n place) bytes = bytes ≡ replicate (space_bytes n) 0
HoldsBytes scope line at (Statement.Instruction m o) bytes =
    (number : ℤ) × (distance_of scope (pos at) o.value ≡ Some number) × (e : Expansion) × (expansion_of m o number ≡ Some e)
    × (bytes ≡ bytes_of_words (map word_of (instructions_of e)))
HoldsBytes scope line at s bytes = bytes ≡ []

-- The image of a source is the bytes of its statements, one after the other in their sections, with its entry. Each statement holds its
-- bytes at its own address, and a label stands at the address of what comes next in its section.
pub record IsByLines (source : List ℕ) (image : Program) : Type 0 where
  pub layout : Laid
  pub text : IsText source (lines_of layout.pieces)
  pub placed : all_placed source (lines_of layout.pieces) start_layout ≡ Ok layout
  pub sections : AreIn false layout.pieces
  pub parts : List Part
  pub each : map (λ (p : Part). p.piece) parts ≡ layout.pieces
  pub entry : ℕ
  pub starts : entry_of layout ≡ Ok entry
  pub made : image ≡ record { entry = entry; segments = text_segment (text_of parts) ∷ data_segments (data_begins parts) (data_of parts) }
  pub bytes : (before : List Part) (p : Part) (after : List Part) → parts ≡ before ++ p ∷ after
      → HoldsBytes (scope_of source layout) p.piece.line (address_after parts p.piece.position.in_data before) p.piece.statement p.bytes
  pub labels : (before : List Part) (p : Part) (after : List Part) (label : Label) (rest : List Token) → parts ≡ before ++ p ∷ after
      → label_read source p.piece.line.tokens ≡ Ok (Some label, rest)
      → address_named (scope_of source layout) label.start label.end ≡ Some (address_after parts p.piece.position.in_data before)

-- bytes at an address are the listed words, one after the other, each at its own address
abbrev pub AreListed : ℕ → List ℕ → List ListingRow → Type 0
AreListed at bytes [] = bytes ≡ []
AreListed at bytes (row ∷ rows) = (rest : List ℕ) × (bytes ≡ low_bytes 4 row.word ++ rest) × (row.address ≡ at) × AreListed (at + 4) rest rows

-- the first segment of an image is the listed words
abbrev pub IsListedFirst : List Segment → List ListingRow → Type 0
IsListedFirst [] rows = ⊥
IsListedFirst (s ∷ segments) rows = AreListed s.vaddr s.bytes rows

-- A line's statement is an instruction in text, after lines that have so many words of text.
pub record IsInstruction (source : List ℕ) (before : List Line) (line : Line) (words : ℕ) (m : Mnemonic) (o : Operands) : Type 0 where
  pub label : Option Label
  pub statement : List Token
  pub parted : label_read source line.tokens ≡ Ok (label, statement)
  pub read : statement_read source false line.end statement ≡ Ok (Statement.Instruction m o)
  pub layout : Laid
  pub placed : all_placed source before start_layout ≡ Ok layout
  pub in_text : layout.position.in_data ≡ false
  pub as_many : layout.position.words ≡ words

-- rows that stand one after the other from an address, are of one line, and have words that mean these instructions in order
abbrev pub AreInstructions : ℕ → ℕ → List Instr → List ListingRow → Type 0
AreInstructions at number [] rows = rows ≡ []
AreInstructions at number (i ∷ instructions) [] = ⊥
AreInstructions at number (i ∷ instructions) (row ∷ rows) =
    (row.address ≡ at) × (row.line ≡ number) × Means row.word i × AreInstructions (at + 4) number instructions rows

-- A line's instruction is listed. Where the labels stand as all lines place them, it expands to instructions. After a row for each
-- word of text before it come its rows: those instructions from the address there on, and the only rows of the line.
pub record IsListedInstruction (source : List ℕ) (lines : List Line) (line : Line) (words : ℕ) (m : Mnemonic) (o : Operands) (listing : List ListingRow) : Type 0 where
  pub layout : Laid
  pub placed : all_placed source lines start_layout ≡ Ok layout
  pub number : ℤ
  pub value : distance_of (scope_of source layout) (pos (65536 + 4 * words)) o.value ≡ Some number
  pub expansion : Expansion
  pub expands : expansion_of m o number ≡ Some expansion
  pub above : List ListingRow
  pub rows : List ListingRow
  pub below : List ListingRow
  pub parted : listing ≡ above ++ rows ++ below
  pub as_many : length above ≡ words
  pub instructions : AreInstructions (65536 + 4 * words) line.number (instructions_of expansion) rows
  pub earlier : All (λ row. row.line < line.number) above
  pub later : All (λ row. line.number < row.line) below

-- each instruction in the text of a source is listed
abbrev pub ListsInstructions : List ℕ → List ListingRow → Type 0
ListsInstructions source listing =
    (before : List Line) (line : Line) (after : List Line) (words : ℕ) (m : Mnemonic) (o : Operands)
    → IsText source (before ++ line ∷ after) → IsInstruction source before line words m o
    → IsListedInstruction source (before ++ line ∷ after) line words m o listing
