-- The image and the listing of a source, or its first fault.
use Rattle.std.specs.Prelude.{◌≡◌, ℕ, ◌+◌, ◌*◌, ◌/◌, ◌%◌, ◌≤◌, ◌<◌, ◌&&◌, true, false, not, nat_lt, if◌then◌else◌, List, [], ◌∷◌, length, codes, Option, Some, None, Result, Ok, Err}
use Rattle.std.specs.FinMap.{get}
use Rattle.machine_model.specs.{Images.Program, Images.bytes_of_words, declared.image.Segment.Segment}
use Rattle.asm_text.specs.{Text.IsText, Text.FirstFault, declared.token.Line.Line}
use Rattle.asm_statements.specs.Tokens.{and_then}
use Rattle.assembler.specs.{Faults.whole, Layout.Laid, Layout.start_layout, Layout.all_placed, Layout.Scope, Layout.Contents, Layout.all_held, declared.fault.AsmFault.AsmFault}
use Rattle.assembler.specs.{declared.fault.Cause.TheVariants.Syntax, declared.fault.Cause.TheVariants.NoStart, declared.fault.Cause.TheVariants.TooLarge, declared.labels.Spot.Spot}
use Rattle.assembler.specs.{declared.filling.Cell.Cell, declared.listing.ListingRow.ListingRow}

-- how many pages of 4,096 bytes so many bytes take
abbrev pub pages : ℕ → ℕ
pages n = (n + 4095) / 4096

-- where data begins after so many words of text: at the next page
abbrev pub data_base : ℕ → ℕ
data_base words = 65536 + 4096 * pages (4 * words)

-- the address of `_start`, where it stands before a word of text
abbrev pub start_at : Option Spot → ℕ → Result ℕ AsmFault
start_at None words = Err (whole NoStart)
start_at (Some spot) words = if not spot.in_data && nat_lt spot.offset words then Ok (65536 + 4 * spot.offset) else Err (whole NoStart)

abbrev pub IsTextAddress : ℕ → ℕ → Type 0
IsTextAddress words at = (at % 4 ≡ 0) × (65536 ≤ at) × (at < 65536 + 4 * words)

-- where the program begins: text and data have at most 60 pages, and `_start` stands in text
abbrev pub entry_of : Laid → Result ℕ AsmFault
entry_of l =
    if nat_lt 60 (pages (4 * l.position.words) + pages l.position.bytes) then Err (whole TooLarge)
    else start_at (get l.labels (codes "_start")) l.position.words

-- the listing: each word of text with its address and the line of its statement
abbrev pub rows_from : ℕ → List Cell → List ListingRow
rows_from at [] = []
rows_from at (c ∷ cells) = (record { address = at; word = c.word; line = c.line }) ∷ rows_from (at + 4) cells

abbrev pub words_of : List Cell → List ℕ
words_of [] = []
words_of (c ∷ cells) = c.word ∷ words_of cells

-- text, which may be read and executed, and data, if there is any, at the next page, which may be read and written
abbrev pub text_segment : List ℕ → Segment
text_segment bytes = record { vaddr = 65536; memsz = length bytes; rights = record { read = true; write = false; execute = true }; bytes = bytes }

abbrev pub data_segment : ℕ → List ℕ → Segment
data_segment at bytes = record { vaddr = at; memsz = length bytes; rights = record { read = true; write = true; execute = false }; bytes = bytes }

abbrev pub data_segments : ℕ → List ℕ → List Segment
data_segments at [] = []
data_segments at (b ∷ bytes) = data_segment at (b ∷ bytes) ∷ []

abbrev pub image_of : ℕ → Contents → Program
image_of entry c = record { entry = entry; segments = text_segment (bytes_of_words (words_of c.cells)) ∷ data_segments (data_base (length c.cells)) c.bytes }

pub record Assembled : Type 0 where
  pub image : Program
  pub listing : List ListingRow

abbrev pub scope_of : List ℕ → Laid → Scope
scope_of source l = record { source = source; labels = l.labels; data_base = data_base l.position.words }

-- What the lines of a source come to, or their first fault: the statements, where the program begins, what the statements hold.
abbrev pub assembly : List ℕ → List Line → Result Assembled AsmFault
assembly source lines =
    and_then (all_placed source lines start_layout) (λ l.
    and_then (entry_of l) (λ entry.
    and_then (all_held (scope_of source l) l.pieces) (λ c.
    Ok (record { image = image_of entry c; listing = rows_from 65536 c.cells }))))

abbrev pub source_limit : ℕ
source_limit = 1048576

-- A source has this image and this listing: it is not too long, and its lines come to them.
pub record Assembles (source : List ℕ) (image : Program) (listing : List ListingRow) : Type 0 where
  pub fits : length source ≤ source_limit
  pub lines : List Line
  pub text : IsText source lines
  pub made : assembly source lines ≡ Ok (record { image = image; listing = listing })

-- A source has this first fault: it is too long; or its tokens have a fault; or its lines come to this one.
pub data FaultOf (source : List ℕ) (fault : AsmFault) : Type 0 where
  too_long : source_limit < length source → fault ≡ whole TooLarge → FaultOf source fault
  in_tokens : length source ≤ source_limit → FirstFault source fault.line fault.column → fault.why ≡ Syntax → FaultOf source fault
  in_lines : length source ≤ source_limit → (lines : List Line) → IsText source lines → assembly source lines ≡ Err fault → FaultOf source fault
