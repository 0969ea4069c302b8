-- The statements of a source's lines. Each goes to the section that the last `.text` or `.data` before it names, after what is
-- there, and a label stands where its line begins. Then what each statement comes to, labels being replaced by their addresses.
use Rattle.std.specs.Prelude.{ℕ, ℤ, pos, negsuc, ◌+◌, ◌*◌, ◌/◌, ◌%◌, ◌||◌, ◌==◌, min, Bool, true, false, if◌then◌else◌, List, [], ◌∷◌, ◌++◌, Option, Some, None, is_some, Result, Ok, Err, length, ◌-◌, ◌+ℤ◌, ◌-ℤ◌, nat_lt, map, replicate}
use Rattle.std.specs.{FinMap.get, FinMap.insert, FinMap.empty, Option.option_map, Option.ok_or}
use Rattle.asm_text.specs.{declared.token.Token.Token, declared.token.Line.Line, declared.token.TokenKind.TokenKind}
use Rattle.asm_statements.specs.{Tokens.and_then, Tokens.text_at, Tokens.number_of, Statements.label_read, Statements.statement_read, declared.statement.Label.Label}
use Rattle.asm_statements.specs.{Expansion.word_of, Expansion.words_taken, Expansion.expansion_of, Expansion.modulo_word, Expansion.instructions_of, declared.operands.Value.Value}
use Rattle.asm_statements.specs.{declared.operands.Value.TheVariants.Below, declared.statement.Statement.Statement, declared.mnemonic.Mnemonic.Mnemonic}
use Rattle.assembler.specs.{Faults.fault_at, Faults.at_line, Labels.SpotsByName, declared.fault.AsmFault.AsmFault, declared.labels.Spot.Spot, declared.layout.Position.Position}
use Rattle.assembler.specs.{declared.layout.Piece.Piece, declared.layout.Layout.Layout, declared.filling.Cell.Cell, declared.fault.Cause.Cause, declared.filling.Output.Output}
use Rattle.asm_statements.specs.{declared.operands.Operands.Operands, declared.expansion.Expansion.Expansion}
use Rattle.machine_model.specs.Images.{bytes_of_words}

-- a length, up to 2^32 - 1: a section of that length is too large in any case
abbrev pub counted : ℕ → ℕ
counted n = min n 4294967295

-- What is there so far: where the next statement goes, where the labels stand, and the statements with their lines and places.
pub record Laid : Type 0 where
  pub position : Position
  pub labels : SpotsByName
  pub pieces : List Piece

-- before the first line: nothing, in text
abbrev pub start_layout : Laid
start_layout = record { position = record { in_data = false; words = 0; bytes = 0 }; labels = empty; pieces = [] }

abbrev pub laid : Layout → Laid
laid l = record { position = l.position; labels = l.labels; pieces = l.pieces.items }

-- where a label stands: how many words of text or bytes of data come before it
abbrev pub spot_of : Position → Spot
spot_of p = record { in_data = p.in_data; offset = if p.in_data then p.bytes else p.words }

-- the numbers among tokens, each with its place
abbrev pub with_number : Option ℤ → ℕ → List (ℤ × ℕ) → List (ℤ × ℕ)
with_number None at numbers = numbers
with_number (Some n) at numbers = (n, at) ∷ numbers

abbrev pub numbers_in : List Token → List (ℤ × ℕ)
numbers_in [] = []
numbers_in (t ∷ ts) = with_number (number_of t.kind) t.start (numbers_in ts)

abbrev pub first_string : TokenKind → List ℕ → List ℕ
first_string (TokenKind.Text bytes) others = bytes
first_string _ others = others

abbrev pub string_in : List Token → List ℕ
string_in [] = []
string_in (t ∷ ts) = first_string t.kind (string_in ts)

-- how many bytes a `.space` of a number has: that many; none, where it is negative, which is refused
abbrev pub space_bytes : ℤ → ℕ
space_bytes (pos n) = n
space_bytes (negsuc n) = 0

-- so many words, as words of text or bytes of data
abbrev pub units_of : ℕ → Bool → ℕ
units_of words in_data = if in_data then 4 * words else words

-- so many zero bytes, as words of text or bytes of data
abbrev pub space_units : ℤ → Bool → ℕ
space_units n in_data = if in_data then space_bytes n else space_bytes n / 4

-- further on by bytes of data, and by words or bytes of the section that statements go to
abbrev pub with_bytes : Position → ℕ → Position
with_bytes p n = record p { bytes = counted (p.bytes + n) }

abbrev pub advanced : Position → ℕ → Position
advanced p n = if p.in_data then with_bytes p n else record p { words = counted (p.words + n) }

abbrev pub within : Position → Bool → Position
within p in_data = record p { in_data = in_data }

-- the position after a statement of a line with these tokens
abbrev pub after : Position → Statement → List Token → Position
after p Statement.Nothing tokens = p
after p Statement.Text tokens = within p false
after p Statement.Data tokens = within p true
after p Statement.Words tokens = advanced p (counted (units_of (length (numbers_in tokens)) p.in_data))
after p Statement.Bytes tokens = with_bytes p (counted (length (numbers_in tokens)))
after p Statement.Ascii tokens = with_bytes p (counted (length (string_in tokens)))
after p (Statement.Space n at) tokens = advanced p (counted (space_units n p.in_data))
after p (Statement.Instruction m o) tokens = advanced p (counted (units_of (words_taken m o) p.in_data))

-- a `.space` is not negative, and in text a number of whole words
abbrev pub is_space : Bool → ℤ → Bool
is_space in_data (pos n) = in_data || (n % 4 == 0)
is_space in_data (negsuc n) = false

abbrev pub space_checked : List ℕ → Line → Bool → Statement → Result (Unit {0}) AsmFault
space_checked source line in_data (Statement.Space n at) = if is_space in_data n then Ok tt else Err (fault_at source line Cause.Range at)
space_checked _ _ _ _ = Ok tt

-- the labels with that of a line, at a position
abbrev pub label_declared : List ℕ → Line → Label → Position → SpotsByName → Result SpotsByName AsmFault
label_declared source line label p labels =
    let name = text_at source label.start label.end in
    if is_some (get labels name) then Err (fault_at source line Cause.DoubleLabel label.start) else Ok (insert labels name (spot_of p))

abbrev pub labelled : List ℕ → Line → Option Label → Position → SpotsByName → Result SpotsByName AsmFault
labelled source line None p labels = Ok labels
labelled source line (Some label) p labels = label_declared source line label p labels

-- a line's statement at a position, and the labels with that of the line, which comes first
abbrev pub parsed : List ℕ → Line → Position → SpotsByName → Result (Statement × SpotsByName) AsmFault
parsed source line p labels =
    and_then (at_line source line Cause.Syntax (label_read source line.tokens)) (λ r.
    and_then (labelled source line r.0 p labels) (λ known.
    and_then (at_line source line Cause.Syntax (statement_read source p.in_data line.end r.1)) (λ s.
    and_then (space_checked source line p.in_data s) (λ _.
    Ok (s, known)))))

-- what is there with a line's statement, and the labels
abbrev pub with_piece : Laid → Line → Statement × SpotsByName → Laid
with_piece l line r = record {
  position = after l.position r.0 line.tokens;
  labels = r.1;
  pieces = l.pieces ++ (record { line = line; position = l.position; statement = r.0 }) ∷ [];
}

-- what is there after all lines, or the first fault
abbrev pub all_placed : List ℕ → List Line → Laid → Result Laid AsmFault
all_placed source [] l = Ok l
all_placed source (line ∷ lines) l = and_then (parsed source line l.position l.labels) (λ r. all_placed source lines (with_piece l line r))

-- what statements come to: the words of text, each with its statement's line, and the bytes of data
pub record Contents : Type 0 where
  pub cells : List Cell
  pub bytes : List ℕ

abbrev pub nothing : Contents
nothing = record { cells = []; bytes = [] }

-- what some statements come to, and others after them
abbrev pub joined : Contents → Contents → Contents
joined c d = record { cells = c.cells ++ d.cells; bytes = c.bytes ++ d.bytes }

abbrev pub shown : Output → Contents
shown output = record { cells = output.cells.items; bytes = output.bytes.items }

-- What replaces labels: the source, where its labels stand, and where data begins.
pub record Scope : Type 0 where
  pub source : List ℕ
  pub labels : SpotsByName
  pub data_base : ℕ

-- the address of a place in a section: text begins at 0x00010000
abbrev pub address_of : ℕ → Spot → ℕ
address_of data_base spot = if spot.in_data then data_base + spot.offset else 65536 + 4 * spot.offset

-- the address of the label whose name the source has from one place up to another
abbrev pub address_named : Scope → ℕ → ℕ → Option ℕ
address_named scope start end = option_map (address_of scope.data_base) (get scope.labels (text_at scope.source start end))

-- what a value is: a number as it is, and a label its distance from an address; none where there is no such label
abbrev pub distance_of : Scope → ℤ → Value → Option ℤ
distance_of scope pc (Value.Number n) = Some n
distance_of scope pc (Value.Above start end n) = option_map (λ at. (pos at +ℤ n) -ℤ pc) (address_named scope start end)
distance_of scope pc (Below start end n) = option_map (λ at. (pos at -ℤ n) -ℤ pc) (address_named scope start end)

-- a byte, from -128 to 255
abbrev pub byte_of : ℤ → Option ℕ
byte_of (pos n) = if nat_lt n 256 then Some n else None
byte_of (negsuc n) = if nat_lt n 128 then Some (255 - n) else None

-- what is there, and what a statement comes to, or its fault
abbrev pub added : Contents → Result Contents AsmFault → Result Contents AsmFault
added c more = and_then more (λ d. Ok (joined c d))

abbrev pub in_bytes : List ℕ → Contents
in_bytes bytes = record { cells = []; bytes = bytes }

-- words of a line, in data as bytes
abbrev pub in_words : Bool → ℕ → List ℕ → Contents
in_words true line words = in_bytes (bytes_of_words words)
in_words false line words = record { cells = map (λ (w : ℕ). record { word = w; line = line }) words; bytes = [] }

-- so many zero bytes of a line, in text as words
abbrev pub in_zeros : Bool → ℕ → ℕ → Contents
in_zeros true line n = in_bytes (replicate n 0)
in_zeros false line n = record { cells = replicate (n / 4) (record { word = 0; line = line }); bytes = [] }

-- numbers as words, and as bytes, or the place of the first that is none
abbrev pub words_of_numbers : List (ℤ × ℕ) → List ℕ
words_of_numbers numbers = map (λ (n : ℤ × ℕ). modulo_word n.0) numbers

abbrev pub bytes_of_numbers : List (ℤ × ℕ) → Result (List ℕ) ℕ
bytes_of_numbers [] = Ok []
bytes_of_numbers (n ∷ ns) = and_then (ok_or (byte_of n.0) n.1) (λ b. and_then (bytes_of_numbers ns) (λ bytes. Ok (b ∷ bytes)))

abbrev pub words_of_expansion : Expansion → List ℕ
words_of_expansion e = map word_of (instructions_of e)

-- the expansion of an instruction with its number, if there is one
abbrev pub instruction_of : List ℕ → Line → Mnemonic → Operands → Option ℤ → Result Expansion AsmFault
instruction_of source line m o None = Err (fault_at source line Cause.UnknownName o.at)
instruction_of source line m o (Some v) = at_line source line Cause.Range (ok_or (expansion_of m o v) o.at)

-- what an instruction with its number comes to, if there is one, and numbers as bytes
abbrev pub instruction_held : List ℕ → Line → Bool → Mnemonic → Operands → Option ℤ → Result Contents AsmFault
instruction_held source line in_data m o v = and_then (instruction_of source line m o v) (λ e. Ok (in_words in_data line.number (words_of_expansion e)))

abbrev pub bytes_held : List ℕ → Line → Result Contents AsmFault
bytes_held source line = and_then (at_line source line Cause.Range (bytes_of_numbers (numbers_in line.tokens))) (λ bytes. Ok (in_bytes bytes))

-- what a line's statement at a position comes to
abbrev pub held : Scope → Line → Position → Statement → Result Contents AsmFault
held scope line p Statement.Nothing = Ok nothing
held scope line p Statement.Text = Ok nothing
held scope line p Statement.Data = Ok nothing
held scope line p Statement.Words = Ok (in_words p.in_data line.number (words_of_numbers (numbers_in line.tokens)))
held scope line p Statement.Bytes = bytes_held scope.source line
held scope line p Statement.Ascii = Ok (in_bytes (string_in line.tokens))
held scope line p (Statement.Space n at) = Ok (in_zeros p.in_data line.number (space_bytes n))
held scope line p (Statement.Instruction m o) =
    instruction_held scope.source line p.in_data m o (distance_of scope (pos (address_of scope.data_base (spot_of p))) o.value)

-- what statements come to, one after the other, or the first fault
abbrev pub all_held : Scope → List Piece → Result Contents AsmFault
all_held scope [] = Ok nothing
all_held scope (p ∷ ps) = and_then (held scope p.line p.position p.statement) (λ c. added c (all_held scope ps))
