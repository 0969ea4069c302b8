-- The bytes that a statement comes to in its section.
use Rattle.std.proofs.Common.{ℕ, ℤ, pos, negsuc, suc, zero, ◌≡◌, ◌*◌, ◌/◌, Bool, true, false, List, [], ◌∷◌, ◌++◌, replicate, Result, Ok, Err, Option, Some, None, refl, sym, ap, ◌∙◌, subst, arith, append_assoc}
use Rattle.std.specs.Prelude.{map, if◌then◌else◌}
use Rattle.std.specs.Option.{ok_or}
use Rattle.std.proofs.lemmas.Bool.Decides.{nat_tests}
use Rattle.memory_model.specs.Access.{low_bytes}
use Rattle.machine_model.specs.Images.{bytes_of_words}
use Rattle.asm_text.specs.declared.token.Line.{Line}
use Rattle.asm_statements.specs.{Tokens.and_then, Expansion.expansion_of, declared.mnemonic.Mnemonic.Mnemonic, declared.operands.Operands.Operands}
use Rattle.assembler.specs.{Faults.at_line, Faults.fault_at, Assembly.words_of, Sections.HoldsBytes, declared.fault.AsmFault.AsmFault, declared.fault.Cause.TheVariants.Range}
use Rattle.assembler.specs.Layout.{numbers_in, string_in, space_bytes, spot_of, is_space, space_checked, Contents, Scope, nothing, in_bytes, in_words, in_zeros, words_of_numbers, bytes_of_numbers, words_of_expansion, byte_of, address_of, distance_of, instruction_held, bytes_held, held}
use Rattle.assembler.specs.{declared.layout.Position.Position, declared.filling.Cell.Cell}
use Rattle.asm_statements.specs.{declared.expansion.Expansion.Expansion, declared.statement.Statement.Statement}
use Rattle.asm_statements.specs.declared.statement.Statement.TheVariants as statement
use Rattle.asm_statements.proofs.{Stepping.and_then-ok, Stepping.ok_or-ok, Registers.IsKnown}
use Rattle.assembler.proofs.{Stepping.at_line-ok, Sizes.same_contents}

-- the bytes of the words of text
abbrev pub text_bytes : Contents → List ℕ
text_bytes c = bytes_of_words (words_of c.cells)

pub bytes-append : (xs ys : List Cell) → bytes_of_words (words_of (xs ++ ys)) ≡ bytes_of_words (words_of xs) ++ bytes_of_words (words_of ys)
bytes-append [] ys = refl
bytes-append (x ∷ xs) ys = ap (λ (l : List ℕ). low_bytes 4 x.word ++ l) (bytes-append xs ys) ∙ sym (append_assoc (low_bytes 4 x.word) (bytes_of_words (words_of xs)) (bytes_of_words (words_of ys)))

-- these bytes in one section, and none in the other
record IsInSection (in_data : Bool) (bytes : List ℕ) (d : Contents) : Type 0 where
  text : text_bytes d ≡ if in_data then [] else bytes
  data_bytes : d.bytes ≡ if in_data then bytes else []

-- ---- each kind of statement

nothing-in : (b : Bool) → IsInSection b [] nothing
nothing-in true = record { text = refl; data_bytes = refl }
nothing-in false = record { text = refl; data_bytes = refl }

words-cells : (line : ℕ) (words : List ℕ) → words_of (in_words false line words).cells ≡ words
words-cells line [] = refl
words-cells line (w ∷ words) = ap (λ (l : List ℕ). w ∷ l) (words-cells line words)

words-in : (b : Bool) (line : ℕ) (words : List ℕ) → IsInSection b (bytes_of_words words) (in_words b line words)
words-in true line words = record { text = refl; data_bytes = refl }
words-in false line words = record { text = ap bytes_of_words (words-cells line words); data_bytes = refl }

zero-bytes : (k line : ℕ) → bytes_of_words (words_of (replicate k (record { word = 0; line = line }))) ≡ replicate (k * 4) 0
zero-bytes zero line = refl
zero-bytes (suc k) line =
    let count : suc (suc (suc (suc (k * 4)))) ≡ suc k * 4 = omega arith in
    ap (λ (l : List ℕ). 0 ∷ 0 ∷ 0 ∷ 0 ∷ l) (zero-bytes k line) ∙ ap (λ (n : ℕ). replicate n 0) count

-- zeros in text are whole words
whole_words : (z : ℤ) → is_space false z ≡ true → space_bytes z / 4 * 4 ≡ space_bytes z
whole_words (pos n) is = grind (arith, nat_tests)
whole_words (negsuc n) is = cc

zeros-in : (b : Bool) (line : ℕ) (z : ℤ) → is_space b z ≡ true → IsInSection b (replicate (space_bytes z) 0) (in_zeros b line (space_bytes z))
zeros-in true line z is = record { text = refl; data_bytes = refl }
zeros-in false line z is = record { text = zero-bytes (space_bytes z / 4) line ∙ ap (λ (n : ℕ). replicate n 0) (whole_words z is); data_bytes = refl }

-- the bytes of numbers
each-byte : (ns : List (ℤ × ℕ)) (bytes : List ℕ) → bytes_of_numbers ns ≡ Ok bytes → map (λ (n : ℤ × ℕ). byte_of n.0) ns ≡ map Some bytes
each-byte [] bytes is = let same : [] ≡ bytes = cc in ap (λ (l : List ℕ). map Some l) same
each-byte (n ∷ ns) bytes is =
    let (b, first, is2) = and_then-ok (ok_or (byte_of n.0) n.1) (λ (x : ℕ). and_then (bytes_of_numbers ns) (λ (l : List ℕ). Ok (x ∷ l))) bytes is in
    let (rest, are, made) = and_then-ok (bytes_of_numbers ns) (λ (l : List ℕ). Ok (b ∷ l)) bytes is2 in
    let same : b ∷ rest ≡ bytes = cc in
    (λ i. ok_or-ok (byte_of n.0) n.1 b first i ∷ each-byte ns rest are i) ∙ ap (λ (l : List ℕ). map Some l) same

-- what a statement comes to
pub record IsHolding (scope : Scope) (line : Line) (p : Position) (s : Statement) (d : Contents) : Type 0 where
  pub bytes : List ℕ
  pub holds : HoldsBytes scope line (address_of scope.data_base (spot_of p)) s bytes
  pub text : text_bytes d ≡ if p.in_data then [] else bytes
  pub data_bytes : d.bytes ≡ if p.in_data then bytes else []

holding : (scope : Scope) (line : Line) (p : Position) (s : Statement) (bytes : List ℕ) (c d : Contents) → HoldsBytes scope line (address_of scope.data_base (spot_of p)) s bytes → IsInSection p.in_data bytes c
    → ◌≡◌ {A = Result Contents AsmFault} (Ok c) (Ok d) → IsHolding scope line p s d
holding scope line p s bytes c d holds are is =
    subst (λ (x : Contents). IsHolding scope line p s x) (same_contents c d is) (record { bytes = bytes; holds = holds; text = are.text; data_bytes = are.data_bytes })

in-data : (b : Bool) (bytes : List ℕ) → b ≡ true → IsInSection b bytes (in_bytes bytes)
in-data b bytes is = subst (λ (x : Bool). IsInSection x bytes (in_bytes bytes)) (sym is) (record { text = refl; data_bytes = refl })

bytes-holding : (scope : Scope) (line : Line) (p : Position) (d : Contents) → p.in_data ≡ true → bytes_held scope.source line ≡ Ok d → IsHolding scope line p statement.Bytes d
bytes-holding scope line p d data_is is =
    let (bytes, are, made) = and_then-ok (at_line scope.source line Range (bytes_of_numbers (numbers_in line.tokens))) (λ (x : List ℕ). Ok (in_bytes x)) d is in
    holding scope line p statement.Bytes bytes (in_bytes bytes) d
    (each-byte (numbers_in line.tokens) bytes (at_line-ok scope.source line Range (bytes_of_numbers (numbers_in line.tokens)) bytes are)) (in-data p.in_data bytes data_is) made

value-holding : (scope : Scope) (line : Line) (p : Position) (m : Mnemonic) (o : Operands) (v : Option ℤ) (d : Contents) → distance_of scope (pos (address_of scope.data_base (spot_of p))) o.value ≡ v
    → instruction_held scope.source line p.in_data m o v ≡ Ok d → IsHolding scope line p (statement.Instruction m o) d
value-holding scope line p m o (Some n) d value is =
    let (e, expands, made) = and_then-ok (at_line scope.source line Range (ok_or (expansion_of m o n) o.at)) (λ (x : Expansion). Ok (in_words p.in_data line.number (words_of_expansion x))) d is in
    holding scope line p (statement.Instruction m o) (bytes_of_words (words_of_expansion e)) (in_words p.in_data line.number (words_of_expansion e)) d
    (n, value, e, ok_or-ok (expansion_of m o n) o.at e (at_line-ok scope.source line Range (ok_or (expansion_of m o n) o.at) e expands), refl)
    (words-in p.in_data line.number (words_of_expansion e)) made
value-holding scope line p m o None d value is = absurd (let no : ⊥ = cc in no)

space-passed : (source : List ℕ) (line : Line) (b : Bool) (z : ℤ) (at : ℕ) → space_checked source line b (statement.Space z at) ≡ Ok tt → is_space b z ≡ true
space-passed source line b z at is = passed (is_space b z) is
  where
    passed : (t : Bool) → ◌≡◌ {A = Result (Unit {0}) AsmFault} (if t then Ok tt else Err (fault_at source line Range at)) (Ok tt) → t ≡ true
    passed true is = refl
    passed false is = cc

pub statement-holding : (scope : Scope) (line : Line) (p : Position) (s : Statement) (d : Contents) → IsKnown p.in_data s → space_checked scope.source line p.in_data s ≡ Ok tt → held scope line p s ≡ Ok d → IsHolding scope line p s d
statement-holding scope line p statement.Nothing d known space is = holding scope line p statement.Nothing [] nothing d refl (nothing-in p.in_data) is
statement-holding scope line p statement.Text d known space is = holding scope line p statement.Text [] nothing d refl (nothing-in p.in_data) is
statement-holding scope line p statement.Data d known space is = holding scope line p statement.Data [] nothing d refl (nothing-in p.in_data) is
statement-holding scope line p statement.Words d known space is =
    let words : List ℕ = words_of_numbers (numbers_in line.tokens) in
    holding scope line p statement.Words (bytes_of_words words) (in_words p.in_data line.number words) d refl (words-in p.in_data line.number words) is
statement-holding scope line p statement.Bytes d known space is = bytes-holding scope line p d known is
statement-holding scope line p statement.Ascii d known space is = holding scope line p statement.Ascii (string_in line.tokens) (in_bytes (string_in line.tokens)) d refl (in-data p.in_data (string_in line.tokens) known) is
statement-holding scope line p (statement.Space n at) d known space is =
    holding scope line p (statement.Space n at) (replicate (space_bytes n) 0) (in_zeros p.in_data line.number (space_bytes n)) d refl (zeros-in p.in_data line.number n (space-passed scope.source line p.in_data n at space)) is
statement-holding scope line p (statement.Instruction m o) d known space is = value-holding scope line p m o (distance_of scope (pos (address_of scope.data_base (spot_of p))) o.value) d refl is
