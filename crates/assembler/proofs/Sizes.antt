-- What a statement comes to is as long as its place counts it.
use Rattle.std.proofs.Common.{ℕ, ℤ, suc, ◌≡◌, ◌+◌, ◌/◌, Bool, true, false, List, [], ◌∷◌, length, Result, Ok, Option, Some, None, refl, sym, ap, ◌∙◌, subst, arith, length-append, cond}
use Rattle.std.specs.Option.{option_map, ok_or}
use Rattle.std.proofs.lemmas.List.{length-replicate, length-map}
use Rattle.formats.specs.declared.instr.Instr.{Instr}
use Rattle.asm_text.specs.declared.token.Line.{Line}
use Rattle.machine_model.proofs.Words.{length-bytes_of_words}
use Rattle.asm_statements.specs.{Tokens.and_then, Expansion.expansion_of, Expansion.instructions_of, Expansion.words_taken, declared.mnemonic.Mnemonic.Mnemonic}
use Rattle.assembler.specs.{Faults.at_line, declared.fault.AsmFault.AsmFault, declared.fault.Cause.TheVariants.Range, declared.layout.Position.Position}
use Rattle.assembler.specs.Layout.{counted, with_bytes, advanced, within, after, units_of, space_units, numbers_in, string_in, space_bytes, Contents, Scope, nothing, joined, in_bytes, in_words, in_zeros, words_of_numbers, bytes_of_numbers, words_of_expansion, byte_of, instruction_of, instruction_held, bytes_held, held}
use Rattle.asm_statements.specs.declared.mnemonic.Mnemonic.TheVariants as form
use Rattle.asm_statements.specs.{declared.operands.Operands.Operands, declared.expansion.Expansion.Expansion, declared.expansion.Expansion.TheVariants.One}
use Rattle.asm_statements.specs.declared.statement.Statement.{Statement}
use Rattle.asm_statements.specs.declared.statement.Statement.TheVariants as statement
use Rattle.asm_statements.proofs.Stepping.{and_then-ok, ok_or-ok}
use Rattle.assembler.proofs.Stepping.{at_line-ok}

-- a position counts what the sections hold
pub record IsMeasured (p : Position) (c : Contents) : Type 0 where
  pub words : p.words ≡ counted (length c.cells)
  pub bytes : p.bytes ≡ counted (length c.bytes)

-- so many words or bytes, in one section
record IsLong (in_data : Bool) (size : ℕ) (d : Contents) : Type 0 where
  cells : length d.cells ≡ cond in_data 0 size
  bytes : length d.bytes ≡ cond in_data size 0

counted-more : (w len k : ℕ) → w ≡ counted len → counted (w + counted k) ≡ counted (len + k)
counted-more w len k e = omega arith

measured-advanced : (in_data : Bool) (words bytes size : ℕ) (c d : Contents) → IsMeasured (record { in_data = in_data; words = words; bytes = bytes }) c → IsLong in_data size d
    → IsMeasured (advanced (record { in_data = in_data; words = words; bytes = bytes }) (counted size)) (joined c d)
measured-advanced true words bytes size c d m long = record {
  words = m.words ∙ ap counted (omega (arith, long.cells, length-append c.cells d.cells));
  bytes = counted-more bytes (length c.bytes) size m.bytes ∙ ap counted (omega (arith, long.bytes, length-append c.bytes d.bytes));
}
measured-advanced false words bytes size c d m long = record {
  words = counted-more words (length c.cells) size m.words ∙ ap counted (omega (arith, long.cells, length-append c.cells d.cells));
  bytes = m.bytes ∙ ap counted (omega (arith, long.bytes, length-append c.bytes d.bytes));
}

long-words : (in_data : Bool) (line : ℕ) (words : List ℕ) → IsLong in_data (units_of (length words) in_data) (in_words in_data line words)
long-words true line words = record { cells = refl; bytes = length-bytes_of_words words }
long-words false line words = record { cells = length-map words _; bytes = refl }

long-zeros : (in_data : Bool) (line : ℕ) (n : ℤ) → IsLong in_data (space_units n in_data) (in_zeros in_data line (space_bytes n))
long-zeros true line n = record { cells = refl; bytes = length-replicate (space_bytes n) 0 }
long-zeros false line n = record { cells = length-replicate (space_bytes n / 4) _; bytes = refl }

length-bytes_of_numbers : (ns : List (ℤ × ℕ)) (bytes : List ℕ) → bytes_of_numbers ns ≡ Ok bytes → length bytes ≡ length ns
length-bytes_of_numbers [] bytes is = let same : [] ≡ bytes = cc in ap length (sym same)
length-bytes_of_numbers (n ∷ ns) bytes is =
    let (b, _, is2) = and_then-ok (ok_or (byte_of n.0) n.1) (λ (x : ℕ). and_then (bytes_of_numbers ns) (λ (l : List ℕ). Ok (x ∷ l))) bytes is in
    let (rest, are, made) = and_then-ok (bytes_of_numbers ns) (λ (l : List ℕ). Ok (b ∷ l)) bytes is2 in
    let same : b ∷ rest ≡ bytes = cc in
    ap length (sym same) ∙ ap suc (length-bytes_of_numbers ns rest are)

abbrev word_count : Expansion → ℕ
word_count e = length (instructions_of e)

one_counted : {A : Type 0} (f : A → Instr) (x : Option A) (e : Expansion) → option_map (λ (a : A). One (f a)) x ≡ Some e → word_count e ≡ 1
one_counted f (Some a) e is = let same : One (f a) ≡ e = cc in ap word_count (sym same)
one_counted f None e is = cc

same_counted : (d e : Expansion) → Some d ≡ Some e → word_count e ≡ word_count d
same_counted d e is = let same : d ≡ e = cc in ap word_count (sym same)

-- an expansion has as many words as its mnemonic takes
pub expansion-counted : (m : Mnemonic) (o : Operands) (v : ℤ) (e : Expansion) → expansion_of m o v ≡ Some e → word_count e ≡ words_taken m o
expansion-counted (form.Registers op) o v e is = same_counted _ e is
expansion-counted (form.Immediate op) o v e is = one_counted _ _ e is
expansion-counted (form.Shift op) o v e is = one_counted _ _ e is
expansion-counted (form.Load op) o v e is = one_counted _ _ e is
expansion-counted (form.Store op) o v e is = one_counted _ _ e is
expansion-counted (form.Branch op) o v e is = one_counted _ _ e is
expansion-counted (form.Swapped op) o v e is = one_counted _ _ e is
expansion-counted (form.WithZero op) o v e is = one_counted _ _ e is
expansion-counted (form.FromZero op) o v e is = one_counted _ _ e is
expansion-counted (form.Upper op) o v e is = one_counted _ _ e is
expansion-counted form.Jal o v e is = one_counted _ _ e is
expansion-counted form.Jalr o v e is = one_counted _ _ e is
expansion-counted (form.Jump link) o v e is = one_counted _ _ e is
expansion-counted (form.JumpRegister link) o v e is = same_counted _ e is
expansion-counted (form.Unary op) o v e is = same_counted _ e is
expansion-counted (form.Plain op) o v e is = same_counted _ e is
expansion-counted form.Li o v e is = same_counted _ e is
expansion-counted form.La o v e is = same_counted _ e is

instruction-counted : (source : List ℕ) (line : Line) (m : Mnemonic) (o : Operands) (v : Option ℤ) (e : Expansion) → instruction_of source line m o v ≡ Ok e → word_count e ≡ words_taken m o
instruction-counted source line m o (Some v) e is = expansion-counted m o v e (ok_or-ok (expansion_of m o v) o.at e (at_line-ok source line Range (ok_or (expansion_of m o v) o.at) e is))
instruction-counted source line m o None e is = cc

pub same_contents : (c d : Contents) → ◌≡◌ {A = Result Contents AsmFault} (Ok c) (Ok d) → c ≡ d
same_contents c d is = cc

measured-put : (p : Position) (size : ℕ) (c d : Contents) → IsMeasured p c → IsLong p.in_data size d → IsMeasured (advanced p (counted size)) (joined c d)
measured-put p size c d m long = measured-advanced p.in_data p.words p.bytes size c d m long

measured-bytes : (p : Position) (c : Contents) (bytes : List ℕ) → IsMeasured p c → IsMeasured (with_bytes p (counted (length bytes))) (joined c (in_bytes bytes))
measured-bytes p c bytes m = record {
  words = m.words ∙ ap counted (omega (arith, length-append c.cells []));
  bytes = counted-more p.bytes (length c.bytes) (length bytes) m.bytes ∙ ap counted (sym (length-append c.bytes bytes));
}

pub measured-nothing : (p : Position) (c : Contents) → IsMeasured p c → IsMeasured p (joined c nothing)
measured-nothing p c m = record { words = m.words ∙ ap counted (omega (arith, length-append c.cells [])); bytes = m.bytes ∙ ap counted (omega (arith, length-append c.bytes [])) }

measured-byte_list : (source : List ℕ) (line : Line) (p : Position) (c d : Contents) → IsMeasured p c → bytes_held source line ≡ Ok d → IsMeasured (with_bytes p (counted (length (numbers_in line.tokens)))) (joined c d)
measured-byte_list source line p c d m is =
    let (bytes, are, made) = and_then-ok (at_line source line Range (bytes_of_numbers (numbers_in line.tokens))) (λ (x : List ℕ). Ok (in_bytes x)) d is in
    let count : length bytes ≡ length (numbers_in line.tokens) = length-bytes_of_numbers (numbers_in line.tokens) bytes (at_line-ok source line Range (bytes_of_numbers (numbers_in line.tokens)) bytes are) in
    subst (λ (x : Contents). IsMeasured (with_bytes p (counted (length (numbers_in line.tokens)))) (joined c x)) (same_contents (in_bytes bytes) d made)
    (subst (λ (k : ℕ). IsMeasured (with_bytes p (counted k)) (joined c (in_bytes bytes))) count (measured-bytes p c bytes m))

measured-instruction : (source : List ℕ) (line : Line) (p : Position) (mnemonic : Mnemonic) (o : Operands) (v : Option ℤ) (c d : Contents) → IsMeasured p c → instruction_held source line p.in_data mnemonic o v ≡ Ok d
    → IsMeasured (advanced p (counted (units_of (words_taken mnemonic o) p.in_data))) (joined c d)
measured-instruction source line p mnemonic o v c d m is =
    let (e, taken, made) = and_then-ok (instruction_of source line mnemonic o v) (λ (x : Expansion). Ok (in_words p.in_data line.number (words_of_expansion x))) d is in
    let count : length (words_of_expansion e) ≡ words_taken mnemonic o = length-map (instructions_of e) _ ∙ instruction-counted source line mnemonic o v e taken in
    subst (λ (x : Contents). IsMeasured (advanced p (counted (units_of (words_taken mnemonic o) p.in_data))) (joined c x)) (same_contents (in_words p.in_data line.number (words_of_expansion e)) d made)
    (subst (λ (k : ℕ). IsMeasured (advanced p (counted (units_of k p.in_data))) (joined c (in_words p.in_data line.number (words_of_expansion e)))) count
    (measured-put p (units_of (length (words_of_expansion e)) p.in_data) c (in_words p.in_data line.number (words_of_expansion e)) m (long-words p.in_data line.number (words_of_expansion e))))

measured-same : (p : Position) (c d e : Contents) → ◌≡◌ {A = Result Contents AsmFault} (Ok d) (Ok e) → IsMeasured p (joined c d) → IsMeasured p (joined c e)
measured-same p c d e is m = subst (λ (x : Contents). IsMeasured p (joined c x)) (same_contents d e is) m

-- after a statement the position counts what the sections hold
pub measured-statement : (scope : Scope) (line : Line) (p : Position) (s : Statement) (c d : Contents) → IsMeasured p c → held scope line p s ≡ Ok d → IsMeasured (after p s line.tokens) (joined c d)
measured-statement scope line p statement.Nothing c d m is = measured-same p c nothing d is (measured-nothing p c m)
measured-statement scope line p statement.Text c d m is = measured-same (within p false) c nothing d is (measured-nothing (within p false) c (record { words = m.words; bytes = m.bytes }))
measured-statement scope line p statement.Data c d m is = measured-same (within p true) c nothing d is (measured-nothing (within p true) c (record { words = m.words; bytes = m.bytes }))
measured-statement scope line p statement.Words c d m is =
    let ns : List (ℤ × ℕ) = numbers_in line.tokens in
    measured-same (advanced p (counted (units_of (length ns) p.in_data))) c (in_words p.in_data line.number (words_of_numbers ns)) d is
    (subst (λ (k : ℕ). IsMeasured (advanced p (counted (units_of k p.in_data))) (joined c (in_words p.in_data line.number (words_of_numbers ns)))) (length-map ns _)
    (measured-put p (units_of (length (words_of_numbers ns)) p.in_data) c (in_words p.in_data line.number (words_of_numbers ns)) m (long-words p.in_data line.number (words_of_numbers ns))))
measured-statement scope line p statement.Bytes c d m is = measured-byte_list scope.source line p c d m is
measured-statement scope line p statement.Ascii c d m is = measured-same (with_bytes p (counted (length (string_in line.tokens)))) c (in_bytes (string_in line.tokens)) d is (measured-bytes p c (string_in line.tokens) m)
measured-statement scope line p (statement.Space n at) c d m is =
    measured-same (advanced p (counted (space_units n p.in_data))) c (in_zeros p.in_data line.number (space_bytes n)) d is
    (measured-put p (space_units n p.in_data) c (in_zeros p.in_data line.number (space_bytes n)) m (long-zeros p.in_data line.number n))
measured-statement scope line p (statement.Instruction mnemonic o) c d m is = measured-instruction scope.source line p mnemonic o _ c d m is
