-- The registers of operands that were read are registers.
use Rattle.std.proofs.Common.{ℕ, ℤ, ◌≡◌, ◌<◌, Bool, true, false, List, [], ◌∷◌, Option, Some, None, Result, Ok, Err, refl, subst, arith}
use Rattle.std.specs.Prelude.{if◌then◌else◌}
use Rattle.std.specs.Option.{ok_or}
use Rattle.asm_text.specs.{declared.token.Token.Token, Text.is_word}
use Rattle.asm_text.specs.declared.token.TokenKind.TheVariants.{Comma, Open, Close}
use Rattle.asm_statements.specs.{Names.named, Names.registers, Names.mnemonics, Names.directives, declared.mnemonic.Mnemonic.Mnemonic, declared.mnemonic.Directive.Directive}
use Rattle.asm_statements.specs.{Tokens.text_at, Tokens.is_mark, Tokens.number_of, Tokens.is_string, Tokens.is_label, Tokens.register_at, declared.operands.Slot.Slot}
use Rattle.asm_statements.specs.Statements.{slot_read, after_slot, operands_read, no_operands, bare_label, target_read, slots_of, chosen, with_no_more, numbers_read, ascii_read, space_read, directive_read, instruction_read, word_read, statement_read}
use Rattle.asm_statements.specs.declared.mnemonic.Directive.TheVariants as directive
use Rattle.asm_statements.specs.declared.operands.Slot.TheVariants as slot
use Rattle.asm_statements.specs.{declared.operands.Value.Value, declared.operands.Operands.Operands, declared.statement.Statement.Statement}
use Rattle.asm_statements.specs.declared.operands.Value.TheVariants as operand
use Rattle.asm_statements.specs.declared.statement.Statement.TheVariants as statement
use Rattle.asm_statements.proofs.{Stepping.and_then-ok, Stepping.ok_or-ok, Tables.register-below}

-- the operands' registers are registers
pub record HasRegisters (o : Operands) : Type 0 where
  pub first : o.first < 32
  pub second : o.second < 32
  pub third : o.third < 32

register_at-below : (source : List ℕ) (t : Token) (r : ℕ) → register_at source t ≡ Some r → r < 32
register_at-below source t r is =
    elim (is_word t.kind) as (λ b. (if b then named registers (text_at source t.start t.end) else None) ≡ Some r → r < 32) [
      | true ↦ λ found. register-below (text_at source t.start t.end) r found
      | false ↦ λ none. cc
    ] is

same_operands : (o p : Operands) → ◌≡◌ {A = Result Operands ℕ} (Ok o) (Ok p) → o ≡ p
same_operands o p is = cc

mark-registers : (b : Bool) (at : ℕ) (o p : Operands) → HasRegisters o → ◌≡◌ {A = Result Operands ℕ} (if b then Ok o else Err at) (Ok p) → HasRegisters p
mark-registers true at o p h is = subst (λ (x : Operands). HasRegisters x) (same_operands o p is) h
mark-registers false at o p h is = cc

slot-registers : (source : List ℕ) (end : ℕ) (s : Slot) (t : Token) (ts : List Token) (o p : Operands) → HasRegisters o → slot_read source end s t ts o ≡ Ok p → HasRegisters p
slot-registers source end slot.First t ts o p h is =
    let (r, found, made) = and_then-ok (ok_or (register_at source t) t.start) (λ (r : ℕ). Ok (record o { first = r })) p is in
    let below : r < 32 = register_at-below source t r (ok_or-ok (register_at source t) t.start r found) in
    subst (λ (x : Operands). HasRegisters x) (same_operands (record o { first = r }) p made) (record { first = below; second = h.second; third = h.third })
slot-registers source end slot.Second t ts o p h is =
    let (r, found, made) = and_then-ok (ok_or (register_at source t) t.start) (λ (r : ℕ). Ok (record o { second = r })) p is in
    let below : r < 32 = register_at-below source t r (ok_or-ok (register_at source t) t.start r found) in
    subst (λ (x : Operands). HasRegisters x) (same_operands (record o { second = r }) p made) (record { first = h.first; second = below; third = h.third })
slot-registers source end slot.Third t ts o p h is =
    let (r, found, made) = and_then-ok (ok_or (register_at source t) t.start) (λ (r : ℕ). Ok (record o { third = r })) p is in
    let below : r < 32 = register_at-below source t r (ok_or-ok (register_at source t) t.start r found) in
    subst (λ (x : Operands). HasRegisters x) (same_operands (record o { third = r }) p made) (record { first = h.first; second = h.second; third = below })
slot-registers source end slot.Comma t ts o p h is = mark-registers (is_mark Comma t.kind) t.start o p h is
slot-registers source end slot.Open t ts o p h is = mark-registers (is_mark Open t.kind) t.start o p h is
slot-registers source end slot.Close t ts o p h is = mark-registers (is_mark Close t.kind) t.start o p h is
slot-registers source end slot.Number t ts o p h is =
    let (n, _, made) = and_then-ok (ok_or (number_of t.kind) t.start) (λ (n : ℤ). Ok (record o { value = operand.Number n; at = t.start })) p is in
    subst (λ (x : Operands). HasRegisters x) (same_operands (record o { value = operand.Number n; at = t.start }) p made) (record { first = h.first; second = h.second; third = h.third })
slot-registers source end slot.Target t ts o p h is =
    let (v, _, made) = and_then-ok (target_read source end t ts) (λ (v : Value). Ok (record o { value = v; at = t.start })) p is in
    subst (λ (x : Operands). HasRegisters x) (same_operands (record o { value = v; at = t.start }) p made) (record { first = h.first; second = h.second; third = h.third })
slot-registers source end slot.Label t ts o p h is = mark-registers (is_label source t) t.start (record o { value = bare_label t; at = t.start }) p (record { first = h.first; second = h.second; third = h.third }) is

-- operands that were read into others have registers if these do
pub operands-registers : (source : List ℕ) (end : ℕ) (slots : List Slot) (ts : List Token) (o p : Operands) → HasRegisters o → operands_read source end slots ts o ≡ Ok p → HasRegisters p
operands-registers source end [] [] o p h is = subst (λ (x : Operands). HasRegisters x) (same_operands o p is) h
operands-registers source end [] (t ∷ ts) o p h is = cc
operands-registers source end (s ∷ slots) [] o p h is = cc
operands-registers source end (s ∷ slots) (t ∷ ts) o p h is =
    let (q, read, rest) = and_then-ok (slot_read source end s t ts o) (λ (q : Operands). operands_read source end slots (after_slot s t ts) q) p is in
    operands-registers source end slots (after_slot s t ts) q p (slot-registers source end s t ts o q h read) rest

pub no_operands-registers : HasRegisters no_operands
no_operands-registers = record { first = omega arith; second = omega arith; third = omega arith }

-- what is known of a statement that was read in a section: its operands have registers, and bytes and strings are in data
abbrev pub IsKnown : Bool → Statement → Type 0
IsKnown in_data (statement.Instruction m o) = HasRegisters o
IsKnown in_data statement.Bytes = in_data ≡ true
IsKnown in_data statement.Ascii = in_data ≡ true
IsKnown in_data s = Unit {0}

same_known : (in_data : Bool) (s t : Statement) → ◌≡◌ {A = Result Statement ℕ} (Ok s) (Ok t) → IsKnown in_data s → IsKnown in_data t
same_known in_data s t is h = let same : s ≡ t = cc in subst (λ (x : Statement). IsKnown in_data x) same h

no_more-known : (in_data : Bool) (ts : List Token) (s t : Statement) → IsKnown in_data s → with_no_more ts s ≡ Ok t → IsKnown in_data t
no_more-known in_data [] s t h is = same_known in_data s t is h
no_more-known in_data (x ∷ xs) s t h is = absurd (let no : ⊥ = cc in no)

numbers-known : (in_data wanted : Bool) (end : ℕ) (ts : List Token) (s t : Statement) → IsKnown in_data s → numbers_read wanted end ts s ≡ Ok t → IsKnown in_data t
numbers-known in_data true end [] s t h is = absurd (let no : ⊥ = cc in no)
numbers-known in_data false end [] s t h is = same_known in_data s t is h
numbers-known in_data true end (x ∷ xs) s t h is =
    let (_, _, rest) = and_then-ok (ok_or (number_of x.kind) x.start) (λ (n : ℤ). numbers_read false end xs s) t is in
    numbers-known in_data false end xs s t h rest
numbers-known in_data false end (x ∷ xs) s t h is = after (is_mark Comma x.kind) (numbers-known in_data true end xs s t h) is
  where
    after : (b : Bool) → (numbers_read true end xs s ≡ Ok t → IsKnown in_data t) → (if b then numbers_read true end xs s else Err x.start) ≡ Ok t → IsKnown in_data t
    after true go is = go is
    after false go is = absurd (let no : ⊥ = cc in no)

ascii-known : (end : ℕ) (ts : List Token) (t : Statement) → ascii_read end ts ≡ Ok t → IsKnown true t
ascii-known end [] t is = absurd (let no : ⊥ = cc in no)
ascii-known end (x ∷ xs) t is = after (is_string x.kind) is
  where
    after : (b : Bool) → (if b then with_no_more xs statement.Ascii else Err x.start) ≡ Ok t → IsKnown true t
    after true is = no_more-known true xs statement.Ascii t refl is
    after false is = absurd (let no : ⊥ = cc in no)

space-known : (in_data : Bool) (end : ℕ) (ts : List Token) (t : Statement) → space_read end ts ≡ Ok t → IsKnown in_data t
space-known in_data end [] t is = absurd (let no : ⊥ = cc in no)
space-known in_data end (x ∷ xs) t is =
    let (n, _, rest) = and_then-ok (ok_or (number_of x.kind) x.start) (λ (n : ℤ). with_no_more xs (statement.Space n x.start)) t is in
    no_more-known in_data xs (statement.Space n x.start) t tt rest

directive-known : (in_data : Bool) (end at : ℕ) (d : Directive) (ts : List Token) (t : Statement) → directive_read in_data end at d ts ≡ Ok t → IsKnown in_data t
directive-known in_data end at directive.Text ts t is = no_more-known in_data ts statement.Text t tt is
directive-known in_data end at directive.Data ts t is = no_more-known in_data ts statement.Data t tt is
directive-known in_data end at directive.Word ts t is = numbers-known in_data true end ts statement.Words t tt is
directive-known true end at directive.Byte ts t is = numbers-known true true end ts statement.Bytes t refl is
directive-known false end at directive.Byte ts t is = absurd (let no : ⊥ = cc in no)
directive-known true end at directive.Ascii ts t is = ascii-known end ts t is
directive-known false end at directive.Ascii ts t is = absurd (let no : ⊥ = cc in no)
directive-known in_data end at directive.Space ts t is = space-known in_data end ts t is

instruction-known : (source : List ℕ) (in_data : Bool) (end : ℕ) (m : Mnemonic) (ts : List Token) (t : Statement) → instruction_read source end m ts ≡ Ok t → IsKnown in_data t
instruction-known source in_data end m ts t is =
    let (o, read, made) = and_then-ok (operands_read source end (slots_of m) ts no_operands) (λ (o : Operands). Ok (statement.Instruction m o)) t is in
    same_known in_data (statement.Instruction m o) t made (operands-registers source end (slots_of m) ts no_operands o no_operands-registers read)

word-known : (source : List ℕ) (in_data : Bool) (end at : ℕ) (word : List ℕ) (d : Option Directive) (ts : List Token) (t : Statement) → word_read source in_data end at word d ts ≡ Ok t → IsKnown in_data t
word-known source in_data end at word (Some d) ts t is = directive-known in_data end at d ts t is
word-known source in_data end at word None ts t is =
    let (m, _, read) = and_then-ok (ok_or (named mnemonics word) at) (λ (m : Mnemonic). instruction_read source end (chosen m ts) ts) t is in
    instruction-known source in_data end (chosen m ts) ts t read

-- a statement that was read is known
pub statement-known : (source : List ℕ) (in_data : Bool) (end : ℕ) (ts : List Token) (t : Statement) → statement_read source in_data end ts ≡ Ok t → IsKnown in_data t
statement-known source in_data end [] t is = same_known in_data statement.Nothing t is tt
statement-known source in_data end (x ∷ xs) t is = after (is_word x.kind) is
  where
    after : (b : Bool) → (if b then word_read source in_data end x.start (text_at source x.start x.end) (named directives (text_at source x.start x.end)) xs else Err x.start) ≡ Ok t → IsKnown in_data t
    after true is = word-known source in_data end x.start (text_at source x.start x.end) (named directives (text_at source x.start x.end)) xs t is
    after false is = absurd (let no : ⊥ = cc in no)
