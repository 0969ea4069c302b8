-- What a line holds: perhaps a label, and perhaps a statement with its operands, by the form of its mnemonic.
use Rattle.std.specs.Prelude.{ℕ, ℤ, pos, ◌||◌, ◌==◌, Bool, false, if◌then◌else◌, drop, List, [], ◌∷◌, Option, Some, None, Result, Ok, Err, ◌&&◌, true}
use Rattle.asm_text.specs.{declared.token.Token.Token, Text.is_word, declared.token.TokenKind.TokenKind}
use Rattle.std.specs.Option.{ok_or}
use Rattle.asm_statements.specs.Tokens.{and_then, is_mark, number_of, is_label, register_at, text_at, is_string}
use Rattle.asm_statements.specs.{declared.mnemonic.Mnemonic.Mnemonic, declared.mnemonic.Link.Link, declared.operands.Slot.Slot, declared.operands.Value.Value}
use Rattle.asm_statements.specs.{declared.operands.Value.TheVariants.Below, declared.operands.Operands.Operands, Names.named, Names.mnemonics, Names.directives}
use Rattle.asm_statements.specs.{declared.mnemonic.Directive.Directive, declared.statement.Label.Label, declared.statement.Statement.Statement}

-- what stands after a mnemonic, in order
abbrev pub slots_of : Mnemonic → List Slot
slots_of (Mnemonic.Registers op) = Slot.First ∷ Slot.Comma ∷ Slot.Second ∷ Slot.Comma ∷ Slot.Third ∷ []
slots_of (Mnemonic.Immediate op) = Slot.First ∷ Slot.Comma ∷ Slot.Second ∷ Slot.Comma ∷ Slot.Number ∷ []
slots_of (Mnemonic.Shift op) = Slot.First ∷ Slot.Comma ∷ Slot.Second ∷ Slot.Comma ∷ Slot.Number ∷ []
slots_of (Mnemonic.Load op) = Slot.First ∷ Slot.Comma ∷ Slot.Number ∷ Slot.Open ∷ Slot.Second ∷ Slot.Close ∷ []
slots_of (Mnemonic.Store op) = Slot.First ∷ Slot.Comma ∷ Slot.Number ∷ Slot.Open ∷ Slot.Second ∷ Slot.Close ∷ []
slots_of (Mnemonic.Branch op) = Slot.First ∷ Slot.Comma ∷ Slot.Second ∷ Slot.Comma ∷ Slot.Target ∷ []
slots_of (Mnemonic.Swapped op) = Slot.First ∷ Slot.Comma ∷ Slot.Second ∷ Slot.Comma ∷ Slot.Target ∷ []
slots_of (Mnemonic.WithZero op) = Slot.First ∷ Slot.Comma ∷ Slot.Target ∷ []
slots_of (Mnemonic.FromZero op) = Slot.First ∷ Slot.Comma ∷ Slot.Target ∷ []
slots_of (Mnemonic.Upper op) = Slot.First ∷ Slot.Comma ∷ Slot.Number ∷ []
slots_of Mnemonic.Jal = Slot.First ∷ Slot.Comma ∷ Slot.Target ∷ []
slots_of Mnemonic.Jalr = Slot.First ∷ Slot.Comma ∷ Slot.Number ∷ Slot.Open ∷ Slot.Second ∷ Slot.Close ∷ []
slots_of (Mnemonic.Jump link) = Slot.Target ∷ []
slots_of (Mnemonic.JumpRegister link) = Slot.First ∷ []
slots_of (Mnemonic.Unary op) = Slot.First ∷ Slot.Comma ∷ Slot.Second ∷ []
slots_of (Mnemonic.Plain op) = []
slots_of Mnemonic.Li = Slot.First ∷ Slot.Comma ∷ Slot.Number ∷ []
slots_of Mnemonic.La = Slot.First ∷ Slot.Comma ∷ Slot.Label ∷ []

abbrev pub with_comma : List Token → Bool
with_comma (t ∷ u ∷ ts) = is_mark TokenKind.Comma u.kind
with_comma _ = false

-- `jal` and `jalr` with no comma after their first operand link ra: a jump to a target, and one to a register
abbrev pub chosen : Mnemonic → List Token → Mnemonic
chosen Mnemonic.Jal tokens = if with_comma tokens then Mnemonic.Jal else Mnemonic.Jump Link.Ra
chosen Mnemonic.Jalr tokens = if with_comma tokens then Mnemonic.Jalr else Mnemonic.JumpRegister Link.Ra
chosen mnemonic tokens = mnemonic

abbrev pub no_operands : Operands
no_operands = record { first = 0; second = 0; third = 0; value = Value.Number (pos 0); at = 0 }

abbrev pub bare_label : Token → Value
bare_label t = Value.Above t.start t.end (pos 0)

-- A number directly after a sign, which ends at `sign_end`. What is wrong stands at its place; what is missing, at `end`.
abbrev pub addend_read : ℕ → ℕ → List Token → Result ℤ ℕ
addend_read end sign_end [] = Err end
addend_read end sign_end (t ∷ ts) = and_then (ok_or (number_of t.kind) t.start) (λ n. if t.start == sign_end then Ok n else Err t.start)

-- a label, and what is added to it or taken from it
abbrev pub sum_read : ℕ → Token → List Token → Result Value ℕ
sum_read end label [] = Ok (bare_label label)
sum_read end label (sign ∷ ts) =
    if is_mark TokenKind.Plus sign.kind then and_then (addend_read end sign.end ts) (λ n. Ok (Value.Above label.start label.end n))
    else if is_mark TokenKind.Minus sign.kind then and_then (addend_read end sign.end ts) (λ n. Ok (Below label.start label.end n))
    else Ok (bare_label label)

-- a target: a number, or a label with what is added to it or taken from it
abbrev pub named_target : List ℕ → ℕ → Option ℤ → Token → List Token → Result Value ℕ
named_target source end (Some n) t ts = Ok (Value.Number n)
named_target source end None t ts = if is_label source t then sum_read end t ts else Err t.start

abbrev pub target_read : List ℕ → ℕ → Token → List Token → Result Value ℕ
target_read source end t ts = named_target source end (number_of t.kind) t ts

-- the tokens after a label's name and what is added to it or taken from it
abbrev pub after_label : List Token → List Token
after_label [] = []
after_label (sign ∷ ts) = if is_mark TokenKind.Plus sign.kind || is_mark TokenKind.Minus sign.kind then drop 1 ts else sign ∷ ts

-- the operands with what a token, or in the place of a target it and those after it, is to a slot
abbrev pub slot_read : List ℕ → ℕ → Slot → Token → List Token → Operands → Result Operands ℕ
slot_read source end Slot.First t ts o = and_then (ok_or (register_at source t) t.start) (λ r. Ok (record o { first = r }))
slot_read source end Slot.Second t ts o = and_then (ok_or (register_at source t) t.start) (λ r. Ok (record o { second = r }))
slot_read source end Slot.Third t ts o = and_then (ok_or (register_at source t) t.start) (λ r. Ok (record o { third = r }))
slot_read source end Slot.Comma t ts o = if is_mark TokenKind.Comma t.kind then Ok o else Err t.start
slot_read source end Slot.Open t ts o = if is_mark TokenKind.Open t.kind then Ok o else Err t.start
slot_read source end Slot.Close t ts o = if is_mark TokenKind.Close t.kind then Ok o else Err t.start
slot_read source end Slot.Number t ts o = and_then (ok_or (number_of t.kind) t.start) (λ n. Ok (record o { value = Value.Number n; at = t.start }))
slot_read source end Slot.Target t ts o = and_then (target_read source end t ts) (λ v. Ok (record o { value = v; at = t.start }))
slot_read source end Slot.Label t ts o = if is_label source t then Ok (record o { value = bare_label t; at = t.start }) else Err t.start

abbrev pub after_slot : Slot → Token → List Token → List Token
after_slot Slot.Target t ts = if is_word t.kind then after_label ts else ts
after_slot slot t ts = ts

-- The operands, slot by slot, from all tokens after a mnemonic. An error is the place of the first wrong token, or `end`: one is missing.
abbrev pub operands_read : List ℕ → ℕ → List Slot → List Token → Operands → Result Operands ℕ
operands_read source end [] [] o = Ok o
operands_read source end [] (t ∷ ts) o = Err t.start
operands_read source end (slot ∷ slots) [] o = Err end
operands_read source end (slot ∷ slots) (t ∷ ts) o = and_then (slot_read source end slot t ts o) (λ p. operands_read source end slots (after_slot slot t ts) p)

-- A line's label, a name with a colon directly after it, and the tokens after it. An error is the place of what is no label's name.
abbrev pub label_read : List ℕ → List Token → Result (Option Label × List Token) ℕ
label_read source (t ∷ u ∷ ts) =
    if is_mark TokenKind.Colon u.kind && (u.start == t.end)
    then (if is_label source t then Ok (Some (record { start = t.start; end = t.end }), ts) else Err t.start)
    else Ok (None, t ∷ u ∷ ts)
label_read source ts = Ok (None, ts)

abbrev pub with_no_more : List Token → Statement → Result Statement ℕ
with_no_more [] s = Ok s
with_no_more (t ∷ ts) s = Err t.start

-- numbers and commas take turns, a number first and a number last
abbrev pub numbers_read : Bool → ℕ → List Token → Statement → Result Statement ℕ
numbers_read true end [] s = Err end
numbers_read false end [] s = Ok s
numbers_read true end (t ∷ ts) s = and_then (ok_or (number_of t.kind) t.start) (λ n. numbers_read false end ts s)
numbers_read false end (t ∷ ts) s = if is_mark TokenKind.Comma t.kind then numbers_read true end ts s else Err t.start

abbrev pub ascii_read : ℕ → List Token → Result Statement ℕ
ascii_read end [] = Err end
ascii_read end (t ∷ ts) = if is_string t.kind then with_no_more ts Statement.Ascii else Err t.start

abbrev pub space_read : ℕ → List Token → Result Statement ℕ
space_read end [] = Err end
space_read end (t ∷ ts) = and_then (ok_or (number_of t.kind) t.start) (λ n. with_no_more ts (Statement.Space n t.start))

-- What a directive at a place means, by the tokens after it. `.byte` and `.ascii` stand in data alone.
abbrev pub directive_read : Bool → ℕ → ℕ → Directive → List Token → Result Statement ℕ
directive_read in_data end at Directive.Text ts = with_no_more ts Statement.Text
directive_read in_data end at Directive.Data ts = with_no_more ts Statement.Data
directive_read in_data end at Directive.Word ts = numbers_read true end ts Statement.Words
directive_read in_data end at Directive.Byte ts = if in_data then numbers_read true end ts Statement.Bytes else Err at
directive_read in_data end at Directive.Ascii ts = if in_data then ascii_read end ts else Err at
directive_read in_data end at Directive.Space ts = space_read end ts

abbrev pub instruction_read : List ℕ → ℕ → Mnemonic → List Token → Result Statement ℕ
instruction_read source end m ts = and_then (operands_read source end (slots_of m) ts no_operands) (λ o. Ok (Statement.Instruction m o))

abbrev pub word_read : List ℕ → Bool → ℕ → ℕ → List ℕ → Option Directive → List Token → Result Statement ℕ
word_read source in_data end at word (Some d) ts = directive_read in_data end at d ts
word_read source in_data end at word None ts = and_then (ok_or (named mnemonics word) at) (λ m. instruction_read source end (chosen m ts) ts)

-- The statement that the tokens make. An error is the place of the first token that no statement has there, or `end`: one is missing.
abbrev pub statement_read : List ℕ → Bool → ℕ → List Token → Result Statement ℕ
statement_read source in_data end [] = Ok Statement.Nothing
statement_read source in_data end (t ∷ ts) =
    if is_word t.kind
    then (let word = text_at source t.start t.end in word_read source in_data end t.start word (named directives word) ts)
    else Err t.start
