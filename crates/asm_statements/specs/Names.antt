-- What words name: the tables of mnemonics, directives and registers.
use Rattle.std.specs.Prelude.{ℕ, ◌++◌, List, [], ◌∷◌, map, Option, Some, None, codes, decimal, if◌then◌else◌}
use Rattle.std.specs.{List.enumerate_from, Str.bytes_eq}
use denote.Ref.{Bor}
use Rattle.formats.specs.Text.{register_names}
use Rattle.formats.specs.Table.{Row, register_row, immediate_row, shift_row, load_row, store_row, branch_row, registers as register_operators, immediates, shifts, loads, stores, branches}
use Rattle.formats.specs.declared.operators.Condition.TheVariants.{Equal, NotEqual, Less, NotLess, Below, NotBelow}
use Rattle.asm_statements.specs.{declared.mnemonic.Mnemonic.Mnemonic, declared.mnemonic.UpperOp.UpperOp, declared.mnemonic.Link.Link, declared.mnemonic.UnaryOp.UnaryOp}
use Rattle.asm_statements.specs.{declared.mnemonic.PlainOp.PlainOp, declared.mnemonic.Directive.Directive}

abbrev pub named : {X : Type 0} → List (List ℕ × X) → List ℕ → Option X
named [] word = None
named (row ∷ rows) word = if bytes_eq row.0 word then Some row.1 else named rows word

-- the same, where the names are texts in memory
abbrev pub value_named : {X : Type 0} → List (Bor (List ℕ) × X) → List ℕ → Option X
value_named [] word = None
value_named (row ∷ rows) word = if bytes_eq row.0.now word then Some row.1 else value_named rows word

-- operators by their names in the instruction table, each with the form of its operands
abbrev pub with_mnemonics : {X : Type 0} → (X → Row) → (X → Mnemonic) → List X → List (List ℕ × Mnemonic)
with_mnemonics {X} row form operators = map (λ (x : X). ((row x).mnemonic, form x)) operators

-- the other mnemonics; of `jal` and `jalr` the forms with a register to link
abbrev pub others : List (List ℕ × Mnemonic)
others =
    (codes "bgt", Mnemonic.Swapped Less) ∷ (codes "ble", Mnemonic.Swapped NotLess) ∷ (codes "bgtu", Mnemonic.Swapped Below) ∷
    (codes "bleu", Mnemonic.Swapped NotBelow) ∷ (codes "beqz", Mnemonic.WithZero Equal) ∷ (codes "bnez", Mnemonic.WithZero NotEqual) ∷
    (codes "bgez", Mnemonic.WithZero NotLess) ∷ (codes "bltz", Mnemonic.WithZero Less) ∷ (codes "blez", Mnemonic.FromZero NotLess) ∷
    (codes "bgtz", Mnemonic.FromZero Less) ∷ (codes "lui", Mnemonic.Upper UpperOp.Lui) ∷ (codes "auipc", Mnemonic.Upper UpperOp.Auipc) ∷
    (codes "jal", Mnemonic.Jal) ∷ (codes "jalr", Mnemonic.Jalr) ∷ (codes "j", Mnemonic.Jump Link.Zero) ∷ (codes "call", Mnemonic.Jump Link.Ra) ∷
    (codes "jr", Mnemonic.JumpRegister Link.Zero) ∷ (codes "mv", Mnemonic.Unary UnaryOp.Mv) ∷ (codes "not", Mnemonic.Unary UnaryOp.Not) ∷
    (codes "neg", Mnemonic.Unary UnaryOp.Neg) ∷ (codes "seqz", Mnemonic.Unary UnaryOp.Seqz) ∷ (codes "snez", Mnemonic.Unary UnaryOp.Snez) ∷
    (codes "sltz", Mnemonic.Unary UnaryOp.Sltz) ∷ (codes "sgtz", Mnemonic.Unary UnaryOp.Sgtz) ∷ (codes "nop", Mnemonic.Plain PlainOp.Nop) ∷
    (codes "ret", Mnemonic.Plain PlainOp.Ret) ∷ (codes "fence", Mnemonic.Plain PlainOp.Fence) ∷ (codes "fence.i", Mnemonic.Plain PlainOp.FenceI) ∷
    (codes "ecall", Mnemonic.Plain PlainOp.Ecall) ∷ (codes "ebreak", Mnemonic.Plain PlainOp.Ebreak) ∷ (codes "li", Mnemonic.Li) ∷ (codes "la", Mnemonic.La) ∷ []

abbrev pub mnemonics : List (List ℕ × Mnemonic)
mnemonics =
    with_mnemonics register_row Mnemonic.Registers register_operators ++ (with_mnemonics immediate_row Mnemonic.Immediate immediates
    ++ (with_mnemonics shift_row Mnemonic.Shift shifts ++ (with_mnemonics load_row Mnemonic.Load loads
    ++ (with_mnemonics store_row Mnemonic.Store stores ++ (with_mnemonics branch_row Mnemonic.Branch branches ++ others)))))

abbrev pub directives : List (List ℕ × Directive)
directives =
    (codes ".text", Directive.Text) ∷ (codes ".data", Directive.Data) ∷ (codes ".word", Directive.Word) ∷
    (codes ".byte", Directive.Byte) ∷ (codes ".ascii", Directive.Ascii) ∷ (codes ".space", Directive.Space) ∷ []

-- the registers by their ABI names, `fp` for x8, and the registers by `x` with their numbers
abbrev pub registers : List (List ℕ × ℕ)
registers =
    let all : List (ℕ × List ℕ) = enumerate_from 0 register_names in
    map (λ (r : ℕ × List ℕ). (r.1, r.0)) all ++ ((codes "fp", 8) ∷ map (λ (r : ℕ × List ℕ). (codes "x" ++ decimal r.0, r.0)) all)
