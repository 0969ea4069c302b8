-- The word of each instruction (RISC-V Unprivileged ISA 20191213, chapter 24); of FENCE the one of all accesses, and of FENCE.I the one
-- whose unused fields are 0. Then the instructions that a mnemonic stands for, one or two, where each number fits its field.
use Rattle.std.specs.Prelude.{ℕ, ℤ, pos, negsuc, ◌+◌, ◌-◌, ◌*◌, ◌/◌, ◌%◌, ◌^◌, ◌-ℤ◌, ◌&&◌, ◌==◌, nat_lt, if◌then◌else◌, List, [], ◌∷◌, length, Option, Some, None}
use Rattle.formats.specs.{Table.branch_row, Table.load_row, Table.store_row, Table.immediate_row, Table.shift_row, Table.register_row, Fields.signed, declared.instr.Instr.Instr}
use Rattle.formats.specs.{declared.operators.Arithmetic.Arithmetic, declared.operators.ImmediateOperator.ImmediateOperator}
use Rattle.std.specs.{Option.option_map, Int.cast_signed, Int.w32}
use Rattle.asm_statements.specs.{declared.mnemonic.Mnemonic.Mnemonic, declared.mnemonic.UpperOp.UpperOp, declared.mnemonic.Link.Link, declared.mnemonic.UnaryOp.UnaryOp}
use Rattle.asm_statements.specs.{declared.mnemonic.PlainOp.PlainOp, declared.operands.Value.Value, declared.operands.Operands.Operands, declared.expansion.Expansion.Expansion}

-- twelve bits, rs1, funct3, five bits and the opcode, from the highest down
abbrev pub fields_word : ℕ → ℕ → ℕ → ℕ → ℕ → ℕ
fields_word high rs1 funct3 low opcode = high * 2 ^ 20 + rs1 * 2 ^ 15 + funct3 * 2 ^ 12 + low * 2 ^ 7 + opcode

-- a number with a sign, modulo a power of two
abbrev pub complement : ℕ → ℤ → ℕ
complement modulus (pos n) = n
complement modulus (negsuc n) = modulus - (n + 1)

-- an operation on two registers, or a shift by an amount, which stands in the place of rs2
abbrev pub r_word : ℕ → ℕ → ℕ → ℕ → ℕ → ℕ → ℕ
r_word o f g rd rs1 rs2 = fields_word (g * 2 ^ 5 + rs2) rs1 f rd o

-- an immediate of twelve bits
abbrev pub i_word : ℕ → ℕ → ℕ → ℕ → ℤ → ℕ
i_word o f rd rs1 imm = fields_word (complement (2 ^ 12) imm) rs1 f rd o

-- a store, whose immediate is split round rs2, rs1 and funct3
abbrev pub s_word : ℕ → ℕ → ℕ → ℕ → ℕ
s_word f rs1 rs2 n = fields_word (n / 2 ^ 5 * 2 ^ 5 + rs2) rs1 f (n % 2 ^ 5) 0b0100011

-- a branch, with bit 11 of its offset in the place of bit 0
abbrev pub b_word : ℕ → ℕ → ℕ → ℕ → ℕ
b_word f rs1 rs2 n = fields_word (n / 2 ^ 12 * 2 ^ 11 + n / 2 ^ 5 % 2 ^ 6 * 2 ^ 5 + rs2) rs1 f (n / 2 % 2 ^ 4 * 2 + n / 2 ^ 11 % 2) 0b1100011

-- twenty upper bits
abbrev pub u_word : ℕ → ℕ → ℕ → ℕ
u_word o rd imm = imm * 2 ^ 12 + rd * 2 ^ 7 + o

-- a JAL, with the bits of its offset in the order 20, 10 to 1, 11, 19 to 12
abbrev pub j_word : ℕ → ℕ → ℕ
j_word rd n = u_word 0b1101111 rd (n / 2 ^ 20 * 2 ^ 19 + n / 2 % 2 ^ 10 * 2 ^ 9 + n / 2 ^ 11 % 2 * 2 ^ 8 + n / 2 ^ 12 % 2 ^ 8)

unfoldable pub word_of : Instr → ℕ
word_of (Instr.Lui rd imm) = u_word 0b0110111 rd imm
word_of (Instr.Auipc rd imm) = u_word 0b0010111 rd imm
word_of (Instr.Jal rd offset) = j_word rd (complement (2 ^ 21) offset)
word_of (Instr.Jalr rd rs1 imm) = i_word 0b1100111 0b000 rd rs1 imm
word_of (Instr.Branch condition rs1 rs2 offset) = b_word (branch_row condition).funct3 rs1 rs2 (complement (2 ^ 13) offset)
word_of (Instr.Load operator rd rs1 imm) = i_word 0b0000011 (load_row operator).funct3 rd rs1 imm
word_of (Instr.Store width rs1 rs2 imm) = s_word (store_row width).funct3 rs1 rs2 (complement (2 ^ 12) imm)
word_of (Instr.Immediate operator rd rs1 imm) = i_word 0b0010011 (immediate_row operator).funct3 rd rs1 imm
word_of (Instr.Shift operator rd rs1 amount) = r_word 0b0010011 (shift_row operator).funct3 (shift_row operator).funct7 rd rs1 amount
word_of (Instr.Register operator rd rs1 rs2) = r_word 0b0110011 (register_row operator).funct3 (register_row operator).funct7 rd rs1 rs2
word_of Instr.Fence = 0x0FF0000F
word_of Instr.FenceI = 0x0000100F
word_of Instr.Ecall = 0x00000073
word_of Instr.Ebreak = 0x00100073

-- The numbers that fit a field: twelve bits; an offset, a multiple of 4 from `-limit` up to below `limit`; an amount below a limit.
unfoldable pub immediate_of : ℤ → Option ℤ
immediate_of (pos n) = if nat_lt n 2048 then Some (pos n) else None
immediate_of (negsuc n) = if nat_lt n 2048 then Some (negsuc n) else None

unfoldable pub offset_of : ℕ → ℤ → Option ℤ
offset_of limit (pos n) = if nat_lt n limit && (n % 4 == 0) then Some (pos n) else None
offset_of limit (negsuc n) = if nat_lt n limit && ((n + 1) % 4 == 0) then Some (negsuc n) else None

unfoldable pub amount_of : ℕ → ℤ → Option ℕ
amount_of limit (pos n) = if nat_lt n limit then Some n else None
amount_of limit (negsuc n) = None

unfoldable pub modulo_word : ℤ → ℕ
modulo_word (pos n) = n % 2 ^ 32
modulo_word (negsuc n) = 2 ^ 32 - 1 - n % 2 ^ 32

-- a word's low twelve bits with their sign, and the upper twenty bits of what is left without them
unfoldable pub low_part : ℕ → ℤ
low_part u = signed 12 (u % 2 ^ 12)

unfoldable pub high_part : ℕ → ℕ
high_part u = modulo_word (pos u -ℤ low_part u) / 2 ^ 12

abbrev pub upper_instr : UpperOp → ℕ → ℕ → Instr
upper_instr UpperOp.Lui rd u = Instr.Lui rd u
upper_instr UpperOp.Auipc rd u = Instr.Auipc rd u

abbrev pub unary_instr : UnaryOp → ℕ → ℕ → Instr
unary_instr UnaryOp.Mv rd rs = Instr.Immediate ImmediateOperator.Addi rd rs (pos 0)
unary_instr UnaryOp.Not rd rs = Instr.Immediate ImmediateOperator.Xori rd rs (negsuc 0)
unary_instr UnaryOp.Neg rd rs = Instr.Register Arithmetic.Sub rd 0 rs
unary_instr UnaryOp.Seqz rd rs = Instr.Immediate ImmediateOperator.Sltiu rd rs (pos 1)
unary_instr UnaryOp.Snez rd rs = Instr.Register Arithmetic.Sltu rd 0 rs
unary_instr UnaryOp.Sltz rd rs = Instr.Register Arithmetic.Slt rd rs 0
unary_instr UnaryOp.Sgtz rd rs = Instr.Register Arithmetic.Slt rd 0 rs

abbrev pub plain_instr : PlainOp → Instr
plain_instr PlainOp.Nop = Instr.Immediate ImmediateOperator.Addi 0 0 (pos 0)
plain_instr PlainOp.Ret = Instr.Jalr 0 1 (pos 0)
plain_instr PlainOp.Fence = Instr.Fence
plain_instr PlainOp.FenceI = Instr.FenceI
plain_instr PlainOp.Ecall = Instr.Ecall
plain_instr PlainOp.Ebreak = Instr.Ebreak

abbrev pub link_register : Link → ℕ
link_register Link.Zero = 0
link_register Link.Ra = 1

-- `li` of a word: its immediate as a signed number, if it fits; else its high part and, if it is not 0, its low part
abbrev pub fitting_expansion : ℕ → ℕ → Option ℤ → Expansion
fitting_expansion rd u (Some imm) = Expansion.One (Instr.Immediate ImmediateOperator.Addi rd 0 imm)
fitting_expansion rd u None = if u % 2 ^ 12 == 0 then Expansion.One (Instr.Lui rd (high_part u)) else Expansion.Two (Instr.Lui rd (high_part u)) (Instr.Immediate ImmediateOperator.Addi rd rd (low_part u))

abbrev pub li_expansion : ℕ → ℕ → Expansion
li_expansion rd u = fitting_expansion rd u (immediate_of (cast_signed w32 u))

-- `la` of a distance from the instruction, always two
abbrev pub la_expansion : ℕ → ℕ → Expansion
la_expansion rd u = Expansion.Two (Instr.Auipc rd (high_part u)) (Instr.Immediate ImmediateOperator.Addi rd rd (low_part u))

-- the number that a value is, where it is no label
abbrev pub written : Value → ℤ
written (Value.Number n) = n
written v = pos 0

-- The expansion of a mnemonic with these operands, and this number: an immediate, an amount or upper bits as they are
-- written; the distance from the instruction to its target or label. None where the number does not fit.
abbrev pub expansion_of : Mnemonic → Operands → ℤ → Option Expansion
expansion_of (Mnemonic.Registers operator) o v = Some (Expansion.One (Instr.Register operator o.first o.second o.third))
expansion_of (Mnemonic.Immediate operator) o v = option_map (λ imm. Expansion.One (Instr.Immediate operator o.first o.second imm)) (immediate_of v)
expansion_of (Mnemonic.Shift operator) o v = option_map (λ amount. Expansion.One (Instr.Shift operator o.first o.second amount)) (amount_of 32 v)
expansion_of (Mnemonic.Load operator) o v = option_map (λ imm. Expansion.One (Instr.Load operator o.first o.second imm)) (immediate_of v)
expansion_of (Mnemonic.Store width) o v = option_map (λ imm. Expansion.One (Instr.Store width o.second o.first imm)) (immediate_of v)
expansion_of (Mnemonic.Branch condition) o v = option_map (λ offset. Expansion.One (Instr.Branch condition o.first o.second offset)) (offset_of 4096 v)
expansion_of (Mnemonic.Swapped condition) o v = option_map (λ offset. Expansion.One (Instr.Branch condition o.second o.first offset)) (offset_of 4096 v)
expansion_of (Mnemonic.WithZero condition) o v = option_map (λ offset. Expansion.One (Instr.Branch condition o.first 0 offset)) (offset_of 4096 v)
expansion_of (Mnemonic.FromZero condition) o v = option_map (λ offset. Expansion.One (Instr.Branch condition 0 o.first offset)) (offset_of 4096 v)
expansion_of (Mnemonic.Upper op) o v = option_map (λ u. Expansion.One (upper_instr op o.first u)) (amount_of 1048576 v)
expansion_of Mnemonic.Jal o v = option_map (λ offset. Expansion.One (Instr.Jal o.first offset)) (offset_of 1048576 v)
expansion_of Mnemonic.Jalr o v = option_map (λ imm. Expansion.One (Instr.Jalr o.first o.second imm)) (immediate_of v)
expansion_of (Mnemonic.Jump link) o v = option_map (λ offset. Expansion.One (Instr.Jal (link_register link) offset)) (offset_of 1048576 v)
expansion_of (Mnemonic.JumpRegister link) o v = Some (Expansion.One (Instr.Jalr (link_register link) o.first (pos 0)))
expansion_of (Mnemonic.Unary op) o v = Some (Expansion.One (unary_instr op o.first o.second))
expansion_of (Mnemonic.Plain op) o v = Some (Expansion.One (plain_instr op))
expansion_of Mnemonic.Li o v = Some (li_expansion o.first (modulo_word (written o.value)))
expansion_of Mnemonic.La o v = Some (la_expansion o.first (modulo_word v))

abbrev pub instructions_of : Expansion → List Instr
instructions_of (Expansion.One i) = i ∷ []
instructions_of (Expansion.Two i j) = i ∷ j ∷ []

-- how many words an instruction takes before its labels are known
abbrev pub words_taken : Mnemonic → Operands → ℕ
words_taken Mnemonic.Li o = length (instructions_of (li_expansion o.first (modulo_word (written o.value))))
words_taken Mnemonic.La o = 2
words_taken m o = 1
