-- The words of an expansion mean its instructions.
use Rattle.std.proofs.Common.{ℕ, ℤ, pos, negsuc, ◌-ℤ◌, ◌≡◌, ◌<◌, ◌%◌, ◌^◌, true, false, Option, Some, None, refl, subst, arith, lit<}
use Rattle.std.specs.Prelude.{◌==◌, if◌then◌else◌}
use Rattle.std.specs.{Option.option_map, Int.cast_signed, Int.w32}
use Rattle.std.proofs.{lemmas.Bool.Decides.nat_tests, lemmas.Int.ints}
use Rattle.formats.specs.{Fields.signed, Meaning.Means, declared.instr.Instr.Instr, declared.operators.Arithmetic.Arithmetic, declared.operators.ShiftOperator.ShiftOperator}
use Rattle.formats.specs.declared.instr.Instr.TheVariants as instr
use Rattle.formats.specs.declared.operators.Arithmetic.TheVariants.{Sub, Slt, Sltu}
use Rattle.formats.specs.{declared.operators.ImmediateOperator.ImmediateOperator, declared.operators.LoadOperator.LoadOperator, declared.operators.Condition.Condition}
use Rattle.formats.specs.declared.operators.ImmediateOperator.TheVariants.{Addi, Sltiu, Xori}
use Rattle.formats.proofs.Fits.{register-funct3, register-funct7, immediate-funct3, shift-funct3, shift-funct7, load-funct3, store-funct3, branch-funct3}
use Rattle.memory_model.specs.declared.access.Width.{Width}
use Rattle.asm_statements.specs.Expansion.{complement, word_of, immediate_of, offset_of, amount_of, modulo_word, low_part, high_part, upper_instr, unary_instr, plain_instr, link_register, fitting_expansion, li_expansion, la_expansion, written, expansion_of}
use Rattle.asm_statements.specs.{declared.mnemonic.Mnemonic.Mnemonic, declared.mnemonic.UpperOp.UpperOp, declared.mnemonic.Link.Link, declared.mnemonic.UnaryOp.UnaryOp}
use Rattle.asm_statements.specs.declared.mnemonic.Mnemonic.TheVariants as form
use Rattle.asm_statements.specs.{declared.mnemonic.UpperOp.TheVariants.Lui, declared.mnemonic.UpperOp.TheVariants.Auipc, declared.mnemonic.PlainOp.PlainOp}
use Rattle.asm_statements.specs.{declared.mnemonic.Link.TheVariants.Zero, declared.mnemonic.Link.TheVariants.Ra, declared.operands.Operands.Operands}
use Rattle.asm_statements.specs.declared.mnemonic.UnaryOp.TheVariants.{Mv, Not, Neg, Seqz, Snez, Sltz, Sgtz}
use Rattle.asm_statements.specs.declared.mnemonic.PlainOp.TheVariants.{Nop, Ret, Fence, FenceI, Ecall, Ebreak}
use Rattle.asm_statements.specs.{declared.expansion.Expansion.Expansion, declared.expansion.Expansion.TheVariants.One, declared.expansion.Expansion.TheVariants.Two}
use Rattle.asm_statements.proofs.{Registers.HasRegisters, Encodings.complement-signed}
use Rattle.asm_statements.proofs.Meanings.{IsHeld, r_word_means, shift_word_means, i_word_means, s_word_means, b_word_means, u_word_means, j_word_means}

-- ---- the numbers that pass the tests fit their fields

immediate_held : (v imm : ℤ) → immediate_of v ≡ Some imm → IsHeld 12 imm
unfolding immediate_of
immediate_held (pos n) imm is = record { small = grind (arith, nat_tests, ints); held = grind (arith, nat_tests, ints) }
immediate_held (negsuc n) imm is = record { small = grind (arith, nat_tests, ints); held = grind (arith, nat_tests, ints) }

-- an even offset of a field with k bits
record IsOffset (k : ℕ) (offset : ℤ) : Type 0 where
  held : IsHeld k offset
  even : complement (2 ^ k) offset % 2 ≡ 0

branch_held : (v offset : ℤ) → offset_of 4096 v ≡ Some offset → IsOffset 13 offset
unfolding offset_of
branch_held (pos n) offset is = record { held = record { small = grind (arith, nat_tests, ints); held = grind (arith, nat_tests, ints) }; even = grind (arith, nat_tests, ints) }
branch_held (negsuc n) offset is = record { held = record { small = grind (arith, nat_tests, ints); held = grind (arith, nat_tests, ints) }; even = grind (arith, nat_tests, ints) }

jump_held : (v offset : ℤ) → offset_of 1048576 v ≡ Some offset → IsOffset 21 offset
unfolding offset_of
jump_held (pos n) offset is = record { held = record { small = grind (arith, nat_tests, ints); held = grind (arith, nat_tests, ints) }; even = grind (arith, nat_tests, ints) }
jump_held (negsuc n) offset is = record { held = record { small = grind (arith, nat_tests, ints); held = grind (arith, nat_tests, ints) }; even = grind (arith, nat_tests, ints) }

amount-below : (limit : ℕ) (v : ℤ) (u : ℕ) → amount_of limit v ≡ Some u → u < limit
unfolding amount_of
amount-below limit (pos n) u is = grind (arith, nat_tests)
amount-below limit (negsuc n) u is = cc

pub modulo-below : (z : ℤ) → modulo_word z < 2 ^ 32
unfolding modulo_word
modulo-below (pos n) = omega arith
modulo-below (negsuc n) = omega arith

pub high-below : (u : ℕ) → high_part u < 2 ^ 20
unfolding high_part
high-below u = omega (arith, modulo-below (pos u -ℤ low_part u))

signed_held : (n : ℕ) → n < 2 ^ 12 → IsHeld 12 (signed 12 n)
signed_held n small =
    let bits : complement (2 ^ 12) (signed 12 n) ≡ n = complement-signed (2 ^ 11) (2 ^ 12) n refl small in
    record { small = omega arith; held = rw bits refl }

pub low_held : (u : ℕ) → IsHeld 12 (low_part u)
unfolding low_part
low_held u = signed_held (u % 2 ^ 12) (omega arith)

-- ---- each form's instruction is what its word means, which is below 2^32

abbrev pub IsMeant : Instr → Type 0
IsMeant i = (word_of i < 2 ^ 32) × Means (word_of i) i

register-meant : (op : Arithmetic) (rd rs1 rs2 : ℕ) → rd < 32 → rs1 < 32 → rs2 < 32 → IsMeant (instr.Register op rd rs1 rs2)
unfolding word_of
register-meant op rd rs1 rs2 a b c = r_word_means _ _ rd rs1 rs2 (register-funct3 op) (register-funct7 op) a b c

immediate-meant : (op : ImmediateOperator) (rd rs1 : ℕ) (imm : ℤ) → rd < 32 → rs1 < 32 → IsHeld 12 imm → IsMeant (instr.Immediate op rd rs1 imm)
unfolding word_of
immediate-meant op rd rs1 imm a b h = i_word_means 0b0010011 _ rd rs1 imm (omega arith) (immediate-funct3 op) a b h

shift-meant : (op : ShiftOperator) (rd rs1 amount : ℕ) → rd < 32 → rs1 < 32 → amount < 32 → IsMeant (instr.Shift op rd rs1 amount)
unfolding word_of
shift-meant op rd rs1 amount a b c = shift_word_means _ _ rd rs1 amount (shift-funct3 op) (shift-funct7 op) a b c

load-meant : (op : LoadOperator) (rd rs1 : ℕ) (imm : ℤ) → rd < 32 → rs1 < 32 → IsHeld 12 imm → IsMeant (instr.Load op rd rs1 imm)
unfolding word_of
load-meant op rd rs1 imm a b h = i_word_means 0b0000011 _ rd rs1 imm (omega arith) (load-funct3 op) a b h

store-meant : (width : Width) (rs1 rs2 : ℕ) (imm : ℤ) → rs1 < 32 → rs2 < 32 → IsHeld 12 imm → IsMeant (instr.Store width rs1 rs2 imm)
unfolding word_of
store-meant width rs1 rs2 imm a b h = s_word_means _ rs1 rs2 imm (store-funct3 width) a b h

branch-meant : (op : Condition) (rs1 rs2 : ℕ) (offset : ℤ) → rs1 < 32 → rs2 < 32 → IsOffset 13 offset → IsMeant (instr.Branch op rs1 rs2 offset)
unfolding word_of
branch-meant op rs1 rs2 offset a b h = b_word_means _ rs1 rs2 offset (branch-funct3 op) a b h.held h.even

jalr-meant : (rd rs1 : ℕ) (imm : ℤ) → rd < 32 → rs1 < 32 → IsHeld 12 imm → IsMeant (instr.Jalr rd rs1 imm)
unfolding word_of
jalr-meant rd rs1 imm a b h = i_word_means 0b1100111 0b000 rd rs1 imm (omega arith) (omega arith) a b h

upper-meant : (op : UpperOp) (rd u : ℕ) → rd < 32 → u < 2 ^ 20 → IsMeant (upper_instr op rd u)
unfolding word_of
upper-meant Lui rd u a b = u_word_means 0b0110111 rd u (omega arith) a b
upper-meant Auipc rd u a b = u_word_means 0b0010111 rd u (omega arith) a b

jump-meant : (rd : ℕ) (offset : ℤ) → rd < 32 → IsOffset 21 offset → IsMeant (instr.Jal rd offset)
unfolding word_of
jump-meant rd offset a h = j_word_means rd offset a h.held h.even

held_zero : IsHeld 12 (pos 0)
held_zero = record { small = omega arith; held = refl }

held_one : IsHeld 12 (pos 1)
held_one = record { small = omega arith; held = refl }

held_minus_one : IsHeld 12 (negsuc 0)
held_minus_one = record { small = omega arith; held = refl }

unary-meant : (op : UnaryOp) (rd rs : ℕ) → rd < 32 → rs < 32 → IsMeant (unary_instr op rd rs)
unary-meant Mv rd rs a b = immediate-meant Addi rd rs (pos 0) a b held_zero
unary-meant Not rd rs a b = immediate-meant Xori rd rs (negsuc 0) a b held_minus_one
unary-meant Neg rd rs a b = register-meant Sub rd 0 rs a (omega arith) b
unary-meant Seqz rd rs a b = immediate-meant Sltiu rd rs (pos 1) a b held_one
unary-meant Snez rd rs a b = register-meant Sltu rd 0 rs a (omega arith) b
unary-meant Sltz rd rs a b = register-meant Slt rd rs 0 a b (omega arith)
unary-meant Sgtz rd rs a b = register-meant Slt rd 0 rs a (omega arith) b

plain-meant : (op : PlainOp) → IsMeant (plain_instr op)
unfolding word_of
plain-meant Nop = immediate-meant Addi 0 0 (pos 0) (omega arith) (omega arith) held_zero
plain-meant Ret = jalr-meant 0 1 (pos 0) (omega arith) (omega arith) held_zero
plain-meant Fence = (lit< tt, (refl, refl))
plain-meant FenceI = (lit< tt, (refl, refl))
plain-meant Ecall = (lit< tt, refl)
plain-meant Ebreak = (lit< tt, refl)

link-below : (link : Link) → link_register link < 32
link-below Zero = omega arith
link-below Ra = omega arith

-- ---- the instructions of an expansion

-- each instruction of an expansion is what its word means
abbrev pub AreMeant : Expansion → Type 0
AreMeant (One i) = IsMeant i
AreMeant (Two i j) = IsMeant i × IsMeant j

same_expansion : (d e : Expansion) → Some d ≡ Some e → AreMeant d → AreMeant e
same_expansion d e is h = let same : d ≡ e = cc in subst (λ (x : Expansion). AreMeant x) same h

one-meant : {A : Type 0} (f : A → Instr) (x : Option A) (e : Expansion) → ((a : A) → x ≡ Some a → IsMeant (f a)) → option_map (λ (a : A). One (f a)) x ≡ Some e → AreMeant e
one-meant f (Some a) e h is = same_expansion (One (f a)) e is (h a refl)
one-meant f None e h is = cc

long-meant : (rd u : ℕ) → rd < 32 → AreMeant (fitting_expansion rd u None)
long-meant rd u a =
    elim (u % 2 ^ 12 == 0) as (λ b. AreMeant (if b then One (instr.Lui rd (high_part u)) else Two (instr.Lui rd (high_part u)) (instr.Immediate Addi rd rd (low_part u)))) [
      | true ↦ upper-meant Lui rd (high_part u) a (high-below u)
      | false ↦ (upper-meant Lui rd (high_part u) a (high-below u), immediate-meant Addi rd rd (low_part u) a a (low_held u))
    ]

fitting-meant : (rd u : ℕ) (v : ℤ) (x : Option ℤ) → rd < 32 → immediate_of v ≡ x → AreMeant (fitting_expansion rd u x)
fitting-meant rd u v (Some imm) a is = immediate-meant Addi rd 0 imm a (omega arith) (immediate_held v imm is)
fitting-meant rd u v None a is = long-meant rd u a

-- the words of an expansion of registers mean its instructions
pub expansion-meant : (m : Mnemonic) (o : Operands) (v : ℤ) (e : Expansion) → HasRegisters o → expansion_of m o v ≡ Some e → AreMeant e
expansion-meant (form.Registers op) o v e h is = same_expansion _ e is (register-meant op o.first o.second o.third h.first h.second h.third)
expansion-meant (form.Immediate op) o v e h is = one-meant (λ imm. instr.Immediate op o.first o.second imm) (immediate_of v) e (λ imm found. immediate-meant op o.first o.second imm h.first h.second (immediate_held v imm found)) is
expansion-meant (form.Shift op) o v e h is = one-meant (λ amount. instr.Shift op o.first o.second amount) (amount_of 32 v) e (λ amount found. shift-meant op o.first o.second amount h.first h.second (amount-below 32 v amount found)) is
expansion-meant (form.Load op) o v e h is = one-meant (λ imm. instr.Load op o.first o.second imm) (immediate_of v) e (λ imm found. load-meant op o.first o.second imm h.first h.second (immediate_held v imm found)) is
expansion-meant (form.Store op) o v e h is = one-meant (λ imm. instr.Store op o.second o.first imm) (immediate_of v) e (λ imm found. store-meant op o.second o.first imm h.second h.first (immediate_held v imm found)) is
expansion-meant (form.Branch op) o v e h is = one-meant (λ offset. instr.Branch op o.first o.second offset) (offset_of 4096 v) e (λ offset found. branch-meant op o.first o.second offset h.first h.second (branch_held v offset found)) is
expansion-meant (form.Swapped op) o v e h is = one-meant (λ offset. instr.Branch op o.second o.first offset) (offset_of 4096 v) e (λ offset found. branch-meant op o.second o.first offset h.second h.first (branch_held v offset found)) is
expansion-meant (form.WithZero op) o v e h is = one-meant (λ offset. instr.Branch op o.first 0 offset) (offset_of 4096 v) e (λ offset found. branch-meant op o.first 0 offset h.first (omega arith) (branch_held v offset found)) is
expansion-meant (form.FromZero op) o v e h is = one-meant (λ offset. instr.Branch op 0 o.first offset) (offset_of 4096 v) e (λ offset found. branch-meant op 0 o.first offset (omega arith) h.first (branch_held v offset found)) is
expansion-meant (form.Upper op) o v e h is = one-meant (λ u. upper_instr op o.first u) (amount_of 1048576 v) e (λ u found. upper-meant op o.first u h.first (amount-below 1048576 v u found)) is
expansion-meant form.Jal o v e h is = one-meant (λ offset. instr.Jal o.first offset) (offset_of 1048576 v) e (λ offset found. jump-meant o.first offset h.first (jump_held v offset found)) is
expansion-meant form.Jalr o v e h is = one-meant (λ imm. instr.Jalr o.first o.second imm) (immediate_of v) e (λ imm found. jalr-meant o.first o.second imm h.first h.second (immediate_held v imm found)) is
expansion-meant (form.Jump link) o v e h is = one-meant (λ offset. instr.Jal (link_register link) offset) (offset_of 1048576 v) e (λ offset found. jump-meant (link_register link) offset (link-below link) (jump_held v offset found)) is
expansion-meant (form.JumpRegister link) o v e h is = same_expansion _ e is (jalr-meant (link_register link) o.first (pos 0) (link-below link) h.first held_zero)
expansion-meant (form.Unary op) o v e h is = same_expansion _ e is (unary-meant op o.first o.second h.first h.second)
expansion-meant (form.Plain op) o v e h is = same_expansion _ e is (plain-meant op)
expansion-meant form.Li o v e h is =
    let u : ℕ = modulo_word (written o.value) in
    same_expansion (li_expansion o.first u) e is (fitting-meant o.first u (cast_signed w32 u) (immediate_of (cast_signed w32 u)) h.first refl)
expansion-meant form.La o v e h is =
    let u : ℕ = modulo_word v in
    same_expansion (la_expansion o.first u) e is (upper-meant Auipc o.first (high_part u) h.first (high-below u), immediate-meant Addi o.first o.first (low_part u) h.first h.first (low_held u))
