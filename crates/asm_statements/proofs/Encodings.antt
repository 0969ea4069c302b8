-- A word below 2 ^ 32 that means an instruction is that instruction's word, where it is the right one of those of FENCE and of
-- FENCE.I.
use Rattle.std.proofs.Common.{ℕ, ℤ, pos, ◌-ℤ◌, ◌≡◌, ◌<◌, ◌+◌, ◌*◌, ◌/◌, ◌%◌, ◌^◌, refl, sym, ap, ◌∙◌, arith, nat_lt, true, false}
use Rattle.std.specs.Prelude.{if◌then◌else◌}
use Rattle.std.proofs.lemmas.Int.{ints}
use Rattle.formats.specs.{Fields.field, Fields.opcode, Fields.rd_of, Fields.immediate_j, declared.instr.Instr.Instr}
use Rattle.formats.specs.Meaning.{Means, IsU, IsI, IsS, IsB, IsShift, IsR}
use Rattle.formats.specs.declared.instr.Instr.TheVariants as instr
use Rattle.asm_statements.specs.Expansion.{complement, r_word, i_word, s_word, b_word, u_word, j_word, word_of}

-- a number of k bits with its sign bit, less 2 ^ k, gives back its bits
complement-sub : (g n : ℕ) → n < g → complement g (pos n -ℤ pos g) ≡ n
complement-sub g n p = grind (arith, ints)

-- a field with a sign gives back its bits
pub complement-signed : (h g n : ℕ) → g ≡ h + h → n < g → complement g (if nat_lt n h then pos n else pos n -ℤ pos g) ≡ n
complement-signed h g n e p =
    elim (nat_lt n h) as (λ b. nat_lt n h ≡ b → complement g (if b then pos n else pos n -ℤ pos g) ≡ n) [
      | true ↦ λ _. refl
      | false ↦ λ q. complement-sub g n p
    ] refl

r_word_is : (w f g rd rs1 rs2 : ℕ) → w < 2 ^ 32 → IsR w f g rd rs1 rs2 → w ≡ r_word 0b0110011 f g rd rs1 rs2
r_word_is w f g rd rs1 rs2 p (a, b, c, d, e, k) = omega arith

shift_word_is : (w f g rd rs1 amount : ℕ) → w < 2 ^ 32 → IsShift w f g rd rs1 amount → w ≡ r_word 0b0010011 f g rd rs1 amount
shift_word_is w f g rd rs1 amount p (a, b, c, d, e, k) = omega arith

u_word_is : (w o rd imm : ℕ) → w < 2 ^ 32 → IsU w o rd imm → w ≡ u_word o rd imm
u_word_is w o rd imm p (a, b, c) = omega arith

i_word_is : (w o f rd rs1 : ℕ) (imm : ℤ) → w < 2 ^ 32 → IsI w o f rd rs1 imm → w ≡ i_word o f rd rs1 imm
i_word_is w o f rd rs1 imm p (a, b, c, d, e) =
    let bits : complement (2 ^ 12) imm ≡ field w 31 20 = ap (complement (2 ^ 12)) e ∙ complement-signed (2 ^ 11) (2 ^ 12) (field w 31 20) refl (omega arith) in
    omega arith

s_word_is : (w f rs1 rs2 : ℕ) (imm : ℤ) → w < 2 ^ 32 → IsS w f rs1 rs2 imm → w ≡ s_word f rs1 rs2 (complement (2 ^ 12) imm)
s_word_is w f rs1 rs2 imm p (a, b, c, d, e) =
    let raw : ℕ = field w 31 25 * 2 ^ 5 + field w 11 7 in
    let bits : complement (2 ^ 12) imm ≡ raw = ap (complement (2 ^ 12)) e ∙ complement-signed (2 ^ 11) (2 ^ 12) raw refl (omega arith) in
    let split : w ≡ s_word f rs1 rs2 raw = omega arith in
    split ∙ ap (s_word f rs1 rs2) (sym bits)

b_word_is : (w f rs1 rs2 : ℕ) (offset : ℤ) → w < 2 ^ 32 → IsB w f rs1 rs2 offset → w ≡ b_word f rs1 rs2 (complement (2 ^ 13) offset)
b_word_is w f rs1 rs2 offset p (a, b, c, d, e) =
    let raw : ℕ = field w 31 31 * 2 ^ 12 + field w 7 7 * 2 ^ 11 + field w 30 25 * 2 ^ 5 + field w 11 8 * 2 in
    let bits : complement (2 ^ 13) offset ≡ raw = ap (complement (2 ^ 13)) e ∙ complement-signed (2 ^ 12) (2 ^ 13) raw refl (omega arith) in
    let top : raw / 2 ^ 12 ≡ field w 31 31 = omega arith in
    let next : raw / 2 ^ 11 % 2 ≡ field w 7 7 = omega arith in
    let upper : raw / 2 ^ 5 % 2 ^ 6 ≡ field w 30 25 = omega arith in
    let lower : raw / 2 % 2 ^ 4 ≡ field w 11 8 = omega arith in
    let split : w ≡ b_word f rs1 rs2 raw = rw (top, next, upper, lower) (omega arith) in
    split ∙ ap (b_word f rs1 rs2) (sym bits)

j_word_is : (w rd : ℕ) (offset : ℤ) → w < 2 ^ 32 → opcode w ≡ 0b1101111 → rd ≡ rd_of w → offset ≡ immediate_j w → w ≡ j_word rd (complement (2 ^ 21) offset)
j_word_is w rd offset p a b e =
    let raw : ℕ = field w 31 31 * 2 ^ 20 + field w 19 12 * 2 ^ 12 + field w 20 20 * 2 ^ 11 + field w 30 21 * 2 in
    let bits : complement (2 ^ 21) offset ≡ raw = ap (complement (2 ^ 21)) e ∙ complement-signed (2 ^ 20) (2 ^ 21) raw refl (omega arith) in
    let top : raw / 2 ^ 20 ≡ field w 31 31 = omega arith in
    let low : raw / 2 % 2 ^ 10 ≡ field w 30 21 = omega arith in
    let middle : raw / 2 ^ 11 % 2 ≡ field w 20 20 = omega arith in
    let high : raw / 2 ^ 12 % 2 ^ 8 ≡ field w 19 12 = omega arith in
    let split : w ≡ j_word rd raw = rw (top, low, middle, high) (omega arith) in
    split ∙ ap (j_word rd) (sym bits)

-- a word that means an instruction is its word
pub word_is : (w : ℕ) (i : Instr) → w < 2 ^ 32 → (i ≡ instr.Fence → w ≡ 0x0FF0000F) → (i ≡ instr.FenceI → w ≡ 0x0000100F) → Means w i → w ≡ word_of i
unfolding word_of
word_is w (instr.Lui rd imm) below fence fence_i m = u_word_is w _ rd imm below m
word_is w (instr.Auipc rd imm) below fence fence_i m = u_word_is w _ rd imm below m
word_is w (instr.Jal rd offset) below fence fence_i m = j_word_is w rd offset below m.0 m.1 m.2
word_is w (instr.Jalr rd rs1 imm) below fence fence_i m = i_word_is w _ _ rd rs1 imm below m
word_is w (instr.Branch x rs1 rs2 offset) below fence fence_i m = b_word_is w _ rs1 rs2 offset below m
word_is w (instr.Load x rd rs1 imm) below fence fence_i m = i_word_is w _ _ rd rs1 imm below m
word_is w (instr.Store x rs1 rs2 imm) below fence fence_i m = s_word_is w _ rs1 rs2 imm below m
word_is w (instr.Immediate x rd rs1 imm) below fence fence_i m = i_word_is w _ _ rd rs1 imm below m
word_is w (instr.Shift x rd rs1 amount) below fence fence_i m = shift_word_is w _ _ rd rs1 amount below m
word_is w (instr.Register x rd rs1 rs2) below fence fence_i m = r_word_is w _ _ rd rs1 rs2 below m
word_is w instr.Fence below fence fence_i m = fence refl
word_is w instr.FenceI below fence fence_i m = fence_i refl
word_is w instr.Ecall below fence fence_i m = m
word_is w instr.Ebreak below fence fence_i m = m
