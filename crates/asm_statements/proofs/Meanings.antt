-- The word of an instruction whose registers and numbers fit their fields means it.
use Rattle.std.proofs.Common.{ℕ, ℤ, ◌≡◌, ◌<◌, ◌+◌, ◌*◌, ◌/◌, ◌%◌, ◌^◌, sym, ap, ◌∙◌, arith}
use Rattle.formats.specs.Fields.{field, signed, opcode, funct3, funct7, rd_of, rs1_of, rs2_of, immediate_j}
use Rattle.formats.specs.Meaning.{IsU, IsI, IsS, IsB, IsShift, IsR}
use Rattle.asm_statements.specs.Expansion.{fields_word, complement, r_word, i_word, s_word, b_word, u_word, j_word}

-- a number with a sign is what its field of k bits holds
pub record IsHeld (k : ℕ) (z : ℤ) : Type 0 where
  pub small : complement (2 ^ k) z < 2 ^ k
  pub held : signed k (complement (2 ^ k) z) ≡ z

-- the fields of a word of twelve bits, rs1, funct3, five bits and the opcode, below 2^32
record IsSpelled (w high rs1 f low o : ℕ) : Type 0 where
  small : w < 2 ^ 32
  sort : opcode w ≡ o
  third : funct3 w ≡ f
  target : rd_of w ≡ low
  source : rs1_of w ≡ rs1
  top : field w 31 20 ≡ high
  seventh : funct7 w ≡ high / 2 ^ 5
  other : rs2_of w ≡ high % 2 ^ 5

spelled : (high rs1 f low o : ℕ) → high < 2 ^ 12 → rs1 < 32 → f < 8 → low < 32 → o < 128 → IsSpelled (fields_word high rs1 f low o) high rs1 f low o
spelled high rs1 f low o a b c d e = record {
  small = omega arith;
  sort = omega arith;
  third = omega arith;
  target = omega arith;
  source = omega arith;
  top = omega arith;
  seventh = omega arith;
  other = omega arith;
}

pub r_word_means : (f g rd rs1 rs2 : ℕ) → f < 8 → g < 128 → rd < 32 → rs1 < 32 → rs2 < 32 → (r_word 0b0110011 f g rd rs1 rs2 < 2 ^ 32) × IsR (r_word 0b0110011 f g rd rs1 rs2) f g rd rs1 rs2
r_word_means f g rd rs1 rs2 a b c d e =
    let s = spelled (g * 2 ^ 5 + rs2) rs1 f rd 0b0110011 (omega arith) d a c (omega arith) in
    (s.small, (s.sort, s.third, s.seventh ∙ omega arith, sym s.target, sym s.source, sym (s.other ∙ omega arith)))

pub shift_word_means : (f g rd rs1 amount : ℕ) → f < 8 → g < 128 → rd < 32 → rs1 < 32 → amount < 32 → (r_word 0b0010011 f g rd rs1 amount < 2 ^ 32) × IsShift (r_word 0b0010011 f g rd rs1 amount) f g rd rs1 amount
shift_word_means f g rd rs1 amount a b c d e =
    let s = spelled (g * 2 ^ 5 + amount) rs1 f rd 0b0010011 (omega arith) d a c (omega arith) in
    (s.small, (s.sort, s.third, s.seventh ∙ omega arith, sym s.target, sym s.source, sym (s.other ∙ omega arith)))

pub i_word_means : (o f rd rs1 : ℕ) (imm : ℤ) → o < 128 → f < 8 → rd < 32 → rs1 < 32 → IsHeld 12 imm → (i_word o f rd rs1 imm < 2 ^ 32) × IsI (i_word o f rd rs1 imm) o f rd rs1 imm
i_word_means o f rd rs1 imm a b c d h =
    let s = spelled (complement (2 ^ 12) imm) rs1 f rd o h.small d b c a in
    (s.small, (s.sort, s.third, sym s.target, sym s.source, sym (ap (signed 12) s.top ∙ h.held)))

pub s_word_means : (f rs1 rs2 : ℕ) (imm : ℤ) → f < 8 → rs1 < 32 → rs2 < 32 → IsHeld 12 imm → (s_word f rs1 rs2 (complement (2 ^ 12) imm) < 2 ^ 32) × IsS (s_word f rs1 rs2 (complement (2 ^ 12) imm)) f rs1 rs2 imm
s_word_means f rs1 rs2 imm a b c h =
    let n : ℕ = complement (2 ^ 12) imm in
    let small : n < 2 ^ 12 = h.small in
    let s = spelled (n / 2 ^ 5 * 2 ^ 5 + rs2) rs1 f (n % 2 ^ 5) 0b0100011 (omega arith) b a (omega arith) (omega arith) in
    let whole : field (s_word f rs1 rs2 n) 31 25 * 2 ^ 5 + field (s_word f rs1 rs2 n) 11 7 ≡ n = omega (arith, s.seventh, s.target) in
    (s.small, (s.sort, s.third, sym s.source, sym (s.other ∙ omega arith), sym (ap (signed 12) whole ∙ h.held)))

pub b_word_means : (f rs1 rs2 : ℕ) (offset : ℤ) → f < 8 → rs1 < 32 → rs2 < 32 → IsHeld 13 offset → complement (2 ^ 13) offset % 2 ≡ 0 → (b_word f rs1 rs2 (complement (2 ^ 13) offset) < 2 ^ 32) × IsB (b_word f rs1 rs2 (complement (2 ^ 13) offset)) f rs1 rs2 offset
b_word_means f rs1 rs2 offset a b c h even =
    let n : ℕ = complement (2 ^ 13) offset in
    let small : n < 2 ^ 13 = h.small in
    let w : ℕ = b_word f rs1 rs2 n in
    let s = spelled (n / 2 ^ 12 * 2 ^ 11 + n / 2 ^ 5 % 2 ^ 6 * 2 ^ 5 + rs2) rs1 f (n / 2 % 2 ^ 4 * 2 + n / 2 ^ 11 % 2) 0b1100011 (omega arith) b a (omega arith) (omega arith) in
    let top : field w 31 31 ≡ n / 2 ^ 12 = omega (arith, s.seventh) in
    let upper : field w 30 25 ≡ n / 2 ^ 5 % 2 ^ 6 = omega (arith, s.seventh) in
    let lower : field w 11 8 ≡ n / 2 % 2 ^ 4 = omega (arith, s.target) in
    let next : field w 7 7 ≡ n / 2 ^ 11 % 2 = omega (arith, s.target) in
    let whole : field w 31 31 * 2 ^ 12 + field w 7 7 * 2 ^ 11 + field w 30 25 * 2 ^ 5 + field w 11 8 * 2 ≡ n = rw (top, next, upper, lower) (omega arith) in
    (s.small, (s.sort, s.third, sym s.source, sym (s.other ∙ omega arith), sym (ap (signed 13) whole ∙ h.held)))

pub u_word_means : (o rd imm : ℕ) → o < 128 → rd < 32 → imm < 2 ^ 20 → (u_word o rd imm < 2 ^ 32) × IsU (u_word o rd imm) o rd imm
u_word_means o rd imm a b c = (omega arith, (omega arith, omega arith, omega arith))

pub j_word_means : (rd : ℕ) (offset : ℤ) → rd < 32 → IsHeld 21 offset → complement (2 ^ 21) offset % 2 ≡ 0
    → (j_word rd (complement (2 ^ 21) offset) < 2 ^ 32)
    × ((opcode (j_word rd (complement (2 ^ 21) offset)) ≡ 0b1101111) × (rd ≡ rd_of (j_word rd (complement (2 ^ 21) offset))) × (offset ≡ immediate_j (j_word rd (complement (2 ^ 21) offset))))
j_word_means rd offset a h even =
    let n : ℕ = complement (2 ^ 21) offset in
    let small : n < 2 ^ 21 = h.small in
    let w : ℕ = j_word rd n in
    let means = u_word_means 0b1101111 rd (n / 2 ^ 20 * 2 ^ 19 + n / 2 % 2 ^ 10 * 2 ^ 9 + n / 2 ^ 11 % 2 * 2 ^ 8 + n / 2 ^ 12 % 2 ^ 8) (omega arith) a (omega arith) in
    let u : IsU w 0b1101111 rd (n / 2 ^ 20 * 2 ^ 19 + n / 2 % 2 ^ 10 * 2 ^ 9 + n / 2 ^ 11 % 2 * 2 ^ 8 + n / 2 ^ 12 % 2 ^ 8) = means.1 in
    let top : field w 31 31 ≡ n / 2 ^ 20 = omega (arith, u.2) in
    let low : field w 30 21 ≡ n / 2 % 2 ^ 10 = omega (arith, u.2) in
    let middle : field w 20 20 ≡ n / 2 ^ 11 % 2 = omega (arith, u.2) in
    let high : field w 19 12 ≡ n / 2 ^ 12 % 2 ^ 8 = omega (arith, u.2) in
    let whole : field w 31 31 * 2 ^ 20 + field w 19 12 * 2 ^ 12 + field w 20 20 * 2 ^ 11 + field w 30 21 * 2 ≡ n = rw (top, low, middle, high) (omega arith) in
    (means.0, (u.0, u.1, sym (ap (signed 21) whole ∙ h.held)))
