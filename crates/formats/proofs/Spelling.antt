-- A word below 2 ^ 32 is known by its fields, so only one spells an instruction other than FENCE.
use Rattle.std.proofs.Common.{ℕ, ℤ, pos, ◌-ℤ◌, ◌≡◌, ◌<◌, ◌+◌, ◌*◌, ◌^◌, refl, sym, ◌∙◌, arith, nat_lt}
use Rattle.std.specs.Prelude.{if◌then◌else◌}
use Rattle.std.proofs.lemmas.Bool.Decides.{nat_tests}
use Rattle.std.proofs.lemmas.Int.{ints}
use Rattle.formats.specs.Fields.{field, opcode, rd_of, immediate_j}
use Rattle.formats.specs.Meaning.{Means, IsU, IsI, IsS, IsB, IsShift, IsR}
use Rattle.formats.specs.declared.instr.Instr.{Instr}
use Rattle.formats.specs.declared.instr.Instr.TheVariants as instr

-- a field with a sign is known by its value
same_signed : (h g n m : ℕ) → g ≡ h + h → n < g → m < g → (if nat_lt n h then pos n else pos n -ℤ pos g) ≡ (if nat_lt m h then pos m else pos m -ℤ pos g) → n ≡ m
same_signed h g n m e p q same = grind (arith, nat_tests, ints)

same_u : (w v o rd imm : ℕ) → w < 2 ^ 32 → v < 2 ^ 32 → IsU w o rd imm → IsU v o rd imm → w ≡ v
same_u w v o rd imm p q (a, b, c) (a', b', c') = omega arith

same_j : (w v o rd : ℕ) (offset : ℤ) → w < 2 ^ 32 → v < 2 ^ 32 → opcode w ≡ o → opcode v ≡ o → rd ≡ rd_of w → rd ≡ rd_of v → offset ≡ immediate_j w → offset ≡ immediate_j v → w ≡ v
same_j w v o rd offset p q a a' b b' c c' =
    let raw = λ (w : ℕ). field w 31 31 * 2 ^ 20 + field w 19 12 * 2 ^ 12 + field w 20 20 * 2 ^ 11 + field w 30 21 * 2 in
    let same : raw w ≡ raw v = same_signed (2 ^ 20) (2 ^ 21) (raw w) (raw v) refl (omega arith) (omega arith) (sym c ∙ c') in
    omega arith

same_i : (w v o f rd rs1 : ℕ) (imm : ℤ) → w < 2 ^ 32 → v < 2 ^ 32 → IsI w o f rd rs1 imm → IsI v o f rd rs1 imm → w ≡ v
same_i w v o f rd rs1 imm p q (a, b, c, d, e) (a', b', c', d', e') =
    let same : field w 31 20 ≡ field v 31 20 = same_signed (2 ^ 11) (2 ^ 12) (field w 31 20) (field v 31 20) refl (omega arith) (omega arith) (sym e ∙ e') in
    omega arith

same_s : (w v f rs1 rs2 : ℕ) (imm : ℤ) → w < 2 ^ 32 → v < 2 ^ 32 → IsS w f rs1 rs2 imm → IsS v f rs1 rs2 imm → w ≡ v
same_s w v f rs1 rs2 imm p q (a, b, c, d, e) (a', b', c', d', e') =
    let raw = λ (w : ℕ). field w 31 25 * 2 ^ 5 + field w 11 7 in
    let same : raw w ≡ raw v = same_signed (2 ^ 11) (2 ^ 12) (raw w) (raw v) refl (omega arith) (omega arith) (sym e ∙ e') in
    omega arith

same_b : (w v f rs1 rs2 : ℕ) (offset : ℤ) → w < 2 ^ 32 → v < 2 ^ 32 → IsB w f rs1 rs2 offset → IsB v f rs1 rs2 offset → w ≡ v
same_b w v f rs1 rs2 offset p q (a, b, c, d, e) (a', b', c', d', e') =
    let raw = λ (w : ℕ). field w 31 31 * 2 ^ 12 + field w 7 7 * 2 ^ 11 + field w 30 25 * 2 ^ 5 + field w 11 8 * 2 in
    let same : raw w ≡ raw v = same_signed (2 ^ 12) (2 ^ 13) (raw w) (raw v) refl (omega arith) (omega arith) (sym e ∙ e') in
    let top : field w 31 31 ≡ field v 31 31 = omega (arith, same) in
    let next : field w 7 7 ≡ field v 7 7 = omega (arith, same) in
    let upper : field w 30 25 ≡ field v 30 25 = omega (arith, same) in
    let lower : field w 11 8 ≡ field v 11 8 = omega (arith, same) in
    omega arith

same_shift : (w v f g rd rs1 amount : ℕ) → w < 2 ^ 32 → v < 2 ^ 32 → IsShift w f g rd rs1 amount → IsShift v f g rd rs1 amount → w ≡ v
same_shift w v f g rd rs1 amount p q (a, b, c, d, e, k) (a', b', c', d', e', k') = omega arith

same_r : (w v f g rd rs1 rs2 : ℕ) → w < 2 ^ 32 → v < 2 ^ 32 → IsR w f g rd rs1 rs2 → IsR v f g rd rs1 rs2 → w ≡ v
same_r w v f g rd rs1 rs2 p q (a, b, c, d, e, k) (a', b', c', d', e', k') = omega arith

-- two words that mean one instruction are one word, unless it is FENCE
pub means_once : (w v : ℕ) (i : Instr) → w < 2 ^ 32 → v < 2 ^ 32 → (i ≡ instr.Fence → ⊥) → (i ≡ instr.FenceI → ⊥) → Means w i → Means v i → w ≡ v
means_once w v (instr.Lui rd imm) p q not_fence not_fence_i m n = same_u w v _ rd imm p q m n
means_once w v (instr.Auipc rd imm) p q not_fence not_fence_i m n = same_u w v _ rd imm p q m n
means_once w v (instr.Jal rd offset) p q not_fence not_fence_i m n = same_j w v _ rd offset p q m.0 n.0 m.1 n.1 m.2 n.2
means_once w v (instr.Jalr rd rs1 imm) p q not_fence not_fence_i m n = same_i w v _ _ rd rs1 imm p q m n
means_once w v (instr.Branch x rs1 rs2 offset) p q not_fence not_fence_i m n = same_b w v _ rs1 rs2 offset p q m n
means_once w v (instr.Load x rd rs1 imm) p q not_fence not_fence_i m n = same_i w v _ _ rd rs1 imm p q m n
means_once w v (instr.Store x rs1 rs2 imm) p q not_fence not_fence_i m n = same_s w v _ rs1 rs2 imm p q m n
means_once w v (instr.Immediate x rd rs1 imm) p q not_fence not_fence_i m n = same_i w v _ _ rd rs1 imm p q m n
means_once w v (instr.Shift x rd rs1 amount) p q not_fence not_fence_i m n = same_shift w v _ _ rd rs1 amount p q m n
means_once w v (instr.Register x rd rs1 rs2) p q not_fence not_fence_i m n = same_r w v _ _ rd rs1 rs2 p q m n
means_once w v instr.Fence p q not_fence not_fence_i m n = absurd (not_fence refl)
means_once w v instr.FenceI p q not_fence not_fence_i m n = absurd (not_fence_i refl)
means_once w v instr.Ecall p q not_fence not_fence_i m n = m ∙ sym n
means_once w v instr.Ebreak p q not_fence not_fence_i m n = m ∙ sym n
