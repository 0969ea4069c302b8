-- `li` and `la` load what they say.
use Rattle.std.proofs.Common.{ℕ, ℤ, pos, negsuc, ◌+ℤ◌, ◌-ℤ◌, ◌≡◌, ◌+◌, ◌-◌, ◌*◌, ◌%◌, ◌^◌, ◌<◌, Bool, true, false, List, [], ◌∷◌, length, Option, Some, None, refl, sym, ap, ◌∙◌, arith}
use Rattle.std.specs.Prelude.{◌==◌, if◌then◌else◌, slice_index, slice_set}
use Rattle.std.proofs.{lemmas.List.set-set, lemmas.List.get_or-set_same, lemmas.Int.ints, lemmas.Int.of_z-to_z, lemmas.Bool.Decides.nat_tests}
use Rattle.std.specs.Int.{cast_signed, w32}
use Rattle.formats.specs.{Fields.signed, declared.operators.ImmediateOperator.TheVariants.Addi}
use Rattle.formats.specs.declared.instr.Instr.TheVariants as instr
use Rattle.machine_model.specs.{Effects.ArchitecturalState, Effects.reg, Effects.put, Effects.effect, Arithmetic.as_word, Arithmetic.sum}
use Rattle.asm_statements.specs.Expansion.{immediate_of, modulo_word, low_part, high_part, li_expansion, la_expansion, fitting_expansion, instructions_of}
use Rattle.assembler.specs.Loads.{carried_out, with_value}
use Rattle.asm_statements.specs.declared.expansion.Expansion.TheVariants.{One, Two}
use Rattle.asm_statements.proofs.{Meanings.IsHeld, Expansions.low_held, Expansions.high-below, Parts.parts-add-up, Parts.modulo_pos, Parts.modulo_shifted}

-- a number that fits is the one that was tested
immediate-same : (v imm : ℤ) → immediate_of v ≡ Some imm → imm ≡ v
unfolding immediate_of
immediate-same (pos n) imm is = grind (arith, nat_tests)
immediate-same (negsuc n) imm is = grind (arith, nat_tests)

-- the sum of a number and one that a field of twelve bits holds, modulo 2^32
modulo-sum : (a : ℕ) (z : ℤ) → IsHeld 12 z → modulo_word (pos a +ℤ z) ≡ (a + as_word z) % 2 ^ 32
modulo-sum a (pos n) h = modulo_pos (pos a +ℤ pos n) (a + n) refl
modulo-sum a (negsuc n) h =
    let small : n < 2 ^ 12 = grind (arith, nat_tests, ints, h.held) in
    modulo_shifted (pos a +ℤ negsuc n) (a + as_word (negsuc n)) (omega (arith, ints))

parts-sum : (u : ℕ) → (high_part u * 2 ^ 12 + as_word (low_part u)) % 2 ^ 32 ≡ u % 2 ^ 32
parts-sum u = sym (modulo-sum (high_part u * 2 ^ 12) (low_part u) (low_held u)) ∙ parts-add-up u

-- a register that is set, and set again to a sum with itself
set-again : (registers : List ℕ) (rd x value : ℕ) (z : ℤ) → rd < length registers → sum x (as_word z) ≡ value → put (put registers rd x) rd (sum (slice_index (put registers rd x) rd) (as_word z)) ≡ put registers rd value
set-again registers rd x value z below is = by_test (rd == 0)
  where
    by_test : (b : Bool) → (if b then (if b then registers else slice_set registers rd x) else slice_set (if b then registers else slice_set registers rd x) rd (sum (slice_index (if b then registers else slice_set registers rd x) rd) (as_word z)))
        ≡ (if b then registers else slice_set registers rd value)
    by_test true = refl
    by_test false =
        set-set registers rd x (sum (slice_index (slice_set registers rd x) rd) (as_word z))
        ∙ ap (λ (n : ℕ). slice_set registers rd (sum n (as_word z))) (get_or-set_same registers rd x 0 below)
        ∙ ap (λ (n : ℕ). slice_set registers rd n) is

-- the pc after two words
pc-twice : (pc : ℕ) → ((pc + 4) % 2 ^ 32 + 4) % 2 ^ 32 ≡ (pc + 4 * 2) % 2 ^ 32
pc-twice pc = omega arith

-- an `addi` after an instruction that set its register
added : (h : ArchitecturalState) (rd x value : ℕ) (z : ℤ) → length h.registers ≡ 32 → rd < 32 → sum x (as_word z) ≡ value
    → carried_out (instr.Immediate Addi rd rd z ∷ []) (record { registers = put h.registers rd x; pc = (h.pc + 4) % 2 ^ 32; memory = h.memory }) ≡ Some (with_value h rd value 2)
unfolding effect
added h rd x value z size below is =
    let registers : put (put h.registers rd x) rd (sum (slice_index (put h.registers rd x) rd) (as_word z)) ≡ put h.registers rd value = set-again h.registers rd x value z (omega (arith, size)) is in
    λ i. Some (record { registers = registers i; pc = pc-twice h.pc i; memory = h.memory })

li-fitting : (h : ArchitecturalState) (rd u : ℕ) (imm : ℤ) → reg h 0 ≡ 0 → u < 2 ^ 32 → immediate_of (cast_signed w32 u) ≡ Some imm → carried_out (instr.Immediate Addi rd 0 imm ∷ []) h ≡ Some (with_value h rd u 1)
unfolding effect
li-fitting h rd u imm none small fits =
    let word : as_word imm ≡ u = ap as_word (immediate-same (cast_signed w32 u) imm fits) ∙ of_z-to_z w32 u small in
    let value : sum (reg h 0) (as_word imm) ≡ u = omega (arith, none, word, small) in
    ap (λ (n : ℕ). Some (record { registers = put h.registers rd n; pc = (h.pc + 4) % 2 ^ 32; memory = h.memory })) value

-- a number with no low part is its high part, shifted up
low-none : (u : ℕ) → u % 2 ^ 12 ≡ 0 → low_part u ≡ pos 0
unfolding low_part
low-none u none = ap (signed 12) none

high-whole : (u : ℕ) → u % 2 ^ 12 ≡ 0 → u < 2 ^ 32 → high_part u * 2 ^ 12 ≡ u
high-whole u none small =
    let low : as_word (low_part u) ≡ 0 = ap as_word (low-none u none) in
    omega (arith, parts-sum u, low, high-below u)

li-whole : (h : ArchitecturalState) (rd u : ℕ) → u % 2 ^ 12 ≡ 0 → u < 2 ^ 32 → carried_out (instr.Lui rd (high_part u) ∷ []) h ≡ Some (with_value h rd u 1)
unfolding effect
li-whole h rd u none small = ap (λ (n : ℕ). Some (record { registers = put h.registers rd n; pc = (h.pc + 4) % 2 ^ 32; memory = h.memory })) (high-whole u none small)

li-parts : (h : ArchitecturalState) (rd u : ℕ) → length h.registers ≡ 32 → rd < 32 → u < 2 ^ 32 → carried_out (instr.Lui rd (high_part u) ∷ instr.Immediate Addi rd rd (low_part u) ∷ []) h ≡ Some (with_value h rd u 2)
unfolding effect
li-parts h rd u size below small = added h rd (high_part u * 2 ^ 12) u (low_part u) size below (let parts : (high_part u * 2 ^ 12 + as_word (low_part u)) % 2 ^ 32 ≡ u % 2 ^ 32 = parts-sum u in omega arith)

li-long : (h : ArchitecturalState) (rd u : ℕ) → length h.registers ≡ 32 → rd < 32 → u < 2 ^ 32 → carried_out (instructions_of (fitting_expansion rd u None)) h ≡ Some (with_value h rd u (length (instructions_of (fitting_expansion rd u None))))
li-long h rd u size below small = by_test (u % 2 ^ 12 == 0) refl
  where
    by_test : (b : Bool) → (u % 2 ^ 12 == 0) ≡ b → carried_out (instructions_of (if b then One (instr.Lui rd (high_part u)) else Two (instr.Lui rd (high_part u)) (instr.Immediate Addi rd rd (low_part u)))) h
        ≡ Some (with_value h rd u (length (instructions_of (if b then One (instr.Lui rd (high_part u)) else Two (instr.Lui rd (high_part u)) (instr.Immediate Addi rd rd (low_part u))))))
    by_test true is = li-whole h rd u (grind (arith, nat_tests)) small
    by_test false is = li-parts h rd u size below small

li-found : (h : ArchitecturalState) (rd u : ℕ) (x : Option ℤ) → length h.registers ≡ 32 → reg h 0 ≡ 0 → rd < 32 → u < 2 ^ 32 → immediate_of (cast_signed w32 u) ≡ x
    → carried_out (instructions_of (fitting_expansion rd u x)) h ≡ Some (with_value h rd u (length (instructions_of (fitting_expansion rd u x))))
li-found h rd u (Some imm) size none below small fits = li-fitting h rd u imm none small fits
li-found h rd u None size none below small fits = li-long h rd u size below small

pub li-loads : (h : ArchitecturalState) (rd u : ℕ) → length h.registers ≡ 32 → reg h 0 ≡ 0 → rd < 32 → u < 2 ^ 32 → carried_out (instructions_of (li_expansion rd u)) h ≡ Some (with_value h rd u (length (instructions_of (li_expansion rd u))))
li-loads h rd u size none below small = li-found h rd u (immediate_of (cast_signed w32 u)) size none below small refl

far : (pc a b u at : ℕ) → (a + b) % 2 ^ 32 ≡ u % 2 ^ 32 → (pc + u) % 2 ^ 32 ≡ at → ((pc + a) % 2 ^ 32 + b) % 2 ^ 32 ≡ at
far pc a b u at is there = omega arith

-- the pc and a distance from it
from-pc : (pc at : ℕ) → pc < 2 ^ 32 → at < 2 ^ 32 → (pc + modulo_word (pos at -ℤ pos pc)) % 2 ^ 32 ≡ at
from-pc pc at a b =
    let distance : modulo_word (pos at -ℤ pos pc) ≡ (at + 2 ^ 32 - pc) % 2 ^ 32 = modulo_shifted (pos at -ℤ pos pc) (at + 2 ^ 32 - pc) (omega (arith, ints)) in
    rw distance (omega arith)

la-distance : (h : ArchitecturalState) (rd u at : ℕ) → length h.registers ≡ 32 → rd < 32 → (h.pc + u) % 2 ^ 32 ≡ at → carried_out (instructions_of (la_expansion rd u)) h ≡ Some (with_value h rd at 2)
unfolding effect
la-distance h rd u at size below there =
    added h rd (sum h.pc (high_part u * 2 ^ 12)) at (low_part u) size below
    (let parts : (high_part u * 2 ^ 12 + as_word (low_part u)) % 2 ^ 32 ≡ u % 2 ^ 32 = parts-sum u in far h.pc (high_part u * 2 ^ 12) (as_word (low_part u)) u at parts there)

pub la-loads : (h : ArchitecturalState) (rd at : ℕ) → length h.registers ≡ 32 → rd < 32 → h.pc < 2 ^ 32 → at < 2 ^ 32 → carried_out (instructions_of (la_expansion rd (modulo_word (pos at -ℤ pos h.pc)))) h ≡ Some (with_value h rd at 2)
la-loads h rd at size below pc small = la-distance h rd (modulo_word (pos at -ℤ pos h.pc)) at size below (from-pc h.pc at pc small)
