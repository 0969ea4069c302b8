-- The two parts of a number add up to it.
use Rattle.std.proofs.Common.{ℕ, ℤ, pos, negsuc, ◌+ℤ◌, ◌-ℤ◌, ◌≡◌, ◌+◌, ◌-◌, ◌*◌, ◌/◌, ◌%◌, ◌^◌, ◌≤◌, true, false, nat_lt, refl, ◌∙◌, arith}
use Rattle.std.specs.Prelude.{if◌then◌else◌}
use Rattle.std.proofs.{lemmas.Int.ints, lemmas.Bool.Decides.nat_tests}
use Rattle.asm_statements.specs.Expansion.{modulo_word, low_part, high_part}

pub modulo_pos : (z : ℤ) (n : ℕ) → z ≡ pos n → modulo_word z ≡ n % 2 ^ 32
unfolding modulo_word
modulo_pos z n is = rw is refl

-- with a low part that is not negative, and with one that is
small-adds : (u r : ℕ) → r ≡ u % 2 ^ 12 → modulo_word (pos (modulo_word (pos u -ℤ pos r) / 2 ^ 12 * 2 ^ 12) +ℤ pos r) ≡ u % 2 ^ 32
small-adds u r is =
    let rest : modulo_word (pos u -ℤ pos r) ≡ (u - r) % 2 ^ 32 = modulo_pos (pos u -ℤ pos r) (u - r) (omega (arith, ints)) in
    rw rest (let whole : modulo_word (pos ((u - r) % 2 ^ 32 / 2 ^ 12 * 2 ^ 12) +ℤ pos r) ≡ ((u - r) % 2 ^ 32 / 2 ^ 12 * 2 ^ 12 + r) % 2 ^ 32 = modulo_pos _ _ refl in omega arith)

pub modulo_shifted : (z : ℤ) (m : ℕ) → z +ℤ pos (2 ^ 32) ≡ pos m → modulo_word z ≡ m % 2 ^ 32
unfolding modulo_word
modulo_shifted (pos n) m is = omega (arith, ints)
modulo_shifted (negsuc n) m is = omega (arith, ints)

last-adds : (u r x : ℕ) → r ≡ u % 2 ^ 12 → 2 ^ 11 ≤ r → x ≡ (u - r + 2 ^ 12) % 2 ^ 32 / 2 ^ 12 * 2 ^ 12 → modulo_word (pos x +ℤ (pos r -ℤ pos (2 ^ 12))) ≡ u % 2 ^ 32
last-adds u r x is high at =
    let shifted : modulo_word (pos x +ℤ (pos r -ℤ pos (2 ^ 12))) ≡ (x + r + 2 ^ 32 - 2 ^ 12) % 2 ^ 32 = modulo_shifted (pos x +ℤ (pos r -ℤ pos (2 ^ 12))) (x + r + 2 ^ 32 - 2 ^ 12) (omega (arith, ints)) in
    shifted ∙ omega arith

large-adds : (u r : ℕ) → r ≡ u % 2 ^ 12 → 2 ^ 11 ≤ r → modulo_word (pos (modulo_word (pos u -ℤ (pos r -ℤ pos (2 ^ 12))) / 2 ^ 12 * 2 ^ 12) +ℤ (pos r -ℤ pos (2 ^ 12))) ≡ u % 2 ^ 32
large-adds u r is high =
    let rest : modulo_word (pos u -ℤ (pos r -ℤ pos (2 ^ 12))) ≡ (u - r + 2 ^ 12) % 2 ^ 32 = modulo_pos (pos u -ℤ (pos r -ℤ pos (2 ^ 12))) (u - r + 2 ^ 12) (omega (arith, ints)) in
    rw rest (last-adds u r ((u - r + 2 ^ 12) % 2 ^ 32 / 2 ^ 12 * 2 ^ 12) is high refl)

pub parts-add-up : (u : ℕ) → modulo_word (pos (high_part u * 2 ^ 12) +ℤ low_part u) ≡ u % 2 ^ 32
unfolding high_part low_part
parts-add-up u =
    elim (nat_lt (u % 2 ^ 12) (2 ^ 11)) as (λ b. nat_lt (u % 2 ^ 12) (2 ^ 11) ≡ b → modulo_word (pos (modulo_word (pos u -ℤ (if b then pos (u % 2 ^ 12) else pos (u % 2 ^ 12) -ℤ pos (2 ^ 12))) / 2 ^ 12 * 2 ^ 12) +ℤ (if b then pos (u % 2 ^ 12) else pos (u % 2 ^ 12) -ℤ pos (2 ^ 12))) ≡ u % 2 ^ 32) [
      | true ↦ λ less. small-adds u (u % 2 ^ 12) refl
      | false ↦ λ more. large-adds u (u % 2 ^ 12) refl (grind (arith, nat_tests))
    ] refl
