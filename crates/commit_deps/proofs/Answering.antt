-- Two tests that give one answer.
use Rattle.std.proofs.Common.{◌≡◌, Bool, true, false, refl, sym}

-- two tests are one where each passes with the other
pub both_pass : (a b : Bool) → (a ≡ true → b ≡ true) → (b ≡ true → a ≡ true) → a ≡ b
both_pass true b f g = sym (f refl)
both_pass false true f g = g refl
both_pass false false f g = refl
