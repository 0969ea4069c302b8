-- The value of digits, digit by digit.
use Rattle.std.proofs.Common.{◌≡◌, ℕ, ◌+◌, ◌*◌, ◌^◌, ◌<◌, ◌≤◌, Bool, true, false, cond, ltb, List, [], ◌∷◌, length, get_or, drop, None, refl, ap, arith}
use Rattle.std.proofs.{lemmas.List.drop_more, lemmas.Bool.Decides.nat_tests, Math.Nat.mul-le-mul_right}
use Rattle.std.specs.Char.{digit_value}
use Rattle.asm_text.specs.{Letters.digits_value, Scan.bounded}

-- one digit more
pub digits_more : (base high : ℕ) (ds : List ℕ) (i d : ℕ) → i < length ds → digits_value base high (drop i ds) ≡ cond (ltb (digit_value (get_or ds i d)) base) (digits_value base (base * high + digit_value (get_or ds i d)) (drop (i + 1) ds)) None
digits_more base high ds i d lt = ap (digits_value base high) (drop_more ds i d lt)

-- the digits to come make no number smaller
pub too_large : (base high : ℕ) (ds : List ℕ) → 1 ≤ base → 2 ^ 32 ≤ high → bounded (digits_value base high ds) ≡ None
too_large base high [] one large = grind (arith, nat_tests)
too_large base high (b ∷ bs) one large =
    elim (ltb (digit_value b) base) as (λ (t : Bool). bounded (cond t (digits_value base (base * high + digit_value b) bs) None) ≡ None) [
      | true ↦ too_large base (base * high + digit_value b) bs one (let grows : 1 * high ≤ base * high = mul-le-mul_right high one in omega arith)
      | false ↦ refl
    ]
