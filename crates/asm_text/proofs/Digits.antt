-- The bytes of a number.
use Rattle.std.proofs.Common.{◌≡◌, ℕ, ◌+◌, ◌*◌, ◌<◌, ◌≤◌, Bool, true, false, not, eqb, ltb, ◌&&◌, ◌||◌, List, [], ◌∷◌, Some, None, ℤ, ap, ⊎_elim, arith}
use Rattle.std.specs.{Char.is_ascii_digit, Char.digit_value, List.AllPass}
use Rattle.std.proofs.{lemmas.Bool.eqb-true, lemmas.Bool.ltb-true, lemmas.Bool.and_parts, lemmas.Bool.Decides.nat_tests}
use Rattle.std.proofs.lemmas.List.Elements.{All-nil, All-cons, All-tail}
use Rattle.asm_text.specs.Letters.{is_name_byte, begins_word, digits_value, some_digits, magnitude, above_zero, below_zero, number_value}
use Rattle.asm_text.proofs.Choices.{chosen, then_some}

-- a digit to base 16 goes on a word, and one to base 10 is a decimal digit
hexadecimal : (b : ℕ) → digit_value b < 16 → is_name_byte b ≡ true
hexadecimal b small = grind (arith, nat_tests)

decimal : (b : ℕ) → digit_value b < 10 → is_ascii_digit b ≡ true
decimal b small = grind (arith, nat_tests)

digits_names : (base high : ℕ) (ds : List ℕ) (v : ℕ) → base ≤ 16 → digits_value base high ds ≡ Some v → AllPass is_name_byte ds
digits_names base high [] v small e = All-nil (λ (b : ℕ). is_name_byte b ≡ true)
digits_names base high (d ∷ ds) v small e =
    ⊎_elim
    (λ digit. All-cons (λ (b : ℕ). is_name_byte b ≡ true) d ds (hexadecimal d (omega (arith, ltb-true (digit_value d) base digit.0))) (digits_names base (base * high + digit_value d) ds v small digit.1))
    (λ none. absurd (let no : ⊥ = cc (none.1) in no))
    (chosen (ltb (digit_value d) base) (digits_value base (base * high + digit_value d) ds) None (Some v) e)

-- what a number with no sign is made of
record IsMadeOf (c : ℕ) (cs : List ℕ) : Type 0 where
  first : is_ascii_digit c ≡ true
  others : AllPass is_name_byte cs

decimal_made : (c : ℕ) (cs : List ℕ) (v : ℕ) → some_digits 10 (c ∷ cs) ≡ Some v → IsMadeOf c cs
decimal_made c cs v e =
    let all = digits_names 10 0 (c ∷ cs) v (omega arith) e in
    ⊎_elim
    (λ digit. record { first = decimal c (ltb-true (digit_value c) 10 digit.0); others = All-tail (λ (b : ℕ). is_name_byte b ≡ true) c cs all })
    (λ none. absurd (let no : ⊥ = cc (none.1) in no))
    (chosen (ltb (digit_value c) 10) (digits_value 10 (10 * 0 + digit_value c) cs) None (Some v) e)

hexadecimal_names : (bs : List ℕ) (v : ℕ) → some_digits 16 bs ≡ Some v → AllPass is_name_byte bs
hexadecimal_names [] v e = All-nil (λ (b : ℕ). is_name_byte b ≡ true)
hexadecimal_names (b ∷ bs) v e = digits_names 16 0 (b ∷ bs) v (omega arith) e

magnitude_made : (c : ℕ) (cs : List ℕ) (v : ℕ) → magnitude (c ∷ cs) ≡ Some v → IsMadeOf c cs
magnitude_made c [] v e = decimal_made c [] v e
magnitude_made c (x ∷ ds) v e =
    ⊎_elim
    (λ hex.
    let marks = and_parts (eqb c 48) (eqb x 120) hex.0 in
    let c_is = eqb-true c 48 marks.0 in
    let x_is = eqb-true x 120 marks.1 in
    record {
      first = ap is_ascii_digit c_is;
      others = All-cons (λ (b : ℕ). is_name_byte b ≡ true) x ds (ap is_name_byte x_is) (hexadecimal_names ds v hex.1);
    })
    (λ dec. decimal_made c (x ∷ ds) v dec.1)
    (chosen (eqb c 48 && eqb x 120) (some_digits 16 ds) (some_digits 10 (c ∷ x ∷ ds)) (Some v) e)

magnitude_names : (bs : List ℕ) (v : ℕ) → magnitude bs ≡ Some v → AllPass is_name_byte bs
magnitude_names [] v e = All-nil (λ (b : ℕ). is_name_byte b ≡ true)
magnitude_names (b ∷ bs) v e =
    let made = magnitude_made b bs v e in
    All-cons (λ (c : ℕ). is_name_byte c ≡ true) b bs (digit_name b made.first) made.others
  where
    digit_name : (b : ℕ) → is_ascii_digit b ≡ true → is_name_byte b ≡ true
    digit_name b e = grind (arith, nat_tests)

-- a decimal digit begins no word, and no minus is one
no_word : (c : ℕ) → is_ascii_digit c ≡ true → begins_word c ≡ false
no_word c e = grind (arith, nat_tests)

-- A number's first byte is a digit, or `-` where that is no mark; the others go on a word.
pub number_names : (w : Bool) (c : ℕ) (cs : List ℕ) (n : ℤ) → number_value (c ∷ cs) ≡ Some n → (w && eqb c 45) ≡ false
    → AllPass is_name_byte cs × ((begins_word c ≡ false) × ((is_ascii_digit c || (eqb c 45 && not w)) ≡ true))
number_names w c cs n e unsigned =
    ⊎_elim
    (λ minus.
    let m = then_some below_zero (magnitude cs) n minus.1 in
    let c_is = eqb-true c 45 minus.0 in
    (magnitude_names cs m.0 m.1, (ap begins_word c_is, by_sign w c c_is unsigned)))
    (λ plain.
    let m = then_some above_zero (magnitude (c ∷ cs)) n plain.1 in
    let made = magnitude_made c cs m.0 m.1 in
    (made.others, (no_word c made.first, ap (λ (t : Bool). t || (eqb c 45 && not w)) made.first)))
    (chosen (eqb c 45) _ _ (Some n) e)
  where
    by_sign : (w : Bool) (c : ℕ) → c ≡ 45 → (w && eqb c 45) ≡ false → (is_ascii_digit c || (eqb c 45 && not w)) ≡ true
    by_sign true c c_is unsigned = absurd (let is : eqb c 45 ≡ true = ap (λ (x : ℕ). eqb x 45) c_is in let no : ⊥ = cc in no)
    by_sign false c c_is unsigned = ap (λ (x : ℕ). is_ascii_digit x || (eqb x 45 && not false)) c_is
