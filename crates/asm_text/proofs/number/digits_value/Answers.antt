-- Past the limit, no digits to come make the number small again.
use Rattle.std.proofs.lemmas.Bool.{lt-ltb}
use Rattle.std.proofs.Common.{◌≡◌, ◌+◌, ◌*◌, ◌<◌, ℕ, Bool, cond, None, get_or, drop, arith, rules, ap, sym, subst, ◌∙◌}
use Rattle.std.specs.Char.{digit_value}
use Rattle.asm_text.specs.{Letters.digits_value, Scan.bounded}
use Rattle.asm_text.proofs.Numbers.{digits_more, too_large}
use Rattle.asm_text.proofs.number.digits_value.Goals as goal

pub returns-then-value-ge-LIMIT : goal.returns-then-value-ge-LIMIT
returns-then-value-ge-LIMIT c =
    let i = c.loop-byte.byte-index in
    let ds = c.args.digits.now in
    let more = digits_more c.args.base c.loop-byte.value ds i 0 (omega arith) in
    let byte : c.from.result ≡ get_or ds i 0 = search (rules, c.from.ensures) in
    let digit = c.in_ok-digit.ensures.value in
    let product : c.from-in-loop-byte.result * c.loop-byte.value ≡ c.args.base * c.loop-byte.value = ap (λ (n : ℕ). n * c.loop-byte.value) c.from-in-loop-byte.ensures in
    let last : c.from-in-loop-byte-2.result ≡ digit_value (get_or ds i 0) = c.from-in-loop-byte-2.ensures ∙ digit.1 ∙ ap digit_value byte in
    let is_digit : digit_value (get_or ds i 0) < c.args.base = subst (λ (b : ℕ). digit_value b < c.args.base) byte digit.0 in
    let large = too_large c.args.base (c.args.base * c.loop-byte.value + digit_value (get_or ds i 0)) (drop (i + 1) ds) (omega arith) (omega arith) in
    let goes_on = ap (λ (t : Bool). cond t (digits_value c.args.base (c.args.base * c.loop-byte.value + digit_value (get_or ds i 0)) (drop (i + 1) ds)) None) (lt-ltb (digit_value (get_or ds i 0)) c.args.base is_digit) in
    sym (ap bounded (sym c.loop-byte.invariant.so_far ∙ more ∙ goes_on) ∙ large)
