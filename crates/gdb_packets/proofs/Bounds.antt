-- The text of a packet without end stays bounded.
use Rattle.std.proofs.Common.{◌≡◌, ℕ, ◌+◌, ◌≤◌, Bool, true, false, List, [], ◌∷◌, ◌++◌, length, refl, lit≤, arith, length-append, if◌then◌else◌}
use Rattle.std.specs.Prelude.{◌==◌, nat_le}
use Rattle.std.proofs.lemmas.Bool.{leb-true}
use Rattle.gdb_packets.specs.declared.phase.Phase.{Phase}
use Rattle.gdb_packets.specs.declared.phase.Phase.TheVariants.{Outside, Text, FirstDigit, LastDigit}
use Rattle.gdb_packets.specs.Reading.{Reading, after, after_in, grown, most_text, outside, reading_after}

grown_bound : (text : List ℕ) (c : ℕ) → length text ≤ most_text + 1 → length (grown text c) ≤ most_text + 1
grown_bound text c h =
    (elim (nat_le (length text) most_text) as (λ b. nat_le (length text) most_text ≡ b → length (if b then text ++ c ∷ [] else text) ≤ most_text + 1) [
      | true ↦ λ e. let le : length text ≤ most_text = leb-true (length text) most_text e in
          let n : length (text ++ c ∷ []) ≡ length text + 1 = length-append text (c ∷ []) in omega (arith, le, n)
      | false ↦ λ _. h
    ]) refl

abbrev IsBounded : Reading → Type 0
IsBounded r = length r.text ≤ most_text + 1

abbrev begun : Reading
begun = record { phase = Text; text = [] }

abbrev in_text : List ℕ → Reading
in_text text = record { phase = Text; text = text }

abbrev at_digit : List ℕ → Reading
at_digit text = record { phase = FirstDigit; text = text }

abbrev at_outside : List ℕ → Reading
at_outside text = record { phase = Outside; text = text }

text_bound : (text : List ℕ) (c : ℕ) → length text ≤ most_text + 1 → IsBounded (after_in Text text c)
text_bound text c h =
    elim (c == 35) as (λ b. IsBounded (if b then at_digit text else (if c == 36 then begun else in_text (grown text c)))) [
      | true ↦ h
      | false ↦ elim (c == 36) as (λ b. IsBounded (if b then begun else in_text (grown text c))) [ true ↦ lit≤ tt | false ↦ grown_bound text c h ]
    ]

outside_bound : (c : ℕ) (text : List ℕ) → length text ≤ most_text + 1 → IsBounded (after_in Outside text c)
outside_bound c text h =
    elim (c == 36) as (λ b. IsBounded (if b then begun else at_outside text)) [ true ↦ lit≤ tt | false ↦ h ]

in_bound : (p : Phase) (text : List ℕ) (c : ℕ) → length text ≤ most_text + 1 → length (after_in p text c).text ≤ most_text + 1
in_bound Outside text c h = outside_bound c text h
in_bound Text text c h = text_bound text c h
in_bound FirstDigit text c h = h
in_bound (LastDigit first) text c h = lit≤ tt

pub bound_after : (bytes : List ℕ) (r : Reading) → length r.text ≤ most_text + 1 → length (reading_after r bytes).text ≤ most_text + 1
bound_after [] r h = h
bound_after (c ∷ bytes) r h = bound_after bytes (after r c) (in_bound r.phase r.text c h)
