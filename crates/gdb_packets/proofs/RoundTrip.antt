-- What is framed is read back.
use Rattle.std.proofs.Common.{◌≡◌, ℕ, ◌+◌, ◌≤◌, Bool, true, false, List, [], ◌∷◌, ◌++◌, length, refl, sym, ◌∙◌, ap, arith, length-append, append_assoc}
use Rattle.std.proofs.lemmas.List.{append-nil}
use Rattle.std.specs.Prelude.{◌==◌, ◌&&◌, not, nat_le, if◌then◌else◌}
use Rattle.std.specs.List.{list_all}
use Rattle.std.proofs.lemmas.Bool.{le-leb, eq-eqb}
use Rattle.gdb_packets.specs.declared.arrival.Arrival.{Arrival}
use Rattle.gdb_packets.specs.declared.arrival.Arrival.TheVariants.{Packet, Refused}
use Rattle.gdb_packets.specs.declared.phase.Phase.TheVariants.{Text}
use Rattle.gdb_packets.specs.Framing.{ending, escaped, first_digit, framed, last_digit}
use Rattle.gdb_packets.specs.Reading.{Reading, after, arrival_of, arrivals, ends_escaped, grown, most_text, outside, reading_after, unescaped}
use Rattle.gdb_packets.proofs.Escaping.{all_inner, is_inner, read_back, whole}

abbrev in_text : List ℕ → Reading
in_text text = record { phase = Text; text = text }

-- the two tests of an inner byte
inner_tests : (c : ℕ) (t : Bool) → (is_inner c && t) ≡ true → ((c == 35) ≡ false) × ((c == 36) ≡ false) × (t ≡ true)
inner_tests c t =
    elim (c == 35) as (λ a. ((not a && not (c == 36)) && t) ≡ true → (a ≡ false) × ((c == 36) ≡ false) × (t ≡ true)) [
      | true ↦ λ e. absurd (cc)
      | false ↦ elim (c == 36) as (λ b. ((true && not b) && t) ≡ true → (false ≡ false) × (b ≡ false) × (t ≡ true))
          [ true ↦ λ e. absurd (cc) | false ↦ λ e. (refl, refl, e) ]
    ]

-- a text that stays short grows by each byte
grows : (text : List ℕ) (c : ℕ) → length text ≤ most_text → grown text c ≡ text ++ c ∷ []
grows text c h = ap (λ (b : Bool). if b then text ++ c ∷ [] else text) (le-leb (length text) most_text h)

after_inner : (text : List ℕ) (c : ℕ) → (c == 35) ≡ false → (c == 36) ≡ false → length text ≤ most_text → after (in_text text) c ≡ in_text (text ++ c ∷ [])
after_inner text c e1 e2 h = rw (e1, e2) (ap in_text (grows text c h))

-- the text of a packet is read: what comes after it, and how far it is read then
read_text : (xs text rest : List ℕ) → list_all is_inner xs ≡ true → length text + length xs ≤ most_text
    → (arrivals (in_text text) (xs ++ rest) ≡ arrivals (in_text (text ++ xs)) rest)
    × (reading_after (in_text text) (xs ++ rest) ≡ reading_after (in_text (text ++ xs)) rest)
read_text [] text rest all h =
    let same : in_text text ≡ in_text (text ++ []) = ap in_text (sym (append-nil text)) in
    (ap (λ (r : Reading). arrivals r rest) same, ap (λ (r : Reading). reading_after r rest) same)
read_text (c ∷ xs) text rest all h =
    let tests = inner_tests c (list_all is_inner xs) all in
    let n : length (text ++ c ∷ []) ≡ length text + length (c ∷ []) = length-append text (c ∷ []) in
    let short : length text ≤ most_text = omega (arith, h) in
    let further = read_text xs (text ++ c ∷ []) rest tests.2 (omega (arith, h, n)) in
    let same : in_text ((text ++ c ∷ []) ++ xs) ≡ in_text (text ++ c ∷ xs) = ap in_text (append_assoc text (c ∷ []) xs) in (
      rw (tests.0, tests.1) (ap (λ (l : List ℕ). arrivals (in_text l) (xs ++ rest)) (grows text c short)
          ∙ further.0 ∙ ap (λ (r : Reading). arrivals r rest) same),
      ap (λ (r : Reading). reading_after r (xs ++ rest)) (after_inner text c tests.0 tests.1 short)
          ∙ further.1 ∙ ap (λ (r : Reading). reading_after r rest) same,
    )

-- what passes all four tests is taken
taken : (a b c d : Bool) (p : Arrival) → a ≡ true → b ≡ true → c ≡ true → d ≡ false → (if a && (b && (c && not d)) then p else Refused) ≡ p
taken a b c d p e1 e2 e3 e4 = rw (e1, e2, e3, e4) refl

-- the text of a payload, with its digits, is the packet
arrival_ok : (payload : List ℕ) → length (escaped payload) ≤ most_text
    → arrival_of (escaped payload) (first_digit (escaped payload)) (last_digit (escaped payload)) ≡ Packet payload
arrival_ok payload h =
    let text = escaped payload in
    taken (nat_le (length text) most_text) (first_digit text == first_digit text) (last_digit text == last_digit text) (ends_escaped false text)
    (Packet (unescaped false text)) (le-leb (length text) most_text h) (eq-eqb (first_digit text) (first_digit text) refl)
    (eq-eqb (last_digit text) (last_digit text) refl) (whole payload)
    ∙ ap (λ (l : List ℕ). Packet l) (read_back payload)

pub back_came : (payload : List ℕ) → length (escaped payload) ≤ most_text → arrivals outside (framed payload) ≡ Packet payload ∷ []
back_came payload h =
    (read_text (escaped payload) [] (ending (escaped payload)) (all_inner payload) (omega (arith, h))).0
    ∙ ap (λ (a : Arrival). a ∷ []) (arrival_ok payload h)

pub back_after : (payload : List ℕ) → length (escaped payload) ≤ most_text → reading_after outside (framed payload) ≡ outside
back_after payload h = (read_text (escaped payload) [] (ending (escaped payload)) (all_inner payload) (omega (arith, h))).1
