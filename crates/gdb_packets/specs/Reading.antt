-- What comes in, byte by byte.
use Rattle.std.specs.Prelude.{ℕ, ◌==◌, ◌&&◌, Bool, true, false, not, nat_le, bit_xor, if◌then◌else◌, List, [], ◌∷◌, ◌++◌, length, Option, Some, None}
use Rattle.std.specs.Option.{option_to_list}
use Rattle.gdb_packets.specs.declared.arrival.Arrival.{Arrival}
use Rattle.gdb_packets.specs.declared.arrival.Arrival.TheVariants.{Packet, Refused, Interrupt, Ack, Nack}
use Rattle.gdb_packets.specs.declared.phase.Phase.{Phase}
use Rattle.gdb_packets.specs.declared.phase.Phase.TheVariants.{Outside, Text, FirstDigit, LastDigit}
use Rattle.gdb_packets.specs.Framing.{first_digit, last_digit}

-- the longest text that is taken
abbrev pub most_text : ℕ
most_text = 16384

-- whether a byte of a text escapes the next one, where it is escaped itself, or is not
abbrev pub escapes : Bool → ℕ → Bool
escapes is_escaped c = not is_escaped && (c == 125)

-- what a byte of a text stands for, where it is escaped, or is not
abbrev pub spelled : Bool → ℕ → List ℕ
spelled true c = bit_xor c 32 ∷ []
spelled false c = if c == 125 then [] else c ∷ []

-- the payload of a text, the first byte of which is escaped, or is not
abbrev pub unescaped : Bool → List ℕ → List ℕ
unescaped _ [] = []
unescaped is_escaped (c ∷ text) = spelled is_escaped c ++ unescaped (escapes is_escaped c) text

-- whether a text ends within an escape
abbrev pub ends_escaped : Bool → List ℕ → Bool
ends_escaped is_escaped [] = is_escaped
ends_escaped is_escaped (c ∷ text) = ends_escaped (escapes is_escaped c) text

-- whether the text of a packet is taken, with these digits of its sum
abbrev pub is_sound : List ℕ → ℕ → ℕ → Bool
is_sound text first last =
    nat_le (length text) most_text && ((first_digit text == first) && ((last_digit text == last) && not (ends_escaped false text)))

-- what a packet is, by its text and the digits of its sum
abbrev pub arrival_of : List ℕ → ℕ → ℕ → Arrival
arrival_of text first last = if is_sound text first last then Packet (unescaped false text) else Refused

-- how far the bytes were read: where the next one stands, and the text of the packet so far, of which at most most_text + 1 bytes are kept
pub record Reading : Type 0 where
  pub phase : Phase
  pub text : List ℕ

abbrev pub outside : Reading
outside = record { phase = Outside; text = [] }

-- a text with a byte more, where it is not too long already
abbrev pub grown : List ℕ → ℕ → List ℕ
grown text c = if nat_le (length text) most_text then text ++ c ∷ [] else text

abbrev pub after_in : Phase → List ℕ → ℕ → Reading
after_in Outside text c = if c == 36 then record { phase = Text; text = [] } else record { phase = Outside; text = text }
after_in Text text c =
    if c == 35 then record { phase = FirstDigit; text = text }
    else (if c == 36 then record { phase = Text; text = [] }
    else record { phase = Text; text = grown text c })
after_in FirstDigit text c = record { phase = LastDigit c; text = text }
after_in (LastDigit _) text c = outside

abbrev pub brought_in : Phase → List ℕ → ℕ → Option Arrival
brought_in Outside text c = if c == 3 then Some Interrupt else (if c == 43 then Some Ack else (if c == 45 then Some Nack else None))
brought_in Text text c = if c == 36 then Some Refused else None
brought_in FirstDigit text c = None
brought_in (LastDigit first) text c = Some (arrival_of text first c)

-- how far it is read after a byte
abbrev pub after : Reading → ℕ → Reading
after r c = after_in r.phase r.text c

-- what a byte completes
abbrev pub brought : Reading → ℕ → Option Arrival
brought r c = brought_in r.phase r.text c

-- how far it is read after some bytes
abbrev pub reading_after : Reading → List ℕ → Reading
reading_after r [] = r
reading_after r (c ∷ bytes) = reading_after (after r c) bytes

-- all that some bytes complete
abbrev pub arrivals : Reading → List ℕ → List Arrival
arrivals r [] = []
arrivals r (c ∷ bytes) = option_to_list (brought r c) ++ arrivals (after r c) bytes
