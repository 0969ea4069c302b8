-- Bytes may be cut anywhere.
use Rattle.std.proofs.Common.{◌≡◌, ℕ, List, [], ◌∷◌, ◌++◌, refl, sym, ◌∙◌, ap, append_assoc}
use Rattle.std.specs.Option.{option_to_list}
use Rattle.gdb_packets.specs.declared.arrival.Arrival.{Arrival}
use Rattle.gdb_packets.specs.Reading.{Reading, after, arrivals, brought, reading_after}

pub arrivals-append : (r : Reading) (xs ys : List ℕ) → arrivals r (xs ++ ys) ≡ arrivals r xs ++ arrivals (reading_after r xs) ys
arrivals-append r [] ys = refl
arrivals-append r (c ∷ xs) ys =
    ap (λ (l : List Arrival). option_to_list (brought r c) ++ l) (arrivals-append (after r c) xs ys)
    ∙ sym (append_assoc (option_to_list (brought r c)) (arrivals (after r c) xs) (arrivals (reading_after (after r c) xs) ys))

pub reading_after-append : (r : Reading) (xs ys : List ℕ) → reading_after r (xs ++ ys) ≡ reading_after (reading_after r xs) ys
reading_after-append r [] ys = refl
reading_after-append r (c ∷ xs) ys = reading_after-append (after r c) xs ys
