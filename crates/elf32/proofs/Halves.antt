-- The bytes of half words.
use Rattle.std.proofs.Common.{◌≡◌, ℕ, ◌+◌, ◌<◌, List, [], ◌∷◌, ◌++◌, length, get_or, take, sym, ap, ◌∙◌}
use Rattle.std.specs.Int.{to_le_bytes, w16}
use Rattle.std.proofs.lemmas.List.{append_assoc, append-nil, take_more}
use Rattle.memory_model.specs.Access.{low_bytes}
use Rattle.elf32.specs.Files.{bytes_of_halves}

bytes_of_halves-push : (halves : List ℕ) (half : ℕ) → bytes_of_halves (halves ++ half ∷ []) ≡ bytes_of_halves halves ++ low_bytes 2 half
bytes_of_halves-push [] half = append-nil (low_bytes 2 half)
bytes_of_halves-push (h ∷ halves) half = ap (λ (bytes : List ℕ). low_bytes 2 h ++ bytes) (bytes_of_halves-push halves half) ∙ sym (append_assoc (low_bytes 2 h) (bytes_of_halves halves) (low_bytes 2 half))

-- one more half word at the end
pub halves_more : (old now new number halves : List ℕ) (i : ℕ) → i < length halves → now ≡ old ++ bytes_of_halves (take i halves) → number ≡ to_le_bytes w16 (get_or halves i 0) → new ≡ now ++ number
    → new ≡ old ++ bytes_of_halves (take (i + 1) halves)
halves_more old now new number halves i small so_far is put =
    put ∙ ap (λ (bytes : List ℕ). bytes ++ number) so_far ∙ append_assoc old (bytes_of_halves (take i halves)) number
    ∙ ap (λ (bytes : List ℕ). old ++ (bytes_of_halves (take i halves) ++ bytes)) is
    ∙ ap (λ (bytes : List ℕ). old ++ bytes) (sym (bytes_of_halves-push (take i halves) (get_or halves i 0)) ∙ sym (ap bytes_of_halves (take_more halves i 0 small)))
