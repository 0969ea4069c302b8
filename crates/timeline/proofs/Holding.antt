-- Bytes that are read one after the other.
use Rattle.std.proofs.Common.{◌≡◌, ℕ, suc, ◌+◌, ◌%◌, ◌^◌, List, [], ◌∷◌, ◌++◌, refl, sym, ap, ◌∙◌, arith}
use Rattle.std.specs.Prelude.{Option}
use Rattle.std.proofs.lemmas.List.{append_assoc}
use Rattle.memory_model.specs.Memory.{Memory}
use Rattle.timeline.specs.Locations.{byte_in, bytes_from}

pub bytes_none : (m : Memory) (at : ℕ) → bytes_from m at 0 ≡ []
unfolding bytes_from
bytes_none m at = refl

bytes_suc : (m : Memory) (at n : ℕ) → bytes_from m at (suc n) ≡ bytes_from m at n ++ byte_in m ((at + n) % 2 ^ 32) ∷ []
unfolding bytes_from
bytes_suc m at n = refl

-- one byte more
pub bytes_more : (m : Memory) (at n : ℕ) (held : List (Option ℕ)) → (held ++ bytes_from m at n) ++ byte_in m ((at + n) % 2 ^ 32) ∷ [] ≡ held ++ bytes_from m at (n + 1)
bytes_more m at n held =
    let one : suc n ≡ n + 1 = omega arith in
    append_assoc held (bytes_from m at n) (byte_in m ((at + n) % 2 ^ 32) ∷ [])
    ∙ ap (λ (bytes : List (Option ℕ)). held ++ bytes) (sym (bytes_suc m at n))
    ∙ ap (λ (k : ℕ). held ++ bytes_from m at k) one
