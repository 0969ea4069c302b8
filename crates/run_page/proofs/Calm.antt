-- Nothing in embedded text begins or ends a tag.
use Rattle.std.proofs.Common.{sym, ◌∙◌, ap, subst, refl, ⊎_elim}
use Rattle.std.specs.Prelude.{◌≡◌, ℕ, ◌==◌, true, false, List, [], ◌∷◌, ◌++◌}
use Rattle.std.specs.List.{flat_map, list_all}
use Rattle.std.proofs.lemmas.Bool.{cases_Bool, eqb-true}
use Rattle.run_page.specs.Embedding.{embedded_byte, is_calm}

-- what holds at a byte where it equals a sign, and where it does not, holds
split : (b n : ℕ) (P : ℕ → Type 0) → P n → ((b == n) ≡ false → P b) → P b
split b n P same other = ⊎_elim (λ (e : (b == n) ≡ true). subst P (sym (eqb-true b n e)) same) other (cases_Bool (b == n))

-- a byte that is none of the three signs stands for itself
itself : (b : ℕ) → (b == 38) ≡ false → (b == 60) ≡ false → (b == 62) ≡ false → embedded_byte b ≡ b ∷ []
itself b e1 e2 e3 = rw (e1, e2, e3)

-- what stands for a byte is calm
calm_byte : (rest : List ℕ) → list_all is_calm rest ≡ true → (b : ℕ) → list_all is_calm (embedded_byte b ++ rest) ≡ true
calm_byte rest h b =
    split b 38 (λ b. list_all is_calm (embedded_byte b ++ rest) ≡ true) h (λ e1.
    split b 60 (λ b. list_all is_calm (embedded_byte b ++ rest) ≡ true) h (λ e2.
    split b 62 (λ b. list_all is_calm (embedded_byte b ++ rest) ≡ true) h (λ e3.
    ap (λ (l : List ℕ). list_all is_calm (l ++ rest)) (itself b e1 e2 e3) ∙ rw (e1, e2, e3) h)))

pub all_calm : (text : List ℕ) → list_all is_calm (flat_map embedded_byte text) ≡ true
all_calm [] = refl
all_calm (b ∷ text) = calm_byte (flat_map embedded_byte text) (all_calm text) b
