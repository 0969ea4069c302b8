-- What stands at a place of a list with one more at its end.
use Rattle.std.proofs.Common.{◌≡◌, ℕ, zero, suc, ◌⊎◌, inl, inr, List, [], ◌∷◌, ◌++◌, length, Some, refl, ap}
use Rattle.std.proofs.lemmas.Option.{same_Some, none-some}
use Rattle.std.specs.Prelude.{slice_get}

pub slice_get-push : {X : Type 0} (xs : List X) (x y : X) (k : ℕ) → slice_get (xs ++ x ∷ []) k ≡ Some y → (slice_get xs k ≡ Some y) ⊎ ((k ≡ length xs) × (x ≡ y))
slice_get-push [] x y zero e = inr (refl, same_Some x y e)
slice_get-push [] x y (suc k) e = absurd (none-some y e)
slice_get-push (z ∷ xs) x y zero e = inl e
slice_get-push (z ∷ xs) x y (suc k) e =
    elim (slice_get-push xs x y k e) [
      | inl there ↦ inl there
      | inr last ↦ inr (ap suc last.0, last.1)
    ]
