-- The bytes that a file had last, and lists with one item more.
use Rattle.std.proofs.Common.{◌≡◌, ℕ, zero, suc, ◌+◌, ◌-◌, ◌<◌, ◌≤◌, List, [], ◌∷◌, ◌++◌, length, inl, inr, slice_get, Option, Some, None, sym, ap, subst, ◌∙◌, arith}
use Rattle.std.proofs.lemmas.Bool.Decides.{leb_tells}
use Rattle.disk_model.specs.Numbers.{Numbered}
use Rattle.crash_lists.specs.Rules.{bytes_at, bytes_before, living_at, or_earlier}

-- a moment at which the file does not live is skipped
pub skipped : (window : List Numbered) (number moment back : ℕ) → back ≤ moment → living_at window number (moment - back) ≡ None
    → bytes_at window number moment ≡ bytes_before window number (moment + 1 - back)
    → bytes_at window number moment ≡ bytes_before window number (moment + 1 - (back + 1))
skipped window number moment back le none is =
    let now : moment + 1 - back ≡ suc (moment - back) = omega arith in
    let next : moment - back ≡ moment + 1 - (back + 1) = omega arith in
    is ∙ ap (bytes_before window number) now ∙ ap (λ (o : Option (List ℕ)). or_earlier o (bytes_before window number (moment - back))) none ∙ ap (bytes_before window number) next

-- what is so below a number is so below the next, if it is so of the number
pub below_next : (P : ℕ → Type 0) (n : ℕ) → ((u : ℕ) → u < n → P u) → P n → (u : ℕ) → u < n + 1 → P u
below_next P n each last u lt =
    elim (leb_tells (suc u) n) [
      | inl f ↦ each u (omega (arith, f.1))
      | inr f ↦
          let same : u ≡ n = omega (arith, f.1) in
          subst P (sym same) last
    ]

-- what is so of each item by its place is so with one item more
pub each_pushed : {A : Type 0} (P : ℕ → A → Type 0) (xs : List A) (y : A) → ((k : ℕ) (x : A) → slice_get xs k ≡ Some x → P k x)
    → P (length xs) y → (k : ℕ) (x : A) → slice_get (xs ++ y ∷ []) k ≡ Some x → P k x
each_pushed P [] y all last zero x e = let same : y ≡ x = cc in subst (P 0) same last
each_pushed P [] y all last (suc k) x e = absurd (let no : ⊥ = cc in no)
each_pushed P (z ∷ zs) y all last zero x e = all zero x e
each_pushed P (z ∷ zs) y all last (suc k) x e = each_pushed (λ (n : ℕ) (w : _). P (suc n) w) zs y (λ n w is. all (suc n) w is) last k x e
