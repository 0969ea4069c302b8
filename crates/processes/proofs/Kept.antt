-- What is left of a list where a test was asked of each element in turn.
use Rattle.std.proofs.Common.{◌≡◌, Bool, true, false, cond, List, [], ◌∷◌, length, refl, ap, ◌∙◌, arith}
use Rattle.std.specs.Prelude.{filter}
use Rattle.std.specs.List.{items_where_true}
use Rattle.std.specs.List.Retain.{IsFiltered, ReturnsInTurn}

-- The same with a state that every answer keeps: what stays is what the test keeps.
module _ {X P : Type 0} (R : P → X → Bool → P → Type 0) (test : X → Bool) (I : P → Type 0)
    (says : (p : P) (x : X) (b : Bool) (q : P) → I p → R p x b q → (b ≡ test x) × I q) where
  one_more : (x : X) (xs ys : List X) (bs : List Bool) (b t : Bool) → b ≡ t → items_where_true bs xs ≡ ys → items_where_true (b ∷ bs) (x ∷ xs) ≡ cond t (x ∷ ys) ys
  one_more x xs ys bs true t e rest = ap (λ l. x ∷ l) rest ∙ ap (λ a. cond a (x ∷ ys) ys) e
  one_more x xs ys bs false t e rest = rest ∙ ap (λ a. cond a (x ∷ ys) ys) e

  kept_in_turn : (p q : P) (bs : List Bool) (xs : List X) → I p → length bs ≡ length xs → ReturnsInTurn R p bs xs q → items_where_true bs xs ≡ filter test xs
  kept_in_turn p q [] [] i e h = refl
  kept_in_turn p q [] (x ∷ xs) i e h = absurd (omega arith)
  kept_in_turn p q (b ∷ bs) [] i e h = absurd h
  kept_in_turn p q (b ∷ bs) (x ∷ xs) i e h =
      let told = says p x b h.0 i h.1 in
      one_more x xs (filter test xs) bs b (test x) told.0 (kept_in_turn h.0 q bs xs told.1 (omega arith) h.2)

  pub kept_by : (p : P) (xs ys : List X) → I p → IsFiltered R p xs ys → ys ≡ filter test xs
  kept_by p xs ys i h = h.4 ∙ kept_in_turn p h.1 h.0 xs i h.2 h.3
