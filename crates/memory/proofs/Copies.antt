-- Lists that are made item by item.
use Rattle.std.proofs.Common.{◌≡◌, ℕ, ◌+◌, ◌<◌, List, [], ◌∷◌, ◌++◌, length, get_or, take, refl, sym, ap, ◌∙◌, append_assoc}
use Rattle.std.specs.List.{flat_map}
use Rattle.std.proofs.lemmas.List.{take_more, append-nil}
use Rattle.std.proofs.lemmas.Grind.{flat_map-append}

-- a list that was the first items of another is so with the next
pub one_more : {X : Type 0} (before after xs : List X) (i : ℕ) (x y : X) → i < length xs → after ≡ before ++ y ∷ [] → before ≡ take i xs → y ≡ x → x ≡ get_or xs i x → after ≡ take (i + 1) xs
one_more before after xs i x y below pushed so_far same at =
    pushed ∙ (λ t. so_far t ++ same t ∷ []) ∙ ap (λ z. take i xs ++ z ∷ []) at ∙ sym (take_more xs i x below)

-- what the first items give, one after another, and what the next gives
pub joined_more : {X A : Type 0} (f : X → List A) (before after : List A) (xs : List X) (i : ℕ) (x : X) → i < length xs → after ≡ before ++ f x → before ≡ flat_map f (take i xs) → x ≡ get_or xs i x → after ≡ flat_map f (take (i + 1) xs)
joined_more f before after xs i x below pushed so_far at =
    pushed ∙ ap (λ l. l ++ f x) so_far ∙ ap (λ l. flat_map f (take i xs) ++ l) (sym (append-nil (f x)))
    ∙ sym (flat_map-append f (take i xs) (x ∷ [])) ∙ ap (λ z. flat_map f (take i xs ++ z ∷ [])) at ∙ ap (flat_map f) (sym (take_more xs i x below))

-- what the first items give, and then what is left, where what the next gives comes first in what is left
pub joined_rest : {X A : Type 0} (f : X → List A) (xs : List X) (i : ℕ) (x : X) (rest first after all : List A) → i < length xs
    → flat_map f (take i xs) ++ rest ≡ all → rest ≡ first ++ after → f x ≡ first → x ≡ get_or xs i x → flat_map f (take (i + 1) xs) ++ after ≡ all
joined_rest f xs i x rest first after all below so_far split same at =
    ap (λ l. l ++ after) (sym (joined_more f (flat_map f (take i xs)) (flat_map f (take i xs) ++ f x) xs i x below refl refl at))
    ∙ append_assoc (flat_map f (take i xs)) (f x) after
    ∙ ap (λ l. flat_map f (take i xs) ++ l) (ap (λ l. l ++ after) same ∙ sym split)
    ∙ so_far
