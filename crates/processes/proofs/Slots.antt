-- Lists of descriptors.
use Rattle.std.proofs.Common.{◌≡◌, ℕ, List, [], ◌∷◌, length, map, replicate, refl, ap, sym, ◌∙◌}

-- a list of one value only
pub map-same : {A B : Type 0} (b : B) (xs : List A) → map (λ x. b) xs ≡ replicate (length xs) b
map-same b [] = refl
map-same b (x ∷ xs) = ap (λ ys. b ∷ ys) (map-same b xs)

-- n of one value, in place of n others
pub replicate-same : {A B : Type 0} (b : B) (xs : List A) (n : ℕ) → length xs ≡ n → replicate n b ≡ map (λ x. b) xs
replicate-same b xs n e = sym (map-same b xs ∙ ap (λ (k : ℕ). replicate k b) e)
