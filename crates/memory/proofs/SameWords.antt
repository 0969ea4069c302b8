-- Words whose bytes, one after another, are the same.
use Rattle.std.proofs.Common.{◌≡◌, ℕ, suc, ◌<◌, List, [], ◌∷◌, ◌++◌, length, get_or, take, refl, sym, ap, ◌∙◌, arith, length-append}
use Rattle.std.specs.List.{flat_map}
use Rattle.std.proofs.Math.Seq.{take-append_seam}
use Rattle.std.proofs.lemmas.List.{append_cancel_left}

same_prefix : (x y xs ys : List ℕ) → length x ≡ length y → x ++ xs ≡ y ++ ys → x ≡ y
same_prefix x y xs ys l e = sym (take-append_seam x xs) ∙ ap (take (length x)) e ∙ ap (λ n. take n (y ++ ys)) l ∙ take-append_seam y ys

pub same_words_from_bytes : (xs ys : List (List ℕ)) → ((i : ℕ) → i < length xs → length (get_or xs i []) ≡ 4) → ((i : ℕ) → i < length ys → length (get_or ys i []) ≡ 4) → flat_map (λ x. x) xs ≡ flat_map (λ x. x) ys → xs ≡ ys
same_words_from_bytes [] [] h k e = refl
same_words_from_bytes [] (y ∷ ys) h k e = absurd (omega (arith, ap length e, length-append y (flat_map (λ x. x) ys), k 0 (omega arith)))
same_words_from_bytes (x ∷ xs) [] h k e = absurd (omega (arith, ap length e, length-append x (flat_map (λ x. x) xs), h 0 (omega arith)))
same_words_from_bytes (x ∷ xs) (y ∷ ys) h k e =
    let first : x ≡ y = same_prefix x y (flat_map (λ x. x) xs) (flat_map (λ x. x) ys) (h 0 (omega arith) ∙ sym (k 0 (omega arith))) e in
    let rest : flat_map (λ x. x) xs ≡ flat_map (λ x. x) ys = append_cancel_left y _ _ (ap (λ (z : List ℕ). z ++ flat_map (λ x. x) xs) (sym first) ∙ e) in
    λ i. first i ∷ same_words_from_bytes xs ys (λ j l. h (suc j) (omega arith)) (λ j l. k (suc j) (omega arith)) rest i
