-- Runs of bytes that pass a test.
use Rattle.std.proofs.Common.{◌≡◌, ℕ, suc, ◌+◌, ◌<◌, Bool, true, false, cond, List, [], ◌∷◌, ◌++◌, length, take, drop, refl, ap, subst, ◌∙◌, arith}
use Rattle.std.proofs.{lemmas.Bool.cond-true, lemmas.Bool.cond-false, lemmas.List.length-take-le, lemmas.List.get_or-take}
use Rattle.std.specs.List.{prefix_len, AllPass}
use Rattle.std.proofs.{lemmas.List.Elements.All-head, lemmas.List.Elements.All-tail, lemmas.List.Sums.prefix_len-le-length, lemmas.List.Sums.prefix_len_passes}
use Rattle.asm_text.specs.Letters.{IsRunEnd}

-- the elements of the run pass
pub prefix_passes : (p : ℕ → Bool) (bs : List ℕ) → AllPass p (take (prefix_len p bs) bs)
prefix_passes p bs k d lt =
    let within = prefix_len-le-length p bs in
    let len = length-take-le (prefix_len p bs) bs within in
    let k_in : k < prefix_len p bs = omega arith in
    ap p (get_or-take (prefix_len p bs) bs k d k_in) ∙ prefix_len_passes p bs k d k_in

-- what comes after it does not
ends_by : (p : ℕ → Bool) (b : ℕ) (bs : List ℕ) (t : Bool) → p b ≡ t → IsRunEnd p (drop (prefix_len p bs) bs) → IsRunEnd p (drop (cond t (1 + prefix_len p bs) 0) (b ∷ bs))
ends_by p b bs true e further =
    let more : suc (prefix_len p bs) ≡ 1 + prefix_len p bs = omega arith in
    subst (λ (n : ℕ). IsRunEnd p (drop n (b ∷ bs))) more further
ends_by p b bs false e further = e

pub run_ends : (p : ℕ → Bool) (bs : List ℕ) → IsRunEnd p (drop (prefix_len p bs) bs)
run_ends p [] = tt
run_ends p (b ∷ bs) = ends_by p b bs (p b) refl (run_ends p bs)

-- elements that pass, where none comes next that does, are the run
pub run_is : (p : ℕ → Bool) (xs rest : List ℕ) → AllPass p xs → IsRunEnd p rest → prefix_len p (xs ++ rest) ≡ length xs
run_is p [] [] all end = refl
run_is p [] (b ∷ bs) all end = cond-false (p b) (1 + prefix_len p bs) 0 end
run_is p (x ∷ xs) rest all end =
    let further = run_is p xs rest (All-tail (λ (b : ℕ). p b ≡ true) x xs all) end in
    cond-true (p x) (1 + prefix_len p (xs ++ rest)) 0 (All-head (λ (b : ℕ). p b ≡ true) x xs all)
    ∙ (let count : 1 + prefix_len p (xs ++ rest) ≡ suc (length xs) = omega arith in count)
