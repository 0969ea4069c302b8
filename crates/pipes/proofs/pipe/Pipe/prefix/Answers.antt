-- What was copied is what was asked for.
use Rattle.std.proofs.Common.{◌≡◌, ℕ, zero, suc, ◌-◌, List, [], ◌∷◌, ◌++◌, length, take, arith, ap, ◌∙◌}
use Rattle.std.specs.Prelude.{min}
use Rattle.std.proofs.lemmas.Grind.{common_steps}
use Rattle.std.proofs.lemmas.List.{take_min}
use Rattle.pipes.proofs.pipe.Pipe.prefix.Goals as goal

-- as many as there are of two lists in a row
taken : (n : ℕ) (a b : List ℕ) → take (min n (length a)) a ++ take (min (n - min n (length a)) (length b)) b ≡ take n (a ++ b)
taken n [] b = grind (arith, take_min)
taken zero (x ∷ a) b = grind (arith, common_steps)
taken (suc n) (x ∷ a) b =
    let more : min (suc n) (suc (length a)) ≡ suc (min n (length a)) = omega arith in
    let left : suc n - suc (min n (length a)) ≡ n - min n (length a) = omega arith in
    rw (more, left) (ap (λ (l : List ℕ). x ∷ l) (taken n a b))

pub returns : goal.returns
returns c =
    c.new.ensures ∙ c.in_ok-extend_from_slice-2.ensures.items
    ∙ rw (c.in_ok-extend_from_slice.ensures.items, c.in_ok-bytes.ensures.items, c.min-from_second.ensures, c.min-from_first.ensures) (taken c.args.n _ _)
    ∙ ap (take c.args.n) (c.as_slices.ensures ∙ (λ t. (c.self.view_is t).held))
