-- One more was added.
use Rattle.std.proofs.Common.{arith, ◌≡◌, ◌∙◌, ◌++◌, ◌∷◌, [], ◌+◌, ℕ, zero, suc, List, Bool, false, refl, ap}
use Rattle.std.specs.Prelude.{replicate}
use Rattle.std.proofs.lemmas.List.{append_assoc}
use Rattle.order_outcomes.proofs.merging.add_unread.Goals as goal

one_more : (k : ℕ) → replicate k false ++ false ∷ [] ≡ replicate (suc k) false
one_more zero = refl
one_more (suc k) = ap (λ (bs : List Bool). false ∷ bs) (one_more k)

pub loop-preserved : goal.loop-preserved
loop-preserved c =
    let next : suc c.loop.counter ≡ c.loop.counter + 1 = omega arith in
    c.in_ok-push.ensures.items
    ∙ ap (λ (bs : List Bool). bs ++ false ∷ []) c.loop.invariant
    ∙ append_assoc c.args.read.now.items (replicate c.loop.counter false) (false ∷ [])
    ∙ ap (λ (bs : List Bool). c.args.read.now.items ++ bs) (one_more c.loop.counter ∙ ap (λ (n : ℕ). replicate n false) next)
