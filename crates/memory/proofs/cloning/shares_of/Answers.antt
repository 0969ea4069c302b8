-- One more part is shared.
use Rattle.std.proofs.Common.{ℕ, ◌<◌, ◌++◌, ◌∷◌, [], List, length, take, sym, ap, ◌∙◌, map, arith}
use Rattle.std.proofs.lemmas.List.{map-append, length-map, take_more}
use Rattle.std.proofs.Math.ListN.{get_or-map}
use Rattle.memory.specs.Pages.{Pages}
use Rattle.memory.proofs.cloning.shares_of.Goals as goal

pub loop-part-preserved : goal.loop-part-preserved
loop-part-preserved c =
    let parts : List Pages = map (λ a. a.value) c.args.parts.now in
    let i : ℕ = c.loop-part.part-index in
    let below : i < length parts = omega (arith, c.loop-part-test.true, length-map c.args.parts.now (λ a. a.value)) in
    ap (map (λ a. a.value)) c.in_ok-push.ensures.items ∙ map-append (λ a. a.value) _ _
    ∙ (λ t. c.loop-part.invariant t ++ c.in_ok-try_clone.ensures t ∷ [])
    ∙ ap (λ (p : Pages). take i parts ++ p ∷ []) (ap (λ a. a.value) c.part-item.is ∙ sym (get_or-map (λ a. a.value) c.args.parts.now i c.part-item.result))
    ∙ sym (take_more parts i c.part-item.result.value below)
