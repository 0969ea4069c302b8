-- The words of one block more.
use Rattle.std.proofs.Common.{◌≡◌, ◌++◌, ℕ, List, take, refl, ap, ◌∙◌, append_assoc}
use Rattle.std.specs.List.{flat_map}
use Rattle.memory.proofs.Copies.{joined_more}
use Rattle.memory.proofs.kept_page.append_blocks.Goals as goal

pub loop-block-preserved : goal.loop-block-preserved
loop-block-preserved c =
    let block = c.block-item.result.value.items in
    let before = flat_map (λ a. a.value.items) (take c.loop-block.block-index c.args.blocks.now) in
    let words : c.as_slice.result.now ≡ c.block-item.result.value.items = c.as_slice.ensures.value ∙ ap (λ v. v.items) c.deref.ensures in
    c.in_ok-extend_from_slice.ensures.items
    ∙ ap (λ (l : List (List ℕ)). c.loop-block.words.items ++ l) words
    ∙ ap (λ (l : List (List ℕ)). l ++ block) c.loop-block.invariant
    ∙ append_assoc c.args.words.now.items before block
    ∙ ap (λ (l : List (List ℕ)). c.args.words.now.items ++ l)
    (joined_more (λ a. a.value.items) before (before ++ block) c.args.blocks.now c.loop-block.block-index c.block-item.result c.loop-block-test.true refl refl c.block-item.is)
