-- The words of one block more.
use Rattle.std.proofs.Common.{◌≡◌, ◌++◌, take, drop, ap, ap₂, sym, ◌∙◌, rules}
use Rattle.std.proofs.lemmas.List.{take-append-drop}
use Rattle.memory.proofs.Copies.{joined_rest}
use Rattle.memory.proofs.kept_page.are_blocks_of.Goals as goal

pub loop-block-preserved : goal.loop-block-preserved
loop-block-preserved c =
    let front : c.in-Some.first.now ≡ take c.len.result c.loop-block.rest.now = search rules in
    let back : c.in-Some.after.now ≡ drop c.len.result c.loop-block.rest.now = search rules in
    let split : c.loop-block.rest.now ≡ c.in-Some.first.now ++ c.in-Some.after.now =
    sym (take-append-drop c.len.result c.loop-block.rest.now) ∙ sym (ap₂ (λ xs ys. xs ++ ys) front back) in
    let same : c.as_slice.result.now ≡ c.in-Some.first.now = search rules in
    let block : c.block-item.result.value.items ≡ c.in-Some.first.now =
    ap (λ v. v.items) (sym c.deref-in-loop-block.ensures) ∙ sym c.as_slice.ensures.value ∙ same in
    joined_rest (λ a. a.value.items) c.args.blocks.now c.loop-block.block-index c.block-item.result c.loop-block.rest.now c.in-Some.first.now c.in-Some.after.now c.args.words.now c.loop-block-test.true
    c.loop-block.invariant split block c.block-item.is
