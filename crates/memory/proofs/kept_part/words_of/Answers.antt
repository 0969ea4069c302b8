-- The words of one page more.
use Rattle.std.proofs.Common.{◌++◌, ℕ, List, ap, ◌∙◌}
use Rattle.memory.proofs.Copies.{joined_more}
use Rattle.memory.proofs.kept_part.words_of.Goals as goal

pub loop-page-preserved : goal.loop-page-preserved
loop-page-preserved c =
    joined_more (λ a. a.value) c.loop-page.words.items c.append_to.new.words.items c.args.pages.now c.loop-page.page-index c.page-item.result c.loop-page-test.true
    (c.in_ok-append_to.ensures ∙ ap (λ (l : List (List ℕ)). c.loop-page.words.items ++ l) c.deref.ensures) c.loop-page.invariant c.page-item.is
