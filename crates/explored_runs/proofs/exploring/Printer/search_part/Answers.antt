-- What is not refused left none but to other parts.
use Rattle.std.proofs.Common.{◌∙◌, sym}
use Rattle.explored_runs.proofs.Uncut.{on_ok_both, part_left_none}
use Rattle.explored_runs.proofs.exploring.Printer.search_part.Goals as goal

pub returns : goal.returns
returns g c =
    let found = c.in_ok-found.found in
    on_ok_both c.test_all.result c.test_all.ensures.left c.test_all.ensures.whole
    (λ none whole. part_left_none c.args.self.now.runs.now c.args.head.part found.searched.gone_on found.searched.left.items found.others.items found.searched.depth
    c.of-totals.result.left found.searched.is_whole c.in_ok-found.ensures.finds c.of-totals.ensures.left none (sym c.of-totals.ensures.whole ∙ whole))
