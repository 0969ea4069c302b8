-- What is not refused left none.
use Rattle.std.proofs.Common.{◌∙◌, sym}
use Rattle.explored_runs.proofs.Uncut.{left_none, on_ok_both}
use Rattle.explored_runs.proofs.exploring.Printer.search_whole.Goals as goal

pub returns : goal.returns
returns g c =
    let found = c.in_ok-searched.searched in
    on_ok_both c.test_all.result c.test_all.ensures.left c.test_all.ensures.whole
    (λ none whole. left_none c.args.self.now.runs.now found.gone_on found.left.items found.depth c.of-totals.result.left found.is_whole c.in_ok-searched.ensures.finds c.of-totals.ensures.left none
    (sym c.of-totals.ensures.whole ∙ whole))
