-- What was left is told.
use Rattle.explored_runs.proofs.Uncut.{cut_by}
use Rattle.explored_runs.proofs.visiting.Visiting.search.Goals as goal

pub returns : goal.returns
returns g c =
    let found = c.in_ok-searched.searched in
    record {
      many = found.gone_on;
      left = found.left.items;
      finds = rw (c.of.ensures.depth, c.of.ensures.whole) c.in_ok-searched.ensures.finds;
      left_are = c.of.ensures.left;
      cut = rw c.of.ensures.depth (cut_by found.gone_on found.left.items found.depth c.bounds.result c.args.limits.states _ c.bounds.ensures.states c.bounds.ensures.calls c.in_ok-searched.ensures.cut);
    }
