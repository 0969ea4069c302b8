-- What the search left is told.
use Rattle.explored_runs.proofs.Uncut.{explored_to, if_ok}
use Rattle.explored_runs.proofs.visiting.explore_states.Goals as goal

pub returns : goal.returns
returns g c = if_ok c.search.result c.search.ensures (λ explored to. explored_to _ explored.totals _ _ to)
