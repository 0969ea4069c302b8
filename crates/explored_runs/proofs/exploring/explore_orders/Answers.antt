-- The part that is asked for was searched, or all.
use Rattle.explored_runs.proofs.Uncut.{explored_all, explored_part, on_ok}
use Rattle.explored_runs.proofs.exploring.explore_orders.Goals as goal

pub returns : goal.returns
returns g c = on_ok c.search_whole.result c.search_whole.ensures (λ all. explored_all _ c.args.limits.part c.in-None.is all)

pub returns-in-Some : goal.returns-in-Some
returns-in-Some g c = on_ok c.search_part.result c.search_part.ensures (λ all. explored_part _ c.args.limits.part _ c.in-Some.is all)
