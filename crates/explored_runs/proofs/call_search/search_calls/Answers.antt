-- The search finds all.
use Rattle.explored_runs.proofs.Joining.{finds_by_keys}
use Rattle.explored_runs.proofs.call_search.search_calls.Goals as goal

pub returns-in-Ok-clause-finds : goal.returns-in-Ok-clause-finds
returns-in-Ok-clause-finds g c =
    finds_by_keys (g.M.Moves.begins (g.M.Moves.space c.args.moves.now)) (g.M.Moves.expands (g.M.Moves.space c.args.moves.now)) c.in-Ok.searched.gone_on c.in-Ok.searched.left.items c.in-Ok.searched.depth
    c.in-Ok.searched.is_whole c.in-Ok.ensures.searched
