-- The part goes on to states of all parts.
use Rattle.explored_runs.proofs.Joining.{finds_its_part}
use Rattle.explored_runs.proofs.call_search.search_calls_part.Goals as goal

pub returns-in-Ok-clause-finds : goal.returns-in-Ok-clause-finds
returns-in-Ok-clause-finds g c =
    finds_its_part (g.M.Moves.begins (g.M.Moves.space c.args.moves.now)) (g.M.Moves.expands (g.M.Moves.space c.args.moves.now)) c.args.part.number c.args.part.of c.in-Ok.found.searched.gone_on c.in-Ok.found.searched.left.items c.in-Ok.found.others.items
    c.in-Ok.found.searched.depth c.in-Ok.found.searched.is_whole c.in-Ok.ensures.part
