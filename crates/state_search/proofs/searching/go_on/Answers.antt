-- A search goes on by a level.
use Rattle.state_search.proofs.GoingOn.{goes-on}
use Rattle.state_search.proofs.searching.go_on.Goals as goal

pub returns-clause-going : goal.returns-clause-going
returns-clause-going g c = λ gone going.
    let expanded = rw c.as_slice.ensures.value at c.in_ok-reached.ensures.expands in
    goes-on (g.M.Moves.begins (g.M.Moves.space c.args.moves.now)) (g.M.Moves.expands (g.M.Moves.space c.args.moves.now)) c.args.going.known.set c.add_all.new.known.set gone
    c.args.going.searched.left.items c.args.going.others.items c.in_ok-next.next.items c.in_ok-reached.field-0.next.items c.args.going.searched.depth c.args.going.searched.is_whole c.in_ok-reached.field-0.is_whole going expanded c.in_ok-next.ensures
