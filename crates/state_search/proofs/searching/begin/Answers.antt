-- The first state alone is a search that goes on.
use Rattle.std.proofs.Common.{false, ◌≡◌, refl}
use Rattle.state_search.specs.Keys.{has}
use Rattle.state_search.specs.declared.key.Key.{Key}
use Rattle.state_search.proofs.GoingOn.{begins-with}
use Rattle.state_search.proofs.searching.begin.Goals as goal

pub returns-clause-going : goal.returns-clause-going
returns-clause-going g c =
    let empty : (k : Key) → has c.new-known.result.set k ≡ false = λ k. rw c.new-known.ensures refl in
    let adds = rw c.in_ok-reached.ensures at c.in_ok-left.ensures in
    let all = begins-with (g.M.Moves.begins (g.M.Moves.space c.args.moves.now)) (g.M.Moves.expands (g.M.Moves.space c.args.moves.now)) c.new-known.result.set c.add_all.new.known.set c.in_ok-first.field-0 c.in_ok-left.left.items empty adds c.in_ok-first.ensures.begins in
    rw c.new.ensures.items all
