-- The search goes on by a level.
use Rattle.std.proofs.Common.{arith, ◌∙◌, ◌++◌, [], ◌+◌, length, ap, sym}
use Rattle.std.proofs.lemmas.List.{length-append}
use Rattle.state_search.proofs.GoingOn.{has-part}
use Rattle.state_search.proofs.searching.search.Goals as goal

pub loop-alloc-preserved : goal.loop-alloc-preserved
loop-alloc-preserved g c =
    let inv = c.loop-alloc.invariant in
    let was = c.loop-alloc.going in
    let now = c.in_ok-going-2.going in
    let more = c.loop-alloc-test.ensures.more in
    let goes-on = rw inv.space at c.in_ok-going-2.ensures.going inv.gone in
    record {
      alone = c.in_ok-going-2.ensures.alone ∙ inv.alone;
      space = c.go_on.ensures.space ∙ inv.space;
      within = record {
        states = let most = more.states in let gone = c.in_ok-going-2.ensures.gone in omega (arith, most, gone);
        moves = let deeper = c.in_ok-going-2.ensures.deeper in let below = more.moves in omega (arith, deeper, below);
      };
      gone = inv.gone ++ was.searched.left.items;
      are_many = length-append inv.gone was.searched.left.items
          ∙ ap (λ n. n + length was.searched.left.items) inv.are_many ∙ sym c.in_ok-going-2.ensures.gone;
      going = goes-on inv.going;
    }

pub returns-clause-searched : goal.returns-clause-searched
returns-clause-searched g c =
    let inv = c.loop-alloc.invariant in
    let B = g.M.Moves.begins (g.M.Moves.space c.args.moves.now) in
    let E = g.M.Moves.expands (g.M.Moves.space c.args.moves.now) in
    let was = c.loop-alloc.going in
    has-part B E was.known.set was.searched.gone_on inv.gone was.searched.left.items [] was.searched.depth was.searched.is_whole inv.are_many (let all = rw inv.alone at inv.going in all)
