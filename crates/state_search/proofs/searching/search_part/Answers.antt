-- The part goes on by a level, or leaves states to others before.
use Rattle.std.proofs.Common.{arith, ◌∙◌, ◌++◌, ◌+◌, length, ap, sym}
use Rattle.std.proofs.lemmas.List.{length-append}
use Rattle.state_search.specs.Going.{IsGoing}
use Rattle.state_search.proofs.GoingOn.{goes-on-left, within-left}
use Rattle.state_search.proofs.Sharing.{shares}
use Rattle.state_search.proofs.searching.search_part.Goals as goal

pub loop-alloc-preserved : goal.loop-alloc-preserved
loop-alloc-preserved g c =
    let B = g.M.Moves.begins (g.M.Moves.space c.args.moves.now) in
    let E = g.M.Moves.expands (g.M.Moves.space c.args.moves.now) in
    let inv = c.loop-alloc.invariant in
    let was = c.loop-alloc.going in
    let left = c.in_ok-going-2.going in
    let now = c.in_ok-going-3.going in
    let more = c.loop-alloc-test.ensures.more in
    let are = c.in_ok-going-2.ensures.left in
    let goes = goes-on-left B E was.known.set left.known.set was.searched.gone_on inv.gone was.searched.left.items was.others.items left.searched.gone_on left.searched.left.items
    left.others.items was.searched.depth was.searched.is_whole inv.going are in
    let at-depth : IsGoing B E left.known.set inv.gone left.searched.left.items left.others.items left.searched.depth left.searched.is_whole = rw (c.in_ok-going-2.ensures.depth, c.in_ok-going-2.ensures.whole) goes in
    let goes-on = rw inv.space at c.in_ok-going-3.ensures.going inv.gone in
    let kept = shares B E was.known.set c.args.part.number c.args.part.of was.searched.gone_on inv.gone was.searched.left.items was.others.items was.searched.depth was.searched.is_whole inv.going inv.are_many inv.shared in
    record {
      space = c.go_on.ensures.space ∙ inv.space;
      within = record {
        states = let most = within-left was.known.set left.known.set was.searched.gone_on was.searched.left.items was.others.items left.searched.gone_on
            left.searched.left.items left.others.items c.args.bounds.states are more.states in let gone = c.in_ok-going-3.ensures.gone in omega (arith, most, gone);
        moves = let deeper = c.in_ok-going-3.ensures.deeper in let same = c.in_ok-going-2.ensures.depth in let below = more.moves in omega (arith, deeper, same, below);
      };
      gone = inv.gone ++ left.searched.left.items;
      are_many = length-append inv.gone left.searched.left.items
          ∙ ap (λ n. n + length left.searched.left.items) (inv.are_many ∙ sym are.gone) ∙ sym c.in_ok-going-3.ensures.gone;
      going = goes-on at-depth;
      shared = rw (c.in_ok-going-3.ensures.alone, c.in_ok-going-2.ensures.others, c.in_ok-going-2.ensures.own) kept;
    }

pub returns-clause-part : goal.returns-clause-part
returns-clause-part g c =
    let inv = c.loop-alloc.invariant in
    record {
      searched = record { gone_on = inv.gone; are_many = inv.are_many; part = inv.going.searched; whole = inv.going.whole };
      shared = inv.shared;
    }
