-- The search goes on, and leaves nothing to other parts.
use Rattle.std.proofs.Common.{◌≡◌, ◌-◌, List, [], length}
use Rattle.state_search.specs.Going.{IsGoing}
use Rattle.state_search.specs.Searches.{IsWithin}
use Rattle.state_search.specs.declared.moves.Found.{Found}
use Rattle.state_search.proofs.searching.search.Given as goal

abbrev pub invariant-loop-alloc : goal.invariant-loop-alloc
invariant-loop-alloc g l = record {
  alone : l.going.others.items ≡ [];
  space : g.M.Moves.space l.moves ≡ g.M.Moves.space l.fn.moves;
  within : IsWithin l.going.searched.gone_on l.going.searched.depth l.bounds;
  gone : List (Found g.row.M-State.Denot);
  are_many : length gone ≡ l.going.searched.gone_on;
  going : IsGoing (g.M.Moves.begins (g.M.Moves.space l.fn.moves)) (g.M.Moves.expands (g.M.Moves.space l.fn.moves)) l.going.known.set
      gone l.going.searched.left.items l.going.others.items l.going.searched.depth l.going.searched.is_whole;
}

abbrev pub decreases-loop-alloc : goal.decreases-loop-alloc
decreases-loop-alloc g l = l.bounds.moves - l.going.searched.depth
