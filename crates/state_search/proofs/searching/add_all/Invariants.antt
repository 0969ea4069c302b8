-- The states so far are those of which the keys were not known.
use Rattle.state_search.specs.Adding.{AreAdded}
use Rattle.state_search.proofs.searching.add_all.Given as goal

abbrev pub invariant-loop-key : goal.invariant-loop-key
invariant-loop-key g l = AreAdded l.fn.known.set l.known.set l.yielded l.added.items l.moves
