-- So far it is what is in what was found so far.
use Rattle.std.proofs.Common.{◌≡◌}
use Rattle.explored_runs.specs.Answering.{all_stand, calls_in, over_in, reached_in, visited_in}
use Rattle.explored_runs.proofs.sorting.sort_out.Given as goal

abbrev pub invariant-loop-state : goal.invariant-loop-state
invariant-loop-state l = record {
  reached : l.reached.items ≡ reached_in l.yielded;
  over : l.over.items ≡ over_in l.yielded;
  visited : l.visited.items ≡ visited_in l.yielded;
  calls : l.calls.items ≡ calls_in l.yielded;
  whole : l.is_whole ≡ all_stand l.yielded;
}
