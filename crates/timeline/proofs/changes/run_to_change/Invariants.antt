-- The run so far.
use Rattle.std.proofs.Common.{◌≡◌}
use Rattle.timeline.specs.Changes.{held_at}
use Rattle.timeline.proofs.Changing.{Unchanged}
use Rattle.timeline.proofs.changes.run_to_change.Given as goal

abbrev pub invariant-loop : goal.invariant-loop
invariant-loop l = record {
  so_far : Unchanged l.fn.debugger l.locations l.debugger;
  holds : l.first.items ≡ held_at l.fn.debugger l.locations l.debugger.count;
}
