-- The last change on the way so far.
use Rattle.std.proofs.Common.{◌≡◌}
use Rattle.timeline.specs.Changes.{IsLastChange, held_at}
use Rattle.timeline.proofs.changes.last_change_before.Given as goal

abbrev pub invariant-loop-count : goal.invariant-loop-count
invariant-loop-count l = record {
  stands : l.debugger ≡ record l.fn.debugger { count = l.count };
  holds : l.before.items ≡ held_at l.fn.debugger l.locations l.count;
  last : IsLastChange l.fn.debugger l.locations l.fn.debugger.count l.count l.last;
}
