-- None changes on the way that was run again so far.
use Rattle.std.proofs.Common.{◌≡◌, ◌≤◌}
use Rattle.timeline.specs.Changes.{NoneChanges}
use Rattle.timeline.proofs.changes.last_change.Given as goal

abbrev pub invariant-loop-end : goal.invariant-loop-end
invariant-loop-end l = record {
  rest : l.debugger ≡ record l.fn.debugger { count = l.debugger.count; reran = l.debugger.reran };
  ahead : l.end ≤ l.debugger.count;
  within : l.end ≤ l.fn.debugger.count;
  none : NoneChanges l.fn.debugger l.locations l.end l.fn.debugger.count;
}

abbrev pub decreases-loop-end : goal.decreases-loop-end
decreases-loop-end l = l.end
