-- The way so far, and the last hit on it.
use Rattle.std.proofs.Common.{◌≡◌, ◌-◌, ◌≤◌}
use Rattle.debugger.specs.Coasts.{HasAll}
use Rattle.debugger.specs.Hits.{last_hit}
use Rattle.debugger.specs.Ways.{Leads, traced_at}
use Rattle.debugger.proofs.place.Place.last_hit.Given as goal

abbrev pub invariant-loop-alloc : goal.invariant-loop-alloc
invariant-loop-alloc l = record {
  leads : Leads (l.self.machine.count - l.initial.self.machine.count) (traced_at l.replies l.initial.self) (traced_at l.replies l.self);
  all : HasAll l.breaks.slots l.stops.items;
  ahead : l.initial.self.machine.count ≤ l.self.machine.count;
  within : l.self.machine.count ≤ l.end;
  hit : l.last ≡ last_hit l.breaks.slots (traced_at l.replies l.initial.self) l.initial.self.machine.count (l.self.machine.count - l.initial.self.machine.count);
}

abbrev pub decreases-loop-alloc : goal.decreases-loop-alloc
decreases-loop-alloc l = l.end - l.self.machine.count
