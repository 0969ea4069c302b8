-- The way so far.
use Rattle.std.proofs.Common.{◌-◌, ◌≤◌, length}
use Rattle.debugger.specs.Ways.{Leads, traced_at}
use Rattle.debugger.proofs.place.Place.advance_to.Given as goal

abbrev pub invariant-loop-alloc : goal.invariant-loop-alloc
invariant-loop-alloc l = record {
  leads : Leads (l.self.machine.count - l.initial.self.machine.count) (traced_at l.replies l.initial.self) (traced_at l.replies l.self);
  ahead : l.initial.self.machine.count ≤ l.self.machine.count;
  within : l.self.machine.count ≤ l.count;
  bound : l.initial.self.taken ≤ length l.replies → l.self.taken ≤ length l.replies;
}

abbrev pub decreases-loop-alloc : goal.decreases-loop-alloc
decreases-loop-alloc l = l.count - l.self.machine.count
