-- The way so far.
use Rattle.std.proofs.Common.{◌≡◌, ◌-◌, ◌≤◌, length}
use Rattle.debugger.specs.Ways.{Leads, traced_at}
use Rattle.debugger.proofs.place.Place.advance.Given as goal

abbrev pub invariant-loop-done : goal.invariant-loop-done
invariant-loop-done l = record {
  leads : Leads l.done (traced_at l.replies l.initial.self) (traced_at l.replies l.self);
  within : l.done ≤ l.max;
  still : l.done ≡ 0 → l.self ≡ l.initial.self;
  bound : l.initial.self.taken ≤ length l.replies → l.self.taken ≤ length l.replies;
}

abbrev pub decreases-loop-done : goal.decreases-loop-done
decreases-loop-done l = l.max - l.done
