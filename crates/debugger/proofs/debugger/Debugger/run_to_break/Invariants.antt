-- The run so far, and where it ends at the latest.
use Rattle.std.proofs.Common.{◌≡◌, ◌-◌}
use Rattle.std.specs.Prelude.{IfSome}
use Rattle.debugger.specs.Coasts.{HasAll}
use Rattle.debugger.specs.Stops.{limit_of}
use Rattle.debugger.proofs.Stopping.{Goes}
use Rattle.debugger.proofs.debugger.Debugger.run_to_break.Given as goal

abbrev pub invariant-loop-self : goal.invariant-loop-self
invariant-loop-self l = record {
  goes : Goes l.initial.self l.max l.self;
  limit : l.limit ≡ limit_of l.initial.self l.max;
  all : IfSome l.stops (λ stops. HasAll l.initial.self.breaks stops.items);
}

abbrev pub decreases-loop-self : goal.decreases-loop-self
decreases-loop-self l = l.limit - l.self.count
