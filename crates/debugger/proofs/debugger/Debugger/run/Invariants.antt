-- The run so far, and where it ends at the latest.
use Rattle.std.proofs.Common.{◌≡◌, ◌-◌}
use Rattle.debugger.specs.Stops.{limit_of}
use Rattle.debugger.proofs.Stopping.{GoesPast}
use Rattle.debugger.proofs.debugger.Debugger.run.Given as goal

abbrev pub invariant-loop-self : goal.invariant-loop-self
invariant-loop-self l = record {
  goes : GoesPast l.initial.self l.max l.self;
  limit : l.limit ≡ limit_of l.initial.self l.max;
}

abbrev pub decreases-loop-self : goal.decreases-loop-self
decreases-loop-self l = l.limit - l.self.count
