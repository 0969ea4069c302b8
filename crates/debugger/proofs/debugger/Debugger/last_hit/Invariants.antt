-- No hit stands in the parts so far.
use Rattle.std.proofs.Common.{◌≡◌, ◌≤◌}
use Rattle.debugger.specs.Hits.{last_below}
use Rattle.debugger.proofs.debugger.Debugger.last_hit.Given as goal

abbrev pub invariant-loop-end : goal.invariant-loop-end
invariant-loop-end l = record {
  same : last_below l.self l.self.count ≡ last_below l.self l.end;
  within : l.end ≤ l.self.count;
}

abbrev pub decreases-loop-end : goal.decreases-loop-end
decreases-loop-end l = l.end
