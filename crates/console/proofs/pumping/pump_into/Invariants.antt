-- The text went out up to here.
use Rattle.std.proofs.Common.{length, ◌-◌, ◌≤◌}
use Rattle.console.specs.Sinks.{GoesOut}
use Rattle.console.proofs.pumping.pump_into.Given as goal

abbrev pub invariant-loop-upto : goal.invariant-loop-upto
invariant-loop-upto g l = (l.upto ≤ length l.text) × GoesOut g.S.Sink.answers l.text l.fn.sink l.fn.from l.sink l.upto

abbrev pub decreases-loop-upto : goal.decreases-loop-upto
decreases-loop-upto g l = length l.text - l.upto
