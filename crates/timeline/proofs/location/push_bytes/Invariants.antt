-- The bytes so far.
use Rattle.std.proofs.Common.{◌≡◌, ◌++◌}
use Rattle.timeline.specs.Locations.{bytes_from}
use Rattle.timeline.proofs.location.push_bytes.Given as goal

abbrev pub invariant-loop-offset : goal.invariant-loop-offset
invariant-loop-offset l = l.held.items ≡ l.initial.held.items ++ bytes_from l.space l.at l.offset
