-- What the locations so far hold.
use Rattle.std.proofs.Common.{◌≡◌, take}
use Rattle.timeline.specs.Locations.{held_in}
use Rattle.timeline.proofs.location.read_held.Given as goal

abbrev pub invariant-loop-location : goal.invariant-loop-location
invariant-loop-location l = l.held.items ≡ held_in (take l.location-index l.locations) l.machine
