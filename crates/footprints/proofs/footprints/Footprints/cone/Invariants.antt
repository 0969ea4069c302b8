-- The events from this place on are walked.
use Rattle.footprints.proofs.Places.{IsBack}
use Rattle.footprints.proofs.footprints.Footprints.cone.Given as goal

abbrev pub invariant-loop-place : goal.invariant-loop-place
invariant-loop-place l = IsBack l.events l.self.footprints l.n l.place l.enters l.wanted l.numbers.items
