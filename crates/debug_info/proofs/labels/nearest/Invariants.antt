-- The nearest label of those so far.
use Rattle.debug_info.specs.Labels.{IsNearest}
use Rattle.debug_info.proofs.labels.nearest.Given as goal

abbrev pub invariant-loop-place : goal.invariant-loop-place
invariant-loop-place l = IsNearest l.labels l.address l.place l.nearest
