-- At first the core was told of nothing.
use Rattle.durable_disk.proofs.TellingSteps.{none_told}
use Rattle.durable_disk.proofs.report.report.Goals as goal

pub loop-piece-init : goal.loop-piece-init
loop-piece-init g c = none_told _ _ _ _
