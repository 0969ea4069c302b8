-- Event by event.
use Rattle.kernel_laws.proofs.Rising.{committed-never-falls, changes-never-fall}
use Rattle.kernel_laws.proofs.counts_never_fall.Goals as goal

pub returns : goal.returns
returns c = record { committed = committed-never-falls c.runs_are_orderly.ensures; changes = changes-never-fall }
