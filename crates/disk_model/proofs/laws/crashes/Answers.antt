-- The law over whole runs.
use Rattle.disk_model.proofs.laws.crashes.Goals as goal
use Rattle.disk_model.proofs.Whole.{crashes_hold}

pub returns : goal.returns
returns c = crashes_hold
