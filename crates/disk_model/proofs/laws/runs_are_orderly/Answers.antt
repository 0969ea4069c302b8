-- Each move keeps the order.
use Rattle.disk_model.specs.Runs.{first_run}
use Rattle.disk_model.proofs.Orderly.{first_orderly, run_after_orderly}
use Rattle.disk_model.proofs.laws.runs_are_orderly.Goals as goal

pub returns : goal.returns
returns c disk gate files moves = run_after_orderly files moves (first_run disk gate) (first_orderly disk gate)
