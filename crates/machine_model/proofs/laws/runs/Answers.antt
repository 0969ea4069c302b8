-- The law of runs, from the law of the instruction table.
use Rattle.machine_model.proofs.Stepping.{run-is-steps}
use Rattle.machine_model.proofs.laws.runs.Goals as goal

pub returns : goal.returns
returns c = run-is-steps c.meanings.ensures
