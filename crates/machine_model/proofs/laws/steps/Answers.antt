-- The law of steps, from the law of the instruction table.
use Rattle.machine_model.proofs.Stepping.{next-is-step}
use Rattle.machine_model.proofs.laws.steps.Goals as goal

pub returns : goal.returns
returns c = next-is-step c.meanings.ensures
