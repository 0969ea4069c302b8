-- The walk over the table has it of each row.
use Rattle.machine_model.specs.States.{stopped_at}
use Rattle.kernel_model.specs.State.{shared}
use Rattle.kernel_model.proofs.Making.{effect_makes}
use Rattle.kernel_model.proofs.laws.edits_are_made.Goals as goal

pub returns : goal.returns
returns _ s pid p e is = effect_makes (shared s) pid p (stopped_at p.state) e is
