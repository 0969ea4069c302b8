-- An end frees all descriptors, and what has ended stays as it is.
use Rattle.kernel_model.proofs.EndRuns.{run_emptied}
use Rattle.kernel_model.proofs.laws.ended_hold_nothing.Goals as goal

pub returns : goal.returns
returns _ = run_emptied
