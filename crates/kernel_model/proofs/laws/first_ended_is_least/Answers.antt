-- The children of a process rise by number.
use Rattle.kernel_model.specs.State.{shared}
use Rattle.kernel_model.specs.World.{first_world, after}
use Rattle.kernel_model.proofs.LimitRuns.{run_children}
use Rattle.kernel_model.proofs.Least.{finds_least}
use Rattle.kernel_model.proofs.laws.first_ended_is_least.Goals as goal

pub returns : goal.returns
returns _ b es pid p at = finds_least (shared (after (first_world b) es).sync).statuses pid _ p.children (run_children b es pid p at)
