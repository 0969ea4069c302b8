-- A fine run and the run that it becomes are alike but for their Turns.
use Rattle.kernel_model.specs.World.{first_world, after}
use Rattle.kernel_model.specs.Fine.{after_fine, gathered}
use Rattle.kernel_laws.proofs.Swap.{fine_alike}
use Rattle.kernel_laws.proofs.Viewing.{same_view}
use Rattle.kernel_laws.proofs.interleavings.Goals as goal

pub returns : goal.returns
returns _ b items fine = same_view (after_fine (first_world b) items) (after (first_world b) (gathered items)) (fine_alike items (first_world b) fine)
