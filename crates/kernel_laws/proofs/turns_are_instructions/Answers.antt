-- The run with its Turns written out is possible, and alike but for what Turns leave in the log.
use Rattle.kernel_model.specs.World.{first_world, after}
use Rattle.kernel_model.specs.Fine.{after_fine, unfolded}
use Rattle.kernel_laws.proofs.Viewing.{same_view}
use Rattle.kernel_laws.proofs.WritingOut.{unfolded_alike}
use Rattle.kernel_laws.proofs.turns_are_instructions.Goals as goal

pub returns : goal.returns
returns _ = record {
  possible = λ b es. (unfolded_alike es (first_world b)).0;
  same = λ b es. same_view (after_fine (first_world b) (unfolded (first_world b) es)) (after (first_world b) es) (unfolded_alike es (first_world b)).1;
}
