-- The disk's law, at the moves that the events are.
use Rattle.kernel_model.specs.World.{first_world, after}
use Rattle.kernel_laws.proofs.Groups.{run_orderly, failed_uncommitted}
use Rattle.kernel_laws.proofs.groups_in_flight.Goals as goal

pub returns : goal.returns
returns c = record {
  among = λ b es. (run_orderly c.runs_are_orderly.ensures b es).among;
  none = λ b es. (run_orderly c.runs_are_orderly.ensures b es).none;
  more = λ b es. (run_orderly c.runs_are_orderly.ensures b es).more;
  most = λ b es. (run_orderly c.runs_are_orderly.ensures b es).most;
  failed = λ b es. failed_uncommitted (after (first_world b) es) (run_orderly c.runs_are_orderly.ensures b es);
}
