-- With a write that is complete one fewer is to come; the last one, with none failed, commits the group.
use Rattle.kernel_model.specs.World.{first_world, after}
use Rattle.kernel_laws.proofs.Groups.{run_orderly, counts_down, commits}
use Rattle.kernel_laws.proofs.completions_count_down.Goals as goal

pub returns : goal.returns
returns c = record {
  one_fewer = counts_down;
  commits = λ b es at. commits (after (first_world b) es) at (run_orderly c.runs_are_orderly.ensures b es);
}
