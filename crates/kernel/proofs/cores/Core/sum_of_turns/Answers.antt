-- What the parts say, the history says.
use Rattle.std.proofs.Common.{ap, ◌∙◌}
use Rattle.kernel_model.specs.Answers.{Kernel}
use Rattle.kernel.specs.Sums.{sum_of_turns}
use Rattle.kernel.proofs.cores.Core.sum_of_turns.Goals as goal

pub returns : goal.returns
returns c = c.self.invariant.turns ∙ ap (λ (k : Kernel). sum_of_turns k.history) c.self.view_is
