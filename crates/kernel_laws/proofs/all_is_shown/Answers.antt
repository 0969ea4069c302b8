-- Each event is durable once as many changes are committed as there are.
use Rattle.kernel_model.specs.Answers.{committed}
use Rattle.kernel_model.specs.World.{first_world, after}
use Rattle.kernel_laws.proofs.AllShown.{printed_released, told_released}
use Rattle.kernel_laws.proofs.all_is_shown.Goals as goal

pub returns : goal.returns
returns c = record {
  terminals = λ b es all t. let w = after (first_world b) es in printed_released (committed w) t w.log all;
  traces = λ b es all p. let w = after (first_world b) es in told_released (committed w) p w.log all;
}
