-- What a core's parts are.
use Rattle.std.specs.Prelude.{◌≡◌, ◌+◌, ◌*◌, ◌≤◌, length}
use Rattle.std.specs.List.{AllByRecursion}
use Rattle.kernel_model.specs.Answers.{AllAccepted, at_boot}
use Rattle.kernel_model.specs.Rows.{most_processes}
use Rattle.kernel_model.specs.World.{Boot}
use Rattle.kernel_step.specs.Represents.{Represents}
use Rattle.kernel_step.specs.declared.running.Running.{Running}
use Rattle.kernel.specs.Keeping.{IsBooted}
use Rattle.kernel.specs.Sums.{process_of_turn, process_of_enter, sum_of_turns, sum_of_enters}
use Rattle.kernel.specs.declared.sums.Sums.{Sums}

-- They stand for the run of the history from this boot, with each event accepted, and the sums are its own.
pub record IsCore (b : Boot) (running : Running) (sums : Sums) : Type 0 where
  pub booted : IsBooted b
  pub stands : Represents b running
  pub accepted : AllAccepted (at_boot b) running.history.items
  pub turns : sums.turns ≡ sum_of_turns running.history.items
  pub enters : sums.enters ≡ sum_of_enters running.history.items
  pub numbers : AllByRecursion (λ e. process_of_turn e + process_of_enter e ≤ most_processes) running.history.items
  pub few : sums.turns + sums.enters ≤ most_processes * length running.history.items
