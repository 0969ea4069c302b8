-- How many instructions a running kernel counts.
use Rattle.std.specs.Prelude.{◌≡◌, ℕ, ◌+◌, ◌≤◌, List, [], ◌∷◌, length}
use Rattle.kernel_model.specs.Ran.{instructions_from}
use Rattle.kernel_model.specs.Rows.{most_processes}
use Rattle.kernel_model.specs.State.{Process}
use Rattle.kernel_model.specs.World.{Boot, first_world, after}
use Rattle.kernel_model.specs.declared.event.Event.{Event}

-- how many instructions these processes have done, each from its first state on
abbrev pub done_by : List Process → ℕ
done_by [] = 0
done_by (p ∷ ps) = p.state.count + done_by ps

-- the Turns of this history ran so many instructions: no more than the processes have done, which are not too many
pub record IsCounted (b : Boot) (history : List Event) (ran : ℕ) : Type 0 where
  pub turns : ran ≡ instructions_from (first_world b) history
  pub done : ran ≤ done_by (after (first_world b) history).sync.processes
  pub few : length (after (first_world b) history).sync.processes ≤ most_processes
