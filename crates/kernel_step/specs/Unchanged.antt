-- What is left where memory runs out.
use Rattle.std.specs.Prelude.{◌≡◌, List}
use Rattle.kernel_model.specs.declared.event.Event.{Event}
use Rattle.kernel_step.specs.Entering.{IsSameTask, IsSameSystem}
use Rattle.kernel_step.specs.declared.system.System.{System}
use Rattle.kernel_step.specs.declared.task.Task.{Task}

-- a task, what is shared and the history are the same, though there may be room for more
pub record AreUnchanged (old new : Task) (before later : System) (events events' : List Event) : Type 0 where
  pub task : IsSameTask old new
  pub system : IsSameSystem before later
  pub history : events' ≡ events
