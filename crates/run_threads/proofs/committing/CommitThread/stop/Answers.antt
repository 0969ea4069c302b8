-- Stop is no call that a stage makes.
use Rattle.std.proofs.Common.{refl}
use Rattle.run_threads.proofs.CoreCalls.{none_stopped}
use Rattle.run_threads.proofs.committing.CommitThread.stop.Goals as goal

pub returns : goal.returns
returns g c = rw (← c.self.view_is) (none_stopped _ _ c.stop.ensures, refl, refl)
