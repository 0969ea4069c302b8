-- A Cut is no call that a stage makes.
use Rattle.std.proofs.Common.{refl}
use Rattle.run_threads.proofs.CoreCalls.{none_cut}
use Rattle.run_threads.proofs.committing.CommitThread.cut.Goals as goal

pub returns-in_err-apply : goal.returns-in_err-apply
returns-in_err-apply g c = rw (← c.self.view_is) (none_cut _ _ _ c.apply.ensures.notes, refl, refl)

pub returns : goal.returns
returns g c = rw (← c.self.view_is) (none_cut _ _ _ c.apply.ensures.notes, refl, refl)
