-- The parts stand for what the core was booted from.
use Rattle.kernel.specs.Booting.{boot_of}
use Rattle.kernel.proofs.cores.Core.into_running.Goals as goal

pub returns : goal.returns
returns c = (boot_of c.self.inside.booted.value, c.self.invariant.stands, c.self.view_is)
