-- What the parts keep, the core keeps.
use Rattle.std.proofs.Common.{subst}
use Rattle.kernel_model.specs.Answers.{Kernel}
use Rattle.kernel.specs.Booting.{boot_of}
use Rattle.kernel.specs.Keeping.{KeepsLimits}
use Rattle.kernel.proofs.Parts.{core-keeps}
use Rattle.kernel.proofs.cores.Core.keeps_limits.Goals as goal

pub returns : goal.returns
returns c =
    subst (λ (k : Kernel). KeepsLimits k) c.self.view_is
    (core-keeps (boot_of c.self.inside.booted.value) c.self.inside.running c.self.inside.sums c.self.invariant c.ran-ran.result
    (c.ran-ran.ensures.sum (boot_of c.self.inside.booted.value) c.self.invariant.stands) (c.ran-ran.ensures.few (boot_of c.self.inside.booted.value) c.self.invariant.stands)
    (c.groups_in_flight.ensures.among (boot_of c.self.inside.booted.value) c.self.inside.running.history.items))
