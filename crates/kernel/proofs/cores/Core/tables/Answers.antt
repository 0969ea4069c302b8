-- What the parts say, the run says.
use Rattle.std.proofs.Common.{subst}
use Rattle.calls.specs.Sights.{sight_of}
use Rattle.kernel_model.specs.Answers.{Kernel, now}
use Rattle.kernel_step.specs.Entering.{IsSightOf}
use Rattle.kernel.specs.Booting.{boot_of}
use Rattle.kernel.proofs.cores.Core.tables.Goals as goal

pub returns : goal.returns
returns c =
    subst (λ (k : Kernel). IsSightOf (now k).sync (sight_of c.tables.result)) c.self.view_is
    (c.tables.ensures (boot_of c.self.inside.booted.value) c.self.invariant.stands)
