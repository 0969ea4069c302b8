-- What the parts say, the run says.
use Rattle.std.proofs.Common.{subst}
use Rattle.footprints.specs.Footprints.{AreFootprints}
use Rattle.kernel_model.specs.Answers.{Kernel, now}
use Rattle.kernel.specs.Booting.{boot_of}
use Rattle.kernel.proofs.cores.Core.footprints.Goals as goal

pub returns : goal.returns
returns c =
    subst (λ (k : Kernel). AreFootprints k.history (now k).log c.footprints.result.now.footprints) c.self.view_is
    (c.footprints.ensures (boot_of c.self.inside.booted.value) c.self.invariant.stands)
