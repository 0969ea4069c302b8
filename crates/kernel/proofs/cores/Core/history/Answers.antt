-- What the parts say, the run says.
use Rattle.std.proofs.Common.{ap, ◌∙◌}
use Rattle.kernel_model.specs.Answers.{Kernel}
use Rattle.kernel.specs.Booting.{boot_of}
use Rattle.kernel.proofs.cores.Core.history.Goals as goal

pub returns : goal.returns
returns c = c.history.ensures (boot_of c.self.inside.booted.value) ∙ ap (λ (k : Kernel). k.history) c.self.view_is
