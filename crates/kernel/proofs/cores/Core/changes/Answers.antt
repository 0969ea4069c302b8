-- What the parts say, the run says.
use Rattle.std.proofs.Common.{ap, ◌∙◌}
use Rattle.kernel_model.specs.Answers.{Kernel, now, changes}
use Rattle.kernel.specs.Booting.{boot_of}
use Rattle.kernel.proofs.cores.Core.changes.Goals as goal

pub returns : goal.returns
returns c = c.changes.ensures (boot_of c.self.inside.booted.value) c.self.invariant.stands ∙ ap (λ (k : Kernel). changes (now k)) c.self.view_is
