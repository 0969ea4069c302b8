-- What the parts say, the run says.
use Rattle.std.proofs.Common.{ap, ◌∙◌}
use Rattle.kernel_model.specs.Answers.{Kernel, now, committed}
use Rattle.kernel.specs.Booting.{boot_of}
use Rattle.kernel.proofs.cores.Core.committed.Goals as goal

pub returns : goal.returns
returns c = c.committed.ensures (boot_of c.self.inside.booted.value) c.self.invariant.stands ∙ ap (λ (k : Kernel). committed (now k)) c.self.view_is
