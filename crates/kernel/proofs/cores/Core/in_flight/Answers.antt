-- What the parts say, the run says.
use Rattle.std.proofs.Common.{ap, ◌∙◌}
use Rattle.kernel_model.specs.Answers.{Kernel, now, in_flight}
use Rattle.kernel.specs.Booting.{boot_of}
use Rattle.kernel.proofs.cores.Core.in_flight.Goals as goal

pub returns : goal.returns
returns c = c.in_flight.ensures (boot_of c.self.inside.booted.value) c.self.invariant.stands ∙ ap (λ (k : Kernel). in_flight (now k)) c.self.view_is
