-- By the tasks.
use Rattle.std.proofs.Common.{◌≡◌, length, subst}
use Rattle.kernel_model.specs.Answers.{Kernel, now}
use Rattle.kernel.specs.Booting.{boot_of}
use Rattle.kernel_step.specs.Represents.{kernel_in}
use Rattle.kernel.proofs.KnownLoans.{lendings-each}
use Rattle.kernel.proofs.cores.Core.has_lendings.Goals as goal

pub returns : goal.returns
returns c =
    subst (λ (k : Kernel). length k.lendings ≡ length (now k).sync.processes) c.self.view_is
    (lendings-each c.self.inside.running.tasks.items (now (kernel_in (boot_of c.self.inside.booted.value) c.self.inside.running)).sync.processes c.self.invariant.stands.parts.mirrors.each.processes)
