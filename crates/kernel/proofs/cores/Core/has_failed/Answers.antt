-- What the parts say, the run says.
use Rattle.std.proofs.Common.{ap, ◌∙◌}
use Rattle.std.specs.Prelude.{not}
use Rattle.disk_model.specs.Storage.{is_empty}
use Rattle.kernel_model.specs.Answers.{Kernel, now}
use Rattle.kernel.specs.Booting.{boot_of}
use Rattle.kernel.proofs.cores.Core.has_failed.Goals as goal

pub returns : goal.returns
returns c =
    c.has_failed.ensures (boot_of c.self.inside.booted.value) c.self.invariant.stands
    ∙ ap (λ (k : Kernel). not (is_empty (now k).storage.device.failed)) c.self.view_is
