-- What the parts say, the run says.
use Rattle.std.proofs.Common.{ap, ◌∙◌}
use Rattle.kernel_model.specs.Answers.{Kernel, now}
use Rattle.kernel_model.specs.Paths.{changes_in_log}
use Rattle.kernel.specs.Booting.{boot_of}
use Rattle.kernel.proofs.cores.Core.change_list.Goals as goal

pub returns : goal.returns
returns c =
    c.change_list.ensures (boot_of c.self.inside.booted.value) c.self.invariant.stands ∙ ap (λ (k : Kernel). changes_in_log (now k).log) c.self.view_is
