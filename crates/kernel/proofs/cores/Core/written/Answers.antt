-- What the parts say, the run says.
use Rattle.std.proofs.Common.{ap, ◌∙◌}
use Rattle.kernel_model.specs.Answers.{Kernel, now}
use Rattle.kernel_model.specs.Shown.{printed}
use Rattle.kernel_model.specs.Views.{contents}
use Rattle.kernel.specs.Booting.{boot_of}
use Rattle.kernel.proofs.cores.Core.written.Goals as goal

pub written-requires-clause-kept : goal.written-requires-clause-kept
written-requires-clause-kept c = (boot_of c.self.inside.booted.value, c.self.invariant.stands)

pub returns : goal.returns
returns c =
    c.written.ensures (boot_of c.self.inside.booted.value) c.self.invariant.stands
    ∙ ap (λ (k : Kernel). contents (printed c.args.terminal (now k).log)) c.self.view_is
