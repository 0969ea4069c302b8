-- What the parts say, the run says.
use Rattle.std.proofs.Common.{ap, ◌∙◌}
use Rattle.kernel_model.specs.Answers.{Kernel, now}
use Rattle.kernel_model.specs.Shown.{shown}
use Rattle.kernel.specs.Booting.{boot_of}
use Rattle.kernel.proofs.cores.Core.shown.Goals as goal

pub shown-requires-clause-kept : goal.shown-requires-clause-kept
shown-requires-clause-kept c = (boot_of c.self.inside.booted.value, c.self.invariant.stands)

pub returns : goal.returns
returns c = c.shown.ensures (boot_of c.self.inside.booted.value) c.self.invariant.stands ∙ ap (λ (k : Kernel). shown (now k) c.args.terminal) c.self.view_is
