-- What the parts say, the run says.
use Rattle.std.proofs.Common.{ap, ◌∙◌}
use Rattle.kernel_model.specs.Ran.{ran_by_turns}
use Rattle.kernel.specs.Booting.{boot_of}
use Rattle.kernel.proofs.cores.Core.ran.Goals as goal

pub returns : goal.returns
returns c = c.ran.ensures.sum (boot_of c.self.inside.booted.value) c.self.invariant.stands ∙ ap ran_by_turns c.self.view_is
