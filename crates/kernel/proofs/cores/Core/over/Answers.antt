-- What the parts say, the run says.
use Rattle.std.proofs.Common.{ap, ◌∙◌}
use Rattle.kernel_model.specs.Answers.{Kernel}
use Rattle.kernel_model.specs.Loans.{is_over}
use Rattle.kernel.specs.Booting.{boot_of}
use Rattle.kernel.proofs.cores.Core.over.Goals as goal

pub returns : goal.returns
returns c = c.over.ensures (boot_of c.self.inside.booted.value) c.self.invariant.stands ∙ ap (λ (k : Kernel). is_over k c.args.quantum) c.self.view_is
