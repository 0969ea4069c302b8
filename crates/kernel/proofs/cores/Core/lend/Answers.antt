-- The parts follow the loan.
use Rattle.std.proofs.Common.{subst}
use Rattle.kernel_model.specs.Answers.{Kernel}
use Rattle.kernel_model.specs.Loans.{Lends}
use Rattle.kernel_step.specs.Loaned.{lent_out}
use Rattle.kernel_step.specs.Represents.{kernel_in}
use Rattle.kernel.specs.Booting.{boot_of}
use Rattle.kernel.proofs.Parts.{lent-core}
use Rattle.kernel.proofs.cores.Core.lend.Goals as goal

pub lend-requires : goal.lend-requires
lend-requires c = (boot_of c.self.inside.booted.value, c.self.invariant.stands)

pub invariant_of-self : goal.invariant_of-self
invariant_of-self c =
    lent-core (boot_of c.self.inside.booted.value) c.self.inside.running c.lend.new.self c.self.inside.sums c.args.quantum (lent_out c.lend.result) c.self.invariant
    (c.lend.ensures.stands (boot_of c.self.inside.booted.value) c.self.invariant.stands) (c.lend.ensures.lends (boot_of c.self.inside.booted.value) c.self.invariant.stands)

pub returns : goal.returns
returns c =
    subst (λ (k : Kernel). Lends k c.args.quantum (kernel_in (boot_of c.self.inside.booted.value) c.lend.new.self) (lent_out c.lend.result)) c.self.view_is
    (c.lend.ensures.lends (boot_of c.self.inside.booted.value) c.self.invariant.stands)
