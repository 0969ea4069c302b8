-- The parts follow the loan.
use Rattle.std.proofs.Common.{option_map, subst}
use Rattle.kernel_model.specs.Answers.{Kernel}
use Rattle.kernel_step.specs.Loaned.{loan_out, LendsAgain}
use Rattle.kernel_step.specs.Represents.{kernel_in}
use Rattle.kernel.specs.Booting.{boot_of}
use Rattle.kernel.proofs.Parts.{again-core}
use Rattle.kernel.proofs.cores.Core.lend_again.Goals as goal

pub lend_again-requires : goal.lend_again-requires
lend_again-requires c = (boot_of c.self.inside.booted.value, c.self.invariant.stands)

pub invariant_of-self : goal.invariant_of-self
invariant_of-self c =
    again-core (boot_of c.self.inside.booted.value) c.self.inside.running c.lend_again.new.self c.self.inside.sums c.args.pid c.args.quantum (option_map loan_out c.lend_again.result) c.self.invariant
    (c.lend_again.ensures.stands (boot_of c.self.inside.booted.value) c.self.invariant.stands) (c.lend_again.ensures.lends (boot_of c.self.inside.booted.value) c.self.invariant.stands)

pub returns : goal.returns
returns c =
    subst (λ (k : Kernel). LendsAgain k c.args.pid c.args.quantum (kernel_in (boot_of c.self.inside.booted.value) c.lend_again.new.self) (option_map loan_out c.lend_again.result)) c.self.view_is
    (c.lend_again.ensures.lends (boot_of c.self.inside.booted.value) c.self.invariant.stands)
