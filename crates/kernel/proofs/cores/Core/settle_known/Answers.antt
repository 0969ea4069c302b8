-- The parts follow the result's events.
use Rattle.std.proofs.Common.{subst, sym}
use Rattle.kernel_model.specs.Answers.{Kernel}
use Rattle.kernel_step.specs.Known.{IsKnownResult}
use Rattle.kernel_step.specs.Loaned.{Settles}
use Rattle.kernel_step.specs.Represents.{kernel_in}
use Rattle.kernel.specs.Booting.{boot_of}
use Rattle.kernel.proofs.Parts.{settled-core}
use Rattle.kernel.proofs.cores.Core.settle_known.Goals as goal

pub settle_known-result-requires : goal.settle_known-result-requires
settle_known-result-requires c = (
  boot_of c.self.inside.booted.value,
  c.self.invariant.stands,
  subst (λ (k : Kernel). IsKnownResult k c.args.done) (sym c.self.view_is) c.requires,
)

pub invariant_of-self : goal.invariant_of-self
invariant_of-self c =
    settled-core (boot_of c.self.inside.booted.value) c.self.inside.running c.settle_known-result.new.self c.self.inside.sums c.add_loan.new.self c.args.done c.settle_known-result.result
    c.self.invariant (c.settle_known-result.ensures (boot_of c.self.inside.booted.value) c.self.invariant.stands) c.add_loan.ensures.turns c.add_loan.ensures.enters c.add_loan.ensures.same

pub returns : goal.returns
returns c =
    subst (λ (k : Kernel). Settles k c.args.done (kernel_in (boot_of c.self.inside.booted.value) c.settle_known-result.new.self) c.settle_known-result.result) c.self.view_is
    (c.settle_known-result.ensures (boot_of c.self.inside.booted.value) c.self.invariant.stands).settles
