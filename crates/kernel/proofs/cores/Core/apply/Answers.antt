-- The parts follow the event.
use Rattle.std.proofs.Common.{subst}
use Rattle.kernel_model.specs.Answers.{Kernel, Applies}
use Rattle.kernel_step.specs.Represents.{kernel_in}
use Rattle.kernel.specs.Booting.{boot_of}
use Rattle.kernel.proofs.Parts.{applied-core, applied-ran}
use Rattle.kernel.proofs.cores.Core.apply.Goals as goal

pub apply-result-requires : goal.apply-result-requires
apply-result-requires c = (boot_of c.self.inside.booted.value, c.self.invariant.stands)

pub invariant_of-self : goal.invariant_of-self
invariant_of-self c =
    applied-core (boot_of c.self.inside.booted.value) c.self.inside.running c.apply-result.new.self c.self.inside.sums c.add_event.new.self c.args.event c.apply-result.result
    c.self.invariant (c.apply-result.ensures (boot_of c.self.inside.booted.value) c.self.invariant.stands) c.add_event.ensures.turns c.add_event.ensures.enters c.add_event.ensures.same

pub returns-clause-applies : goal.returns-clause-applies
returns-clause-applies c =
    subst (λ (k : Kernel). Applies k c.args.event (kernel_in (boot_of c.self.inside.booted.value) c.apply-result.new.self) c.apply-result.result) c.self.view_is
    (c.apply-result.ensures (boot_of c.self.inside.booted.value) c.self.invariant.stands).applies

pub returns-clause-ran : goal.returns-clause-ran
returns-clause-ran c =
    applied-ran c.args.self.now (kernel_in (boot_of c.self.inside.booted.value) c.apply-result.new.self) c.args.event c.apply-result.result
    (subst (λ (k : Kernel). Applies k c.args.event (kernel_in (boot_of c.self.inside.booted.value) c.apply-result.new.self) c.apply-result.result) c.self.view_is
    (c.apply-result.ensures (boot_of c.self.inside.booted.value) c.self.invariant.stands).applies)
