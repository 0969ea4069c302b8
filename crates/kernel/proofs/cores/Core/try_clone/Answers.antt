-- The copy's parts stand for the same run.
use Rattle.std.proofs.Common.{ap, sym, subst, ◌∙◌}
use Rattle.kernel_model.specs.Answers.{Kernel}
use Rattle.kernel_step.specs.Represents.{kernel_in}
use Rattle.kernel.specs.Booting.{boot_of}
use Rattle.kernel.specs.Parts.{IsCore}
use Rattle.kernel.specs.declared.cores.Booted.{Booted}
use Rattle.kernel.proofs.Parts.{still-core}
use Rattle.kernel.proofs.cores.Core.try_clone.Goals as goal

pub invariant_of-result : goal.invariant_of-result
invariant_of-result c =
    subst (λ (b : Booted). IsCore (boot_of b) c.in_ok-try_clone-2.field-0 c.self.inside.sums) (sym c.in_ok-try_clone.ensures)
    (still-core (boot_of c.self.inside.booted.value) c.self.inside.running c.in_ok-try_clone-2.field-0 c.self.inside.sums c.self.invariant
    (c.in_ok-try_clone-2.ensures.stands (boot_of c.self.inside.booted.value) c.self.invariant.stands)
    (ap (λ (k : Kernel). k.history) (c.in_ok-try_clone-2.ensures.same (boot_of c.self.inside.booted.value))))

pub returns : goal.returns
returns c =
    ap (λ (b : Booted). kernel_in (boot_of b) c.in_ok-try_clone-2.field-0) c.in_ok-try_clone.ensures
    ∙ c.in_ok-try_clone-2.ensures.same (boot_of c.self.inside.booted.value) ∙ c.self.view_is
