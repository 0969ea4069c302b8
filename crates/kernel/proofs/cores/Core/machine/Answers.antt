-- What the parts say, the run says.
use Rattle.std.proofs.Common.{◌≡◌, subst, None}
use Rattle.std.specs.Prelude.{IsSomeAnd}
use Rattle.kernel_model.specs.Answers.{Kernel, process_of}
use Rattle.kernel_model.specs.State.{Process}
use Rattle.kernel_model.specs.declared.answer.Refused.TheVariants.{NoProcess}
use Rattle.kernel.specs.Booting.{boot_of}
use Rattle.std.proofs.lemmas.Result.{IfOk-weaker, IfErr-weaker}
use Rattle.kernel.proofs.cores.Core.machine.Goals as goal

pub returns-clause-machine : goal.returns-clause-machine
returns-clause-machine c =
    IfOk-weaker c.machine.result _ _ (λ machine all. subst (λ (k : Kernel). IsSomeAnd (process_of k c.args.pid) (λ (p : Process). machine.now ≡ p.state)) c.self.view_is
    (all (boot_of c.self.inside.booted.value) c.self.invariant.stands)) c.machine.ensures.machine

pub returns-clause-none : goal.returns-clause-none
returns-clause-none c =
    IfErr-weaker c.machine.result _ _ (λ why all. subst (λ (k : Kernel). (why ≡ NoProcess) × (process_of k c.args.pid ≡ None)) c.self.view_is
    (all (boot_of c.self.inside.booted.value) c.self.invariant.stands)) c.machine.ensures.none
