-- What the parts say, the run says.
use Rattle.std.proofs.Common.{◌≡◌, ◌∙◌, ap, subst, true, if◌then◌else◌}
use Rattle.std.specs.Prelude.{IfErr, OnOk}
use Rattle.std.proofs.lemmas.Result.{IfOk-weaker}
use Rattle.kernel_laws.specs.Cones.{cone}
use Rattle.kernel_model.specs.Answers.{Kernel, now}
use Rattle.kernel_step.specs.Coning.{has_event}
use Rattle.kernel_step.specs.declared.cones.ConeFault.TheVariants.{NoEvent, OutOfMemory}
use Rattle.kernel.specs.Booting.{boot_of}
use Rattle.kernel.proofs.cores.Core.cone.Goals as goal

pub cone-requires : goal.cone-requires
cone-requires c = (boot_of c.self.inside.booted.value, c.self.invariant.stands)

pub returns-clause-numbers : goal.returns-clause-numbers
returns-clause-numbers c =
    IfOk-weaker c.cone.result _ _ (λ numbers all. all (boot_of c.self.inside.booted.value) c.self.invariant.stands ∙ ap (λ (k : Kernel). cone (now k) c.args.n) c.self.view_is)
    c.cone.ensures.numbers

pub returns-clause-there : goal.returns-clause-there
returns-clause-there c = subst (λ (k : Kernel). OnOk c.cone.result (has_event k.history c.args.n ≡ true)) c.self.view_is c.cone.ensures.there

pub returns-clause-fault : goal.returns-clause-fault
returns-clause-fault c =
    subst (λ (k : Kernel). IfErr c.cone.result (λ why. why ≡ (if has_event k.history c.args.n then OutOfMemory else NoEvent))) c.self.view_is c.cone.ensures.fault
