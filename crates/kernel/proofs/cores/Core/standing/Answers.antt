-- What the parts say, the run says.
use Rattle.std.proofs.Common.{◌≡◌, ◌∙◌, ap, subst, true, None, is_some}
use Rattle.kernel_model.specs.Answers.{Kernel, process_of}
use Rattle.kernel_model.specs.Loans.{standing_of}
use Rattle.kernel_model.specs.declared.answer.Refused.TheVariants.{NoProcess}
use Rattle.kernel.specs.Booting.{boot_of}
use Rattle.std.proofs.lemmas.Result.{IfOk-weaker, on_ok_weaker, IfErr-weaker}
use Rattle.kernel.proofs.cores.Core.standing.Goals as goal

pub returns-clause-standing : goal.returns-clause-standing
returns-clause-standing c =
    IfOk-weaker c.standing.result _ _ (λ standing all. all (boot_of c.self.inside.booted.value) c.self.invariant.stands ∙ ap (λ (k : Kernel). standing_of k c.args.pid) c.self.view_is)
    c.standing.ensures.standing

pub returns-clause-there : goal.returns-clause-there
returns-clause-there c =
    on_ok_weaker c.standing.result (λ all. subst (λ (k : Kernel). is_some (process_of k c.args.pid) ≡ true) c.self.view_is (all (boot_of c.self.inside.booted.value) c.self.invariant.stands))
    c.standing.ensures.there

pub returns-clause-none : goal.returns-clause-none
returns-clause-none c =
    IfErr-weaker c.standing.result _ _ (λ why all. subst (λ (k : Kernel). (why ≡ NoProcess) × (process_of k c.args.pid ≡ None)) c.self.view_is
    (all (boot_of c.self.inside.booted.value) c.self.invariant.stands)) c.standing.ensures.none
