-- What the parts say, the run says.
use Rattle.std.proofs.Common.{◌≡◌, ◌∙◌, ap, subst, None}
use Rattle.kernel_model.specs.Answers.{Kernel, now, process_of}
use Rattle.kernel_model.specs.Shown.{told, replies_in}
use Rattle.kernel_model.specs.Views.{contents}
use Rattle.kernel_model.specs.declared.answer.Refused.TheVariants.{NoProcess}
use Rattle.kernel.specs.Booting.{boot_of}
use Rattle.std.proofs.lemmas.Result.{IfOk-weaker, IfErr-weaker}
use Rattle.kernel.proofs.cores.Core.replies.Goals as goal

pub returns-clause-replies : goal.returns-clause-replies
returns-clause-replies c =
    IfOk-weaker c.replies.result _ _ (λ rs all. all (boot_of c.self.inside.booted.value) c.self.invariant.stands ∙ ap (λ (k : Kernel). replies_in (contents (told c.args.pid (now k).log))) c.self.view_is)
    c.replies.ensures.replies

pub returns-clause-none : goal.returns-clause-none
returns-clause-none c =
    IfErr-weaker c.replies.result _ _ (λ why all. subst (λ (k : Kernel). (why ≡ NoProcess) × (process_of k c.args.pid ≡ None)) c.self.view_is
    (all (boot_of c.self.inside.booted.value) c.self.invariant.stands)) c.replies.ensures.none
