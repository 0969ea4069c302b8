-- A Turn that is not refused has its machine here.
use Rattle.std.proofs.lemmas.Grind.{common_steps}
use Rattle.std.proofs.Common.{◌≡◌, ◌∙◌, ℕ, Bool, true, List, slice_get, Some, None, is_some, sym, subst, arith}
use Rattle.std.proofs.lemmas.Bool.{false≢true}
use Rattle.kernel_step.specs.Tasks.{out_of, process_of}
use Rattle.kernel_step.specs.Tests.{turn_refusal_of, IsPlaceOf}
use Rattle.kernel_step.specs.declared.task.Task.{Task}
use Rattle.kernel_step.proofs.Lists.{some-there}
use Rattle.kernel_step.proofs.Refusing.{turn-fine}
use Rattle.kernel_step.proofs.Turning.{turn-place}
use Rattle.kernel_step.proofs.running.Running.try_turn.Goals as goal

fine-here : (tasks : List Task) (full : Bool) (pid place n : ℕ) → IsPlaceOf tasks pid place → turn_refusal_of tasks full pid n ≡ None
    → ((t : Task) → slice_get tasks place ≡ Some t → is_some (out_of t) ≡ true) → ⊥
fine-here tasks full pid place n placed accepted lent =
    let one = some-there tasks place placed.there in
    let fine = turn-fine (process_of one.0) (is_some (out_of one.0)) full n
    (sym (turn-place tasks full pid place n one.0 placed one.1) ∙ accepted) in
    false≢true (sym fine.here ∙ lent one.0 one.1)

pub returns-in_err-count-clause-refused : goal.returns-in_err-count-clause-refused
returns-in_err-count-clause-refused c =
    let same : c.deref.result.now ≡ c.deref_mut.result.now = cc in
    absurd (fine-here c.deref_mut.result.now c.is_full-full.result c.args.pid c.in_ok-place.place c.args.n
    (subst (λ (ts : List Task). IsPlaceOf ts c.args.pid c.in_ok-place.place) same c.in_ok-place.ensures.place)
    (subst (λ (ts : List Task). turn_refusal_of ts c.is_full-full.result c.args.pid c.args.n ≡ None) same c.in_ok-place.ensures.fine)
    c.in_err-count.ensures.lent)

-- Without an answer this would be proved too; with one, an edit that breaks it is refused sooner.
pub returns-clause-done : goal.returns-clause-done
returns-clause-done c = grind (arith, common_steps)
