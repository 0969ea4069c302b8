-- A Turn or an Enter that the parts take is one of the run.
use Rattle.std.proofs.Common.{◌≡◌, ◌∙◌, ℕ, List, length, Result, Ok, Err, refl, ap, sym, subst}
use Rattle.std.specs.Prelude.{IfOk, IfErr, OnErr}
use Rattle.kernel_model.specs.Answers.{Refuses, Applies}
use Rattle.kernel_model.specs.Steps.{step}
use Rattle.kernel_model.specs.World.{Boot, run_of}
use Rattle.kernel_model.specs.declared.answer.Answer.{Answer}
use Rattle.kernel_model.specs.declared.answer.Refused.{Refused}
use Rattle.kernel_model.specs.declared.event.Event.{Event}
use Rattle.kernel_model.specs.declared.event.Event.TheVariants.{Turn, Enter}
use Rattle.kernel_step.specs.Counted.{IsCounted}
use Rattle.kernel_step.specs.Represents.{kernel_of, kernel_in, KeepsRun, Represents, Steps}
use Rattle.kernel_step.specs.Tasks.{count_out}
use Rattle.kernel_step.specs.Trying.{is_history_full, IsTurnAccepted, IsTurnRefused, IsEnterAccepted, IsEnterRefused}
use Rattle.kernel_step.specs.Tests.{turn_refusal_of, enter_refusal_of}
use Rattle.kernel_step.specs.declared.running.Running.{Running}
use Rattle.kernel_step.specs.declared.system.System.{System}
use Rattle.kernel_step.specs.declared.task.Task.{Task}
use Rattle.kernel_step.proofs.Applying.{turn-refusal-is, same-core, refused-applies, turned-core, turned-applies, turned-out}
use Rattle.kernel_step.proofs.Counting.{counted-other, counted-turn}
use Rattle.kernel_step.proofs.EnterCore.{enter-core, enter-applies, child-out}
use Rattle.kernel_step.proofs.FewLoans.{same-out}
use Rattle.kernel_step.proofs.Noting.{TurnGrows, EnterGrows}

-- the process that was lent last is the same
same-lent : (b : Boot) (old new : Running) (e : Event) (r : Result Answer Refused) → new.last_lent ≡ old.last_lent
    → Applies (kernel_in b old) e (kernel_of b new.history.items new.tasks.items old.last_lent) r → Applies (kernel_in b old) e (kernel_in b new) r
same-lent b old new e r same h =
    subst (λ (last : ℕ). Applies (kernel_in b old) e (kernel_of b new.history.items new.tasks.items last) r) (sym same) h

pub turn-steps-run : TurnGrows → (b : Boot) (old new : Running) (pid n : ℕ) (r : Result Answer Refused) → Represents b old
    → IfOk r (λ a. IsTurnAccepted pid n old new a)
    → IfErr r (λ why. Refuses (turn_refusal_of old.tasks.items (is_history_full old) pid n) why)
    → OnErr r (IsTurnRefused old new)
    → Steps b (Turn pid n) old new r
turn-steps-run law b old new pid n (Ok a) h done why same =
    let history : List Event = old.history.items in
    let later : List Event = new.history.items in
    let tasks : List Task = old.tasks.items in
    let after : List Task = new.tasks.items in
    let applies = turned-applies b history later tasks after old.system new.system.dependencies.marks old.last_lent pid n a h.parts done.history done.turned in
    record {
      stands = record {
        parts =
            subst (λ (s : System). KeepsRun b later after s) (sym done.system)
            (turned-core law b history later tasks after old.system new.system.dependencies pid n a h.parts done.history done.turned);
        counted = counted-turn b history later tasks after old.last_lent old.ran new.ran pid n (Ok a) h.counted applies done.ran tt;
        out =
            done.out ∙ h.out
            ∙ sym (turned-out tasks after (length history) pid n old.system.dependencies.marks new.system.dependencies.marks a done.turned);
      };
      applies = same-lent b old new (Turn pid n) (Ok a) done.last_lent applies;
    }
turn-steps-run law b old new pid n (Err e) h done why same =
    let history : List Event = old.history.items in
    let later : List Event = new.history.items in
    let tasks : List Task = old.tasks.items in
    let after : List Task = new.tasks.items in
    let applies = refused-applies b history later tasks after old.last_lent (Turn pid n) (turn_refusal_of tasks (is_history_full old) pid n) e same.history same.tasks
    (turn-refusal-is b history tasks old.system old.last_lent pid n h.parts) why in
    record {
      stands = record {
        parts =
            subst (λ (s : System). KeepsRun b later after s) (sym same.system)
            (same-core b history later tasks after old.system new.system.dependencies same.history same.tasks same.marks h.parts);
        counted = counted-turn b history later tasks after old.last_lent old.ran new.ran pid n (Err e) h.counted applies tt same.ran;
        out = same.out ∙ h.out ∙ ap (λ (ts : List Task). count_out ts) (sym same.tasks);
      };
      applies = same-lent b old new (Turn pid n) (Err e) same.last_lent applies;
    }

pub enter-steps-run : EnterGrows → (b : Boot) (old new : Running) (pid : ℕ) (r : Result Answer Refused) → Represents b old
    → IfOk r (λ a. IsEnterAccepted pid old new a)
    → IfErr r (λ why. Refuses (enter_refusal_of old.tasks.items (is_history_full old) pid) why)
    → OnErr r (IsEnterRefused old new)
    → Steps b (Enter pid) old new r
enter-steps-run law b old new pid (Ok a) h done why same =
    let history : List Event = old.history.items in
    let later : List Event = new.history.items in
    let tasks : List Task = old.tasks.items in
    let after : List Task = new.tasks.items in
    let applies = enter-applies b history later tasks after old.system old.last_lent pid (Ok a) h.parts done.fine done.answer done.history done.lendings tt tt tt in
    record {
      stands = record {
        parts = enter-core law b history later tasks after old.system new.system pid (Ok a) h.parts done.fine done.mirrors done.footprint done.history done.lendings tt tt tt tt;
        counted = subst (IsCounted b later) (sym done.ran) (counted-other b history later tasks after old.last_lent old.ran (Enter pid) (Ok a) refl h.counted applies);
        out =
            done.out ∙ h.out
            ∙ sym (child-out tasks after (step (run_of b history).sync (Enter pid)).entry.child (done.lendings (run_of b history) h.parts.mirrors));
      };
      applies = same-lent b old new (Enter pid) (Ok a) done.last_lent applies;
    }
enter-steps-run law b old new pid (Err e) h done why same =
    let history : List Event = old.history.items in
    let later : List Event = new.history.items in
    let tasks : List Task = old.tasks.items in
    let after : List Task = new.tasks.items in
    let applies = enter-applies b history later tasks after old.system old.last_lent pid (Err e) h.parts tt tt tt tt why same.history same.lendings in
    record {
      stands = record {
        parts = enter-core law b history later tasks after old.system new.system pid (Err e) h.parts tt tt tt tt tt same.mirrors same.footprints same.history same.lendings;
        counted = subst (IsCounted b later) (sym same.ran) (counted-other b history later tasks after old.last_lent old.ran (Enter pid) (Err e) refl h.counted applies);
        out = same.out ∙ h.out ∙ sym (same-out tasks after same.lendings);
      };
      applies = same-lent b old new (Enter pid) (Err e) same.last_lent applies;
    }
