-- A loan's result, taken back or not.
use Rattle.std.proofs.Common.{◌≡◌, ◌∙◌, ℕ, ◌+◌, List, Some, None, Result, Ok, Err, refl, sym, ap, subst, slice_get, arith}
use Rattle.std.specs.Prelude.{IfOk, IfErr, OnErr}
use Rattle.machine_model.specs.States.{stopped_at}
use Rattle.machine_model.specs.declared.stop.Stop.{Stop}
use Rattle.kernel_model.specs.Loans.{IsOfLoan}
use Rattle.kernel_model.specs.World.{Boot}
use Rattle.kernel_model.specs.declared.answer.Answer.{Answer}
use Rattle.kernel_model.specs.declared.answer.Refused.TheVariants.{Stranger, OutOfMemory}
use Rattle.kernel_model.specs.declared.event.Event.{Event}
use Rattle.kernel_step.specs.Counted.{IsCounted}
use Rattle.kernel_step.specs.Loaned.{loan_result}
use Rattle.kernel_step.specs.Settling.{IsLoanOf, IsTurnSettled, IsCallSettled, IsNotSettled, LackedMemory}
use Rattle.kernel_step.specs.Represents.{kernel_of, kernel_in, KeepsRun, Represents, TakesBack}
use Rattle.kernel_step.specs.Tasks.{count_out}
use Rattle.kernel_step.specs.declared.loan.Done.{Done}
use Rattle.kernel_step.specs.declared.loan.Rejected.{Rejected}
use Rattle.kernel_step.specs.declared.running.Running.{Running}
use Rattle.kernel_step.specs.declared.task.Task.{Task}
use Rattle.kernel_step.proofs.Counting.{counted-settle}
use Rattle.kernel_step.proofs.EnterWorld.{EnterLaws}
use Rattle.kernel_step.proofs.Noting.{TurnGrows, EnterGrows}
use Rattle.kernel_step.proofs.SettleAccepted.{events-accepted}
use Rattle.kernel_step.proofs.SettleCore.{IsTaken, IsTakenOf, own-loan, turn-taken, enter-taken, taken-core, taken-out, taken-events, kept-core, kept-out, kept-kernel, get-one}

-- the parts follow the result's events, and its instructions are counted
record IsTakenAndCounted (b : Boot) (d : Done) (place : ℕ) (old new : Running) (a : Answer) : Type 0 where
  taken : IsTakenOf b old.history.items new.history.items old.tasks.items new.tasks.items old.last_lent place new.system d a
  ran : new.ran ≡ old.ran + d.count
  out : new.out + 1 ≡ old.out
  last_lent : new.last_lent ≡ old.last_lent

-- the same of these tasks
abbrev IsTakenTo : Boot → Done → ℕ → Running → Running → Answer → Task → Task → List Task → Type 0
IsTakenTo b d place old new a t u tasks = IsTaken b old.history.items new.history.items old.tasks.items tasks old.last_lent place t u new.system d a

settles : (b : Boot) (old new : Running) (place : ℕ) (t : Task) (d : Done) (r : Result Answer Rejected) → Represents b old
    → d.pid ≡ place + 1 → slice_get old.tasks.items place ≡ Some t → IsLoanOf t d
    → IfOk r (λ a. IsTakenAndCounted b d place old new a) → OnErr r (IsNotSettled place old new) → IfErr r (λ e. LackedMemory d e)
    → TakesBack b d old new r
settles b old new place t d (Ok a) h number there of done same back =
    let history : List Event = old.history.items in
    let later : List Event = new.history.items in
    let tasks : List Task = old.tasks.items in
    let after : List Task = new.tasks.items in
    let all = done.taken in
    let stands : Represents b new = record {
      parts = taken-core b history later tasks after old.system new.system old.last_lent place all.task all.after d a h.parts all.there all.of all.taken;
      counted =
          counted-settle b history later tasks after old.system new.system old.last_lent place old.ran new.ran t d (Ok a) h.parts number there of h.counted
          all tt done.ran tt;
      out =
          let less : count_out after + 1 ≡ count_out tasks =
          taken-out b history later tasks after old.last_lent place all.task all.after new.system d a all.there all.of all.taken in
          let was : old.out ≡ count_out tasks = h.out in
          let fewer : new.out + 1 ≡ old.out = done.out in
          let is : new.out ≡ count_out after = omega (arith, less, was, fewer) in
          is;
    }
    in record {
      stands = stands;
      settles = record {
        own = own-loan b history tasks old.system old.last_lent place t d h.parts number there of;
        fine = events-accepted b history tasks old.system old.last_lent place t d h.parts number there of;
        events =
            ap (λ last. kernel_of b later after last) done.last_lent
            ∙ taken-events b history later tasks after new.system old.last_lent place all.task all.after d a number all.there all.taken;
        answer = all.taken.answer;
        ran = sym stands.counted.turns ∙ done.ran ∙ ap (λ n. n + d.count) h.counted.turns;
        stranger = tt;
        own_only = tt;
        back = tt;
        err = tt;
      };
    }
settles b old new place t d (Err e) h number there of done same back =
    let history : List Event = old.history.items in
    let later : List Event = new.history.items in
    let tasks : List Task = old.tasks.items in
    let after : List Task = new.tasks.items in
    let own : IsOfLoan (kernel_in b old) (loan_result d) = own-loan b history tasks old.system old.last_lent place t d h.parts number there of in
    record {
      stands = record {
        parts =
            subst (λ (ts : List Task). KeepsRun b later ts new.system) (sym same.tasks)
            (kept-core b history later tasks old.system new.system place same.task same.after h.parts same.there same.history same.same same.system);
        counted =
            subst (λ (xs : List Event). IsCounted b xs new.ran) (sym same.history)
            (subst (λ (n : ℕ). IsCounted b history n) (sym same.ran) h.counted);
        out =
            same.out ∙ h.out
            ∙ sym (ap (λ (ts : List Task). count_out ts) same.tasks ∙ kept-out tasks place same.task same.after same.there same.same);
      };
      settles = record {
        own = tt;
        fine = tt;
        events = tt;
        answer = tt;
        ran = tt;
        stranger = λ why of_loan. let cause : e.why ≡ OutOfMemory = back.cause in cc;
        own_only = λ other. (back.cause, own);
        back = back.back;
        err =
            ap (λ last. kernel_of b later after last) same.last_lent
            ∙ ap (λ (ts : List Task). kernel_of b later ts old.last_lent) same.tasks
            ∙ kept-kernel b history later tasks old.last_lent place same.task same.after same.there same.history same.same;
      };
    }

-- a result that is of no loan
pub stranger-back : (b : Boot) (r : Running) (d : Done) → Represents b r → ¬ (IsOfLoan (kernel_in b r) (loan_result d))
    → TakesBack b d r r (Err (record { why = Stranger; done = d }))
stranger-back b r d h other = record {
  stands = h;
  settles = record {
    own = tt;
    fine = tt;
    events = tt;
    answer = tt;
    ran = tt;
    stranger = λ why. other;
    own_only = λ cause. absurd (cause refl);
    back = refl;
    err = refl;
  };
}

-- a result whose machine stands nowhere
pub turn-settles : TurnGrows → (b : Boot) (old new : Running) (place : ℕ) (t : Task) (d : Done) (r : Result Answer Rejected) → Represents b old
    → d.pid ≡ place + 1 → slice_get old.tasks.items place ≡ Some t → IsLoanOf t d → stopped_at d.machine ≡ None
    → IfOk r (λ a. IsTurnSettled d place old new a) → OnErr r (IsNotSettled place old new) → IfErr r (λ e. LackedMemory d e)
    → TakesBack b d old new r
turn-settles law b old new place t d (Ok a) h number there of stands done same back =
    let own : IsLoanOf done.task d = subst (λ (x : Task). IsLoanOf x d) (get-one old.tasks.items place t done.task there done.there) of in
    settles b old new place t d (Ok a) h number there of (record {
      taken = record {
        task = done.task;
        after = done.after;
        there = done.there;
        of = own;
        taken =
            subst (λ (ts : List Task). IsTakenTo b d place old new a done.task done.after ts) (sym done.tasks)
            (turn-taken law b old.history.items new.history.items old.tasks.items old.system new.system old.last_lent place done.task done.after d a
            h.parts number done.there own stands done.back done.system done.history done.answer);
      };
      ran = done.ran;
      out = done.out;
      last_lent = done.last_lent;
    }) same back
turn-settles law b old new place t d (Err e) h number there of stands done same back = settles b old new place t d (Err e) h number there of tt same back

-- a result whose machine stands at a call or a trap
pub call-settles : EnterLaws → TurnGrows → EnterGrows → (b : Boot) (old new : Running) (place : ℕ) (t : Task) (d : Done) (at : Stop) (r : Result Answer Rejected) → Represents b old
    → d.pid ≡ place + 1 → slice_get old.tasks.items place ≡ Some t → IsLoanOf t d → stopped_at d.machine ≡ Some at
    → IfOk r (λ a. IsCallSettled d place old new a) → OnErr r (IsNotSettled place old new) → IfErr r (λ e. LackedMemory d e)
    → TakesBack b d old new r
call-settles laws turns enters b old new place t d at (Ok a) h number there of stands done same back =
    let own : IsLoanOf done.task d = subst (λ (x : Task). IsLoanOf x d) (get-one old.tasks.items place t done.task there done.there) of in
    settles b old new place t d (Ok a) h number there of (record {
      taken = record {
        task = done.task;
        after = done.after;
        there = done.there;
        of = own;
        taken = enter-taken laws turns enters b old new place d at a h.parts number stands done own;
      };
      ran = done.ran;
      out = done.out;
      last_lent = done.last_lent;
    }) same back
call-settles laws turns enters b old new place t d at (Err e) h number there of stands done same back = settles b old new place t d (Err e) h number there of tt same back
