-- An Enter that is not refused.
use Rattle.std.proofs.Common.{◌≡◌, ℕ, ◌+◌, ◌^◌, ◌<◌, Bool, true, false, ◌||◌, not, List, [], ◌∷◌, slice_get, Option, Some, None, is_some, is_none, nat_le, refl, sym, ap, ◌∙◌}
use Rattle.std.proofs.lemmas.Bool.{leb-false, not-false, or_parts}
use Rattle.machine_model.specs.States.{stopped_at}
use Rattle.kernel_model.specs.declared.answer.Refused.{Refused}
use Rattle.kernel_model.specs.State.{Process}
use Rattle.kernel_model.specs.declared.answer.Refused.TheVariants as refused
use Rattle.kernel_model.specs.Answers.{first_of, ◌⇒◌, has_ended, is_stopped, count_at, enter_refusal, limit}
use Rattle.kernel_step.specs.Tasks.{machine_of, out_of, process_of, status_of}
use Rattle.kernel_step.specs.Tests.{lent_of, enter_refusal_of}
use Rattle.kernel_step.specs.declared.task.Task.{Task}
use Rattle.kernel_step.proofs.Turning.{process-place, lending-place}

-- no test of five holds where there is no refusal
none-of-five : (a b c d e : Bool) (r s t u v : Refused) → first_of ((a ⇒ r) ∷ (b ⇒ s) ∷ (c ⇒ t) ∷ (d ⇒ u) ∷ (e ⇒ v) ∷ []) ≡ None
    → (a ≡ false) × (b ≡ false) × (c ≡ false) × (d ≡ false) × (e ≡ false)
none-of-five true b c d e r s t u v h = cc
none-of-five false true c d e r s t u v h = cc
none-of-five false false true d e r s t u v h = cc
none-of-five false false false true e r s t u v h = cc
none-of-five false false false false true r s t u v h = cc
none-of-five false false false false false r s t u v h = (refl, refl, refl, refl, refl)

-- the task of an Enter that is not refused
pub record IsFineTask (t : Task) (full : Bool) : Type 0 where
  pub running : status_of t ≡ None
  pub here : out_of t ≡ None
  pub stopped : is_some (stopped_at (machine_of t)) ≡ true
  pub few : (machine_of t).count < 2 ^ 40
  pub room : full ≡ false

pub none-some : {A : Type 0} (o : Option A) → is_some o ≡ false → o ≡ None
none-some None h = refl
none-some (Some x) h = cc

fine-by : (t : Task) (full : Bool) → enter_refusal (Some (process_of t)) (is_some (out_of t)) full ≡ None → IsFineTask t full
fine-by t full h =
    let all = none-of-five false (is_some (status_of t)) (is_some (out_of t)) (not (is_some (stopped_at (machine_of t)))) (nat_le limit (machine_of t).count || full)
    refused.NoProcess refused.Ended refused.Lent refused.NotStopped refused.Budget h in
    let last = or_parts (nat_le limit (machine_of t).count) full all.4 in
    record {
      running = none-some (status_of t) all.1;
      here = none-some (out_of t) all.2;
      stopped = not-false (is_some (stopped_at (machine_of t))) all.3;
      few = leb-false limit (machine_of t).count last.0;
      room = last.1;
    }

-- the refusal is that of the task
pub refusal-of : (tasks : List Task) (full : Bool) (pid place : ℕ) (t : Task) → pid ≡ place + 1 → slice_get tasks place ≡ Some t
    → enter_refusal_of tasks full pid ≡ enter_refusal (Some (process_of t)) (is_some (out_of t)) full
refusal-of tasks full pid place t number there =
    ap (λ (o : Option Process). enter_refusal o (lent_of tasks pid) full) (process-place tasks pid place t number there)
    ∙ ap (λ (b : Bool). enter_refusal (Some (process_of t)) b full) (lending-place tasks pid place t number there)

pub fine-task : (tasks : List Task) (full : Bool) (pid place : ℕ) (t : Task) → pid ≡ place + 1 → slice_get tasks place ≡ Some t
    → enter_refusal_of tasks full pid ≡ None → IsFineTask t full
fine-task tasks full pid place t number there h = fine-by t full (sym (refusal-of tasks full pid place t number there) ∙ h)

-- no Enter is accepted where the history is full
pub fine-full : (o : Option Process) (lent full : Bool) → enter_refusal o lent full ≡ None → full ≡ false
fine-full o lent full h =
    let all = none-of-five (is_none o) (has_ended o) lent (not (is_stopped o)) (nat_le limit (count_at o) || full)
    refused.NoProcess refused.Ended refused.Lent refused.NotStopped refused.Budget h in
    let last = or_parts (nat_le limit (count_at o)) full all.4 in
    last.1
