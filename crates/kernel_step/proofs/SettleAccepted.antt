-- The events of a loan's result are accepted where they stand, once the process is back.
use Rattle.std.proofs.Common.{◌≡◌, ℕ, zero, suc, ◌+◌, ◌*◌, ◌^◌, ◌<◌, ◌≤◌, Bool, true, false, ◌||◌, not, if◌then◌else◌, List, [], ◌∷◌, ◌++◌, length, map, slice_get, slice_set, Option, Some, None, is_some, nat_lt, nat_le, refl, sym, ap, subst, ◌∙◌, arith}
use Rattle.std.proofs.lemmas.Option.{slice_get_within}
use Rattle.std.proofs.lemmas.List.{map-set, length_push}
use Rattle.std.proofs.lemmas.Bool.{le-ltb, lt-leb, or_from}
use Rattle.machine_model.specs.States.{State, Stepped, Goes, Halts, Ran, next, run, stopped_at}
use Rattle.machine_model.proofs.Running.{run-zero, run-goes, run-halts}
use Rattle.kernel_model.specs.Answers.{Kernel, Lending, AllAccepted, refusal, turn_refusal, enter_refusal, first_of, ◌⇒◌, limit, is_full, lending_at, with_child, with_event}
use Rattle.kernel_model.specs.Loans.{returned, events_of, put_lending, loans_in}
use Rattle.kernel_model.specs.State.{Process, process_at, put_process}
use Rattle.kernel_model.specs.Steps.{after_run}
use Rattle.kernel_model.specs.World.{Boot, World, first_world, run_of}
use Rattle.kernel_model.proofs.Runs.{after-append}
use Rattle.kernel_model.specs.declared.answer.Refused.{Refused}
use Rattle.kernel_model.specs.declared.answer.Refused.TheVariants as refused
use Rattle.kernel_model.specs.declared.event.Event.{Event}
use Rattle.kernel_model.specs.declared.event.Event.TheVariants.{Turn, Enter}
use Rattle.kernel_step.specs.Represents.{kernel_of, KeepsRun}
use Rattle.kernel_step.specs.Loaned.{loan_result}
use Rattle.kernel_step.specs.Settling.{IsLoanOf}
use Rattle.kernel_step.specs.Tasks.{machine_of, out_of, lending_of, count_out, needed}
use Rattle.kernel_step.specs.Tests.{lent_of}
use Rattle.kernel_step.specs.declared.loan.Done.{Done}
use Rattle.kernel_step.specs.declared.system.System.{System}
use Rattle.kernel_step.specs.declared.task.Task.{Task}
use Rattle.kernel_step.specs.declared.whereabouts.Whereabouts.TheVariants.{Here}
use Rattle.kernel_step.proofs.Applying.{full-is}
use Rattle.kernel_step.proofs.Lists.{get-set-here}
use Rattle.kernel_step.proofs.SettleCore.{process-in, lending-of, count-back, reached}
use Rattle.kernel_step.proofs.SettleWorld.{out-running, back-happens}
use Rattle.kernel_step.proofs.Turning.{IsProcessOf, lending-place, turn-child}

-- ---- a run does no more than it was asked for
run-within : (n : ℕ) (s : State) → (run n s).count ≤ n
run-within zero s =
    let none : (run zero s).count ≡ 0 = ap (λ (r : Ran). r.count) (run-zero s) in
    omega (arith, none)
run-within (suc n) s = by (λ t. run-within n t) (next s) refl
  where
    by : ((t : State) → (run n t).count ≤ n) → (x : Stepped) → next s ≡ x → (run (suc n) s).count ≤ suc n
    by rest (Goes t) e =
        let one : (run (suc n) s).count ≡ 1 + (run n t).count = ap (λ (r : Ran). r.count) (run-goes n s t e) in
        let few : (run n t).count ≤ n = rest t in
        omega (arith, one, few)
    by rest (Halts why) e =
        let none : (run (suc n) s).count ≡ 0 = ap (λ (r : Ran). r.count) (run-halts n s why e) in
        omega (arith, none)

done-within : (d : Done) → d.count ≤ d.quantum
done-within d =
    let counts : (run d.quantum d.began.value).count ≡ d.count = ap (λ (r : Ran). r.count) d.ran in
    let few : (run d.quantum d.began.value).count ≤ d.quantum = run-within d.quantum d.began.value in
    omega (arith, counts, few)

-- ---- what is accepted
none-of-three : (a b c : Bool) (r s t u : Refused) → a ≡ false → b ≡ false → c ≡ false
    → first_of ((false ⇒ r) ∷ (a ⇒ s) ∷ (b ⇒ t) ∷ (c ⇒ u) ∷ []) ≡ None
none-of-three false false false r s t u x y z = refl
none-of-three true b c r s t u x y z = cc
none-of-three false true c r s t u x y z = cc
none-of-three false false true r s t u x y z = cc

none-of-four : (a b c d : Bool) (r s t u v : Refused) → a ≡ false → b ≡ false → c ≡ false → d ≡ false
    → first_of ((false ⇒ r) ∷ (a ⇒ s) ∷ (b ⇒ t) ∷ (c ⇒ u) ∷ (d ⇒ v) ∷ []) ≡ None
none-of-four false b c d r s t u v w x y z = none-of-three b c d r t u v x y z
none-of-four true b c d r s t u v w x y z = cc

-- a Turn of a process that has not ended, is back, and has room
turn-accepted : (o : Option Process) (p : Process) (lent full : Bool) (n : ℕ) → o ≡ Some p → is_some p.status ≡ false → lent ≡ false
    → p.state.count + n ≤ limit → full ≡ false → turn_refusal o lent full n ≡ None
turn-accepted o p lent full n there running here few room =
    ap (λ (x : Option Process). turn_refusal x lent full n) there
    ∙ none-of-three (is_some p.status) lent (nat_lt limit (p.state.count + n) || full) refused.NoProcess refused.Ended refused.Lent refused.Budget
    running here (or_from (nat_lt limit (p.state.count + n)) full (le-ltb limit (p.state.count + n) few) room)

-- an Enter of one that stands at a call or a trap
enter-accepted : (o : Option Process) (p : Process) (lent full : Bool) → o ≡ Some p → is_some p.status ≡ false → lent ≡ false
    → is_some (stopped_at p.state) ≡ true → p.state.count < limit → full ≡ false → enter_refusal o lent full ≡ None
enter-accepted o p lent full there running here stands few room =
    ap (λ (x : Option Process). enter_refusal x lent full) there
    ∙ none-of-four (is_some p.status) lent (not (is_some (stopped_at p.state))) (nat_le limit p.state.count || full)
    refused.NoProcess refused.Ended refused.Lent refused.NotStopped refused.Budget
    running here (ap not stands) (or_from (nat_le limit p.state.count) full (lt-leb limit p.state.count few) room)

-- ---- the kernel once the process is back
-- the task once it is back, with the machine of which it was lent
abbrev pub returned_task : Task → Task
returned_task t = record t { whereabouts = Here (machine_of t) }

returned-is : (b : Boot) (history : List Event) (tasks : List Task) (last pid place : ℕ) (t : Task) → pid ≡ place + 1 → slice_get tasks place ≡ Some t
    → kernel_of b history (slice_set tasks place (returned_task t)) last ≡ returned (kernel_of b history tasks last) pid
returned-is b history tasks last pid place t number there =
    let next : pid ≡ suc place = omega arith in
    let count : loans_in (lending_at (map lending_of tasks) pid) ≡ t.loans = ap loans_in (lending-of tasks pid place t number there) in
    let lendings : map lending_of (slice_set tasks place (returned_task t))
    ≡ put_lending (map lending_of tasks) pid (record { loans = loans_in (lending_at (map lending_of tasks) pid); out = None }) =
    map-set lending_of tasks place (returned_task t)
    ∙ ap (λ n. slice_set (map lending_of tasks) place (record { loans = n; out = None })) (sym count)
    ∙ sym (ap (λ n. put_lending (map lending_of tasks) n (record { loans = loans_in (lending_at (map lending_of tasks) pid); out = None })) next) in
    ap (λ (ls : List Lending). record { boot = b; history = history; lendings = ls; last_lent = last }) lendings

not-full : (b : Boot) (history : List Event) (tasks : List Task) (last : ℕ) → length history + 2 * count_out tasks < 2 ^ 40
    → is_full (kernel_of b history tasks last) ≡ false
not-full b history tasks last room =
    sym (full-is b history tasks last) ∙ lt-leb (2 ^ 40) (length history + 2 * count_out tasks) room

-- the process after the Turn
process-put : (ps : List Process) (pid place : ℕ) (p : Process) → pid ≡ place + 1 → place < length ps → process_at (put_process ps pid p) pid ≡ Some p
process-put ps pid place p number within =
    let next : pid ≡ suc place = omega arith in
    ap (λ (k : ℕ). process_at (put_process ps k p) k) next ∙ get-set-here ps place p within

process-after : (b : Boot) (history : List Event) (tasks : List Task) (s : System) (pid place n q : ℕ) (t : Task) → KeepsRun b history tasks s
    → pid ≡ place + 1 → slice_get tasks place ≡ Some t → out_of t ≡ Some q → (of : IsProcessOf (run_of b history).sync.processes pid t)
    → process_at (run_of b (history ++ Turn pid n ∷ [])).sync.processes pid ≡ Some (after_run n of.process)
process-after b history tasks s pid place n q t h number there out of =
    let w : World = run_of b history in
    let next : pid ≡ suc place = omega arith in
    let mapped : slice_get w.sync.processes place ≡ Some of.process = ap (λ (k : ℕ). process_at w.sync.processes k) (sym next) ∙ of.there in
    ap (λ (v : World). process_at v.sync.processes pid)
    (after-append (first_world b) history (Turn pid n) ∙ back-happens w tasks s pid place n q t h.mirrors of there out)
    ∙ process-put w.sync.processes pid place (after_run n of.process) number (slice_get_within w.sync.processes place of.process mapped)

-- ---- the events
turn-event : (b : Boot) (history : List Event) (tasks : List Task) (s : System) (last place : ℕ) (t : Task) (d : Done) → KeepsRun b history tasks s
    → d.pid ≡ place + 1 → slice_get tasks place ≡ Some t → IsLoanOf t d
    → refusal (kernel_of b history (slice_set tasks place (returned_task t)) last) (Turn d.pid d.count) ≡ None
turn-event b history tasks s last place t d h number there of =
    let u : Task = returned_task t in
    let task = h.mirrors.each.each place t there in
    let budget : (machine_of t).count + (d.quantum + 1) ≤ 2 ^ 40 = subst (λ (o : Option ℕ). (machine_of t).count + needed o ≤ 2 ^ 40) of.out task.budget in
    let done : d.count ≤ d.quantum = done-within d in
    let less : count_out (slice_set tasks place u) + 1 ≡ count_out tasks = count-back tasks place d.quantum t u there of.out refl in
    let was : length history + 2 * count_out tasks ≤ 2 ^ 40 = h.room in
    let own : IsProcessOf (run_of b history).sync.processes d.pid t = process-in b history tasks s d.pid place t h number there in
    let count : own.process.state.count ≡ (machine_of t).count = ap (λ (x : State). x.count) own.state in
    turn-accepted (process_at (run_of b history).sync.processes d.pid) own.process (lent_of (slice_set tasks place u) d.pid)
    (is_full (kernel_of b history (slice_set tasks place u) last)) d.count
    own.there
    (ap (λ (o : Option ℕ). is_some o) own.status ∙ ap (λ (o : Option ℕ). is_some o) (out-running (run_of b history) s.served place t d.quantum task of.out))
    (lending-place (slice_set tasks place u) d.pid place u number (get-set-here tasks place u (slice_get_within tasks place t there)))
    (omega (arith, budget, done, count))
    (not-full b history (slice_set tasks place u) last (omega (arith, less, was)))

enter-event : (b : Boot) (history : List Event) (tasks : List Task) (s : System) (last place : ℕ) (t : Task) (d : Done) → KeepsRun b history tasks s
    → d.pid ≡ place + 1 → slice_get tasks place ≡ Some t → IsLoanOf t d → is_some (stopped_at d.machine) ≡ true
    → refusal (kernel_of b (history ++ Turn d.pid d.count ∷ []) (slice_set tasks place (returned_task t)) last) (Enter d.pid) ≡ None
enter-event b history tasks s last place t d h number there of stands =
    let u : Task = returned_task t in
    let later : List Event = history ++ Turn d.pid d.count ∷ [] in
    let task = h.mirrors.each.each place t there in
    let came : d.machine ≡ (run d.count (machine_of t)).state = reached t d of in
    let less : count_out (slice_set tasks place u) + 1 ≡ count_out tasks = count-back tasks place d.quantum t u there of.out refl in
    let was : length history + 2 * count_out tasks ≤ 2 ^ 40 = h.room in
    let longer : length later ≡ length history + 1 = length_push history (Turn d.pid d.count) in
    let own : IsProcessOf (run_of b history).sync.processes d.pid t = process-in b history tasks s d.pid place t h number there in
    let goes : d.machine ≡ (run d.count own.process.state).state = came ∙ ap (λ (x : State). (run d.count x).state) (sym own.state) in
    enter-accepted (process_at (run_of b later).sync.processes d.pid) (after_run d.count own.process) (lent_of (slice_set tasks place u) d.pid)
    (is_full (kernel_of b later (slice_set tasks place u) last))
    (process-after b history tasks s d.pid place d.count d.quantum t h number there of.out own)
    (ap (λ (o : Option ℕ). is_some o) own.status ∙ ap (λ (o : Option ℕ). is_some o) (out-running (run_of b history) s.served place t d.quantum task of.out))
    (lending-place (slice_set tasks place u) d.pid place u number (get-set-here tasks place u (slice_get_within tasks place t there)))
    (subst (λ (x : State). is_some (stopped_at x) ≡ true) goes stands)
    (subst (λ (x : State). x.count < 2 ^ 40) goes d.room)
    (not-full b later (slice_set tasks place u) last (omega (arith, less, was, longer)))

pub events-accepted : (b : Boot) (history : List Event) (tasks : List Task) (s : System) (last place : ℕ) (t : Task) (d : Done) → KeepsRun b history tasks s
    → d.pid ≡ place + 1 → slice_get tasks place ≡ Some t → IsLoanOf t d
    → AllAccepted (returned (kernel_of b history tasks last) d.pid) (events_of (loan_result d))
events-accepted b history tasks s last place t d h number there of =
    let k : Kernel = kernel_of b history (slice_set tasks place (returned_task t)) last in
    let w : World = run_of b history in
    let ls : List Lending = map lending_of (slice_set tasks place (returned_task t)) in
    let later : Kernel = kernel_of b (history ++ Turn d.pid d.count ∷ []) (slice_set tasks place (returned_task t)) last in
    let same : with_event k (Turn d.pid d.count) ≡ later =
    ap (λ (o : Option ℕ). record { boot = b; history = history ++ Turn d.pid d.count ∷ []; lendings = with_child ls o; last_lent = last }) (turn-child w.sync d.pid d.count) in
    subst (λ (x : Kernel). AllAccepted x (events_of (loan_result d))) (returned-is b history tasks last d.pid place t number there) (
      turn-event b history tasks s last place t d h number there of,
      subst (λ (x : Kernel). AllAccepted x (if is_some (stopped_at d.machine) then Enter d.pid ∷ [] else [])) (sym same) (elim (is_some (stopped_at d.machine)) as (λ (v : Bool). is_some (stopped_at d.machine) ≡ v
          → AllAccepted later (if v then Enter d.pid ∷ [] else [])) [
            | true ↦ λ stands. (enter-event b history tasks s last place t d h number there of stands, tt)
            | false ↦ λ stands. tt
          ] refl),
    )
