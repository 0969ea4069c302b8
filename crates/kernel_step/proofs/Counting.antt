-- How many instructions a running kernel counts is how many its Turns ran, and a u64 holds it.
use Rattle.std.proofs.Common.{◌≡◌, ℕ, zero, suc, ◌+◌, ◌*◌, ◌^◌, ◌<◌, ◌≤◌, Bool, true, false, if◌then◌else◌, List, [], ◌∷◌, ◌++◌, length, map, slice_get, slice_set, Option, Some, None, is_some, Result, Ok, Err, refl, sym, ap, subst, ◌∙◌, arith, append_assoc, length-append}
use Rattle.std.proofs.lemmas.List.{length-map}
use Rattle.std.specs.Prelude.{IfOk, OnOk, OnErr}
use Rattle.machine_model.specs.States.{State, Stepped, Goes, Halts, Ran, reached_at, next, run, stopped_at}
use Rattle.machine_model.specs.declared.stop.Stop.{Stop}
use Rattle.machine_model.specs.declared.stop.Stop.TheVariants.{Limit, Call, Trap}
use Rattle.machine_model.proofs.Running.{run-zero, run-goes, run-halts, next-count}
use Rattle.kernel_model.specs.Answers.{Kernel, Applies, AllAccepted, refusal, turn_refusal, now, is_lent, is_full, with_event}
use Rattle.kernel_model.specs.Loans.{events_of}
use Rattle.kernel_model.specs.Ran.{instructions_of, instructions_in, instructions_from, ran_in}
use Rattle.kernel_model.specs.Requests.{request_of}
use Rattle.machine_model.specs.Numbers.{cause_number}
use Rattle.kernel_model.specs.Rows.{CallEffect, row, row_end, most_processes}
use Rattle.kernel_model.specs.State.{SyncState, Process, shared, process_at, put_process, with_process}
use Rattle.kernel_model.specs.Steps.{Transition, step, impossible, own_entry, after_run, after_turn, after_reply, after_end, forked, effect_at, after_effect, after_effect_if, after_enter}
use Rattle.kernel_model.specs.World.{Boot, World, first_world, happens, processes_from, most_programs, run_of}
use Rattle.kernel_model.specs.declared.answer.Answer.{Answer}
use Rattle.kernel_model.specs.declared.answer.Refused.{Refused}
use Rattle.kernel_model.specs.declared.event.Event.{Event}
use Rattle.kernel_model.specs.declared.event.Event.TheVariants.{Turn, Enter, Cut, Complete, Fail}
use Rattle.kernel_model.specs.declared.request.Verdict.{Verdict}
use Rattle.kernel_model.specs.declared.request.Verdict.TheVariants.{Waits, Replies, Ends}
use Rattle.kernel_model.proofs.ChildRows.{IsNoneOrNextProcess, call_next}
use Rattle.kernel_model.proofs.Limits.{put_length}
use Rattle.kernel_model.proofs.Runs.{after-append, append-nil, now-with_event, instructions-append, ran-answer}
use Rattle.disk_model.specs.declared.change.NamedFile.{NamedFile}
use Rattle.kernel_step.specs.Booting.{program_of, boot_with}
use Rattle.kernel_step.specs.Represents.{kernel_of, KeepsRun}
use Rattle.kernel_step.specs.Counted.{done_by, IsCounted}
use Rattle.kernel_step.specs.Loaned.{loan_result}
use Rattle.kernel_step.specs.Mirrors.{AreTasks}
use Rattle.kernel_step.specs.Settling.{IsLoanOf}
use Rattle.kernel_step.specs.Tasks.{machine_of, out_of, process_of, bare, needed}
use Rattle.kernel_step.specs.declared.booting.Program.{Program}
use Rattle.kernel_step.specs.declared.loan.Done.{Done}
use Rattle.kernel_step.specs.declared.loan.Rejected.{Rejected}
use Rattle.kernel_step.specs.declared.system.System.{System}
use Rattle.kernel_step.specs.declared.task.Task.{Task}
use Rattle.kernel_step.proofs.Refusing.{turn-fine}
use Rattle.kernel_step.proofs.Replying.{replied-count}
use Rattle.kernel_step.proofs.SettleAccepted.{events-accepted}
use Rattle.kernel_step.proofs.SettleCore.{process-in, IsTakenOf}
use Rattle.kernel_step.proofs.SettleWorld.{run-reaches}

-- ---- a run counts what it does
pub run-counts : (n : ℕ) (s : State) → (run n s).state.count ≡ s.count + (run n s).count
run-counts zero s =
    let none : (run zero s).count ≡ 0 = ap (λ (r : Ran). r.count) (run-zero s) in
    let same : (run zero s).state.count ≡ s.count = ap (λ (r : Ran). r.state.count) (run-zero s) in
    omega (arith, none, same)
run-counts (suc n) s = by (λ t. run-counts n t) (next s) refl
  where
    by : ((t : State) → (run n t).state.count ≡ t.count + (run n t).count) → (x : Stepped) → next s ≡ x
        → (run (suc n) s).state.count ≡ s.count + (run (suc n) s).count
    by onward (Goes t) e =
        let one : (run (suc n) s).count ≡ 1 + (run n t).count = ap (λ (r : Ran). r.count) (run-goes n s t e) in
        let same : (run (suc n) s).state.count ≡ (run n t).state.count = ap (λ (r : Ran). r.state.count) (run-goes n s t e) in
        let rest : (run n t).state.count ≡ t.count + (run n t).count = onward t in
        let more : t.count ≡ s.count + 1 = next-count s t e in
        omega (arith, one, same, rest, more)
    by onward (Halts why) e =
        let none : (run (suc n) s).count ≡ 0 = ap (λ (r : Ran). r.count) (run-halts n s why e) in
        let same : (run (suc n) s).state.count ≡ s.count = ap (λ (r : Ran). r.state.count) (run-halts n s why e) in
        omega (arith, none, same)

-- a run that came so far comes as far when it is asked for no more
run-again : (most count : ℕ) (s m : State) (stop : Stop) → run most s ≡ reached_at count m stop → (run count s).count ≡ count
run-again most count s m stop e =
    let reaches : (run count s).state.count ≡ m.count = ap (λ (x : State). x.count) (run-reaches most s m count (reached_at count m stop) e refl refl) in
    let reached : (run most s).state.count ≡ m.count = ap (λ (r : Ran). r.state.count) e in
    let so_far : (run most s).count ≡ count = ap (λ (r : Ran). r.count) e in
    omega (arith, reaches, reached, so_far, run-counts count s, run-counts most s)

-- ---- what processes have done
done-set : (ps : List Process) (i : ℕ) (p q : Process) → slice_get ps i ≡ Some p → done_by (slice_set ps i q) + p.state.count ≡ done_by ps + q.state.count
done-set [] i p q e = cc
done-set (x ∷ xs) zero p q e =
    let same : x ≡ p = cc in
    let count : x.state.count ≡ p.state.count = ap (λ (y : Process). y.state.count) same in
    omega (arith, count)
done-set (x ∷ xs) (suc i) p q e = let rest = done-set xs i p q e in omega (arith, rest)

done-put : (ps : List Process) (pid : ℕ) (p q : Process) → process_at ps pid ≡ Some p → done_by (put_process ps pid q) + p.state.count ≡ done_by ps + q.state.count
done-put ps zero p q e = cc
done-put ps (suc i) p q e = done-set ps i p q e

done-append : (ps qs : List Process) → done_by (ps ++ qs) ≡ done_by ps + done_by qs
done-append [] qs = omega arith
done-append (p ∷ ps) qs = let rest = done-append ps qs in omega (arith, rest)

-- ---- what an event does to that
effect-done : (s : SyncState) (pid : ℕ) (p : Process) (e : CallEffect) (v : Verdict) → process_at s.processes pid ≡ Some p
    → done_by s.processes ≤ done_by (after_effect s pid p e v).state.processes
effect-done s pid p e Waits there = omega arith
effect-done s pid p e (Replies r) there =
    let put = done-put s.processes pid p (after_reply p e r) there in
    let all = done-append (put_process s.processes pid (after_reply p e r)) (forked p e.child) in
    omega (arith, put, all, replied-count p.state r)
effect-done s pid p e (Ends status) there = let put = done-put s.processes pid p (after_end p status) there in omega (arith, put)

stop-done : (s : SyncState) (pid : ℕ) (p : Process) (stop : Option Stop) → process_at s.processes pid ≡ Some p
    → done_by s.processes ≤ done_by (after_effect_if s pid p (effect_at (shared s) pid p stop)).state.processes
stop-done s pid p None there = omega arith
stop-done s pid p (Some Limit) there = omega arith
stop-done s pid p (Some Call) there =
    let e : CallEffect = row (shared s) pid p.descriptors p.children (request_of p.state) in effect-done s pid p e e.verdict there
stop-done s pid p (Some (Trap cause)) there =
    let e : CallEffect = row_end p.descriptors (256 + cause_number cause) in effect-done s pid p e e.verdict there

enter-done : (s : SyncState) (pid : ℕ) (o : Option Process) → process_at s.processes pid ≡ o → done_by s.processes ≤ done_by (after_enter s pid o).state.processes
enter-done s pid None there = omega arith
enter-done s pid (Some p) there = by (is_some p.status)
  where
    by : (b : Bool) → done_by s.processes
        ≤ done_by (if b then impossible pid s else after_effect_if s pid p (effect_at (shared s) pid p (stopped_at p.state))).state.processes
    by true = omega arith
    by false = stop-done s pid p (stopped_at p.state) there

turn-done : (s : SyncState) (pid n : ℕ) (lent full : Bool) (o : Option Process) → process_at s.processes pid ≡ o → turn_refusal o lent full n ≡ None
    → done_by s.processes + instructions_of o n ≤ done_by (after_turn s pid n o).state.processes
turn-done s pid n lent full None there fine = omega arith
turn-done s pid n lent full (Some p) there fine =
    let t : Transition = record { state = with_process s pid (after_run n p); entry = own_entry pid } in
    let runs : done_by (if is_some p.status then impossible pid s else t).state.processes ≡ done_by (put_process s.processes pid (after_run n p)) =
    ap (λ (b : Bool). done_by (if b then impossible pid s else t).state.processes) (turn-fine p lent full n fine).running in
    let put = done-put s.processes pid p (after_run n p) there in
    omega (arith, runs, put, run-counts n p.state)

event-done : (k : Kernel) (e : Event) → refusal k e ≡ None → done_by (now k).sync.processes + instructions_in (now k) e ≤ done_by (happens (now k) e).sync.processes
event-done k (Turn pid n) fine =
    turn-done (now k).sync pid n (is_lent k pid) (is_full k) (process_at (now k).sync.processes pid) refl fine
event-done k (Enter pid) fine = let more = enter-done (now k).sync pid (process_at (now k).sync.processes pid) refl in omega (arith, more)
event-done k Cut fine = omega arith
event-done k (Complete at) fine = omega arith
event-done k (Fail at) fine = omega arith

-- ---- how many processes there are after it
forked-few : (p : Process) (count : ℕ) (o : Option ℕ) → IsNoneOrNextProcess count o → count ≤ most_processes → count + length (forked p o) ≤ most_processes
forked-few p count None next few = omega arith
forked-few p count (Some child) next few = omega (arith, next)

effect-few : (s : SyncState) (pid : ℕ) (p : Process) (e : CallEffect) (v : Verdict) → IsNoneOrNextProcess (length s.processes) e.child → length s.processes ≤ most_processes
    → length (after_effect s pid p e v).state.processes ≤ most_processes
effect-few s pid p e Waits next few = few
effect-few s pid p e (Replies r) next few =
    let put = put_length s.processes pid (after_reply p e r) in
    let all = length-append (put_process s.processes pid (after_reply p e r)) (forked p e.child) in
    let most = forked-few p (length s.processes) e.child next few in
    omega (arith, put, all, most)
effect-few s pid p e (Ends status) next few = let put = put_length s.processes pid (after_end p status) in omega (arith, put)

stop-few : (s : SyncState) (pid : ℕ) (p : Process) (stop : Option Stop) → length s.processes ≤ most_processes
    → length (after_effect_if s pid p (effect_at (shared s) pid p stop)).state.processes ≤ most_processes
stop-few s pid p None few = few
stop-few s pid p (Some Limit) few = few
stop-few s pid p (Some Call) few =
    let e : CallEffect = row (shared s) pid p.descriptors p.children (request_of p.state) in effect-few s pid p e e.verdict (call_next s pid p) few
stop-few s pid p (Some (Trap cause)) few =
    let e : CallEffect = row_end p.descriptors (256 + cause_number cause) in effect-few s pid p e e.verdict tt few

enter-few : (s : SyncState) (pid : ℕ) (o : Option Process) → length s.processes ≤ most_processes → length (after_enter s pid o).state.processes ≤ most_processes
enter-few s pid None few = few
enter-few s pid (Some p) few = by (is_some p.status)
  where
    by : (b : Bool) → length (if b then impossible pid s else after_effect_if s pid p (effect_at (shared s) pid p (stopped_at p.state))).state.processes
        ≤ most_processes
    by true = few
    by false = stop-few s pid p (stopped_at p.state) few

turn-few : (s : SyncState) (pid n : ℕ) (o : Option Process) → length s.processes ≤ most_processes → length (after_turn s pid n o).state.processes ≤ most_processes
turn-few s pid n None few = few
turn-few s pid n (Some p) few = by (is_some p.status)
  where
    by : (b : Bool) → length (if b then impossible pid s else record { state = with_process s pid (after_run n p); entry = own_entry pid }).state.processes
        ≤ most_processes
    by true = few
    by false = let put = put_length s.processes pid (after_run n p) in omega (arith, put)

event-few : (s : SyncState) (e : Event) → length s.processes ≤ most_processes → length (step s e).state.processes ≤ most_processes
event-few s (Turn pid n) few = turn-few s pid n (process_at s.processes pid) few
event-few s (Enter pid) few = enter-few s pid (process_at s.processes pid) few
event-few s Cut few = few
event-few s (Complete at) few = few
event-few s (Fail at) few = few

-- ---- the count after events that are accepted
pub counted-event : (k : Kernel) (e : Event) (ran : ℕ) → IsCounted k.boot k.history ran → refusal k e ≡ None
    → IsCounted k.boot (k.history ++ e ∷ []) (ran + instructions_in (now k) e)
counted-event k e ran h fine =
    let later = sym (after-append (first_world k.boot) k.history e) in
    let all = event-done k e fine in
    record {
      turns = ap (λ n. n + instructions_in (now k) e) h.turns ∙ sym (instructions-append (first_world k.boot) k.history e);
      done =
          subst (λ (w : World). ran + instructions_in (now k) e ≤ done_by w.sync.processes) later
          (let was = h.done in omega (arith, was, all));
      few = subst (λ (w : World). length w.sync.processes ≤ most_processes) later (event-few (now k).sync e h.few);
    }

pub counted-events : (k : Kernel) (es : List Event) (ran : ℕ) → IsCounted k.boot k.history ran → AllAccepted k es
    → IsCounted k.boot (k.history ++ es) (ran + instructions_from (now k) es)
counted-events k [] ran h fine =
    let none : ran + 0 ≡ ran = omega arith in
    subst (λ (xs : List Event). IsCounted k.boot xs (ran + 0)) (sym (append-nil k.history))
    (subst (λ (n : ℕ). IsCounted k.boot k.history n) (sym none) h)
counted-events k (e ∷ es) ran h fine =
    let one = counted-event k e ran h fine.0 in
    let rest = counted-events (with_event k e) es (ran + instructions_in (now k) e) one fine.1 in
    let sum : (ran + instructions_in (now k) e) + instructions_from (now (with_event k e)) es ≡ ran + instructions_from (now k) (e ∷ es) =
    (let same = ap (λ (w : World). instructions_from w es) (now-with_event k e) in omega (arith, same)) in
    subst (λ (xs : List Event). IsCounted k.boot xs (ran + instructions_from (now k) (e ∷ es))) (append_assoc k.history (e ∷ []) es)
    (subst (λ (n : ℕ). IsCounted k.boot ((k.history ++ e ∷ []) ++ es) n) sum rest)

-- ---- a kernel at boot
first-length : (i : ℕ) (programs : List Program) → length (processes_from i (map program_of programs)) ≡ length programs
first-length i [] = refl
first-length i (p ∷ ps) = ap suc (first-length (i + 1) ps)

pub first-counted : (programs : List Program) (tapes : List (List ℕ)) (files : List NamedFile) (disk : List ℕ) (gate : ℕ) → length programs ≤ most_programs
    → IsCounted (boot_with programs tapes files disk gate) [] 0
first-counted programs tapes files disk gate few =
    let size = first-length 0 programs in
    record { turns = refl; done = omega arith; few = omega (arith, size, few) }

-- ---- an event of a kernel
pub counted-applies : (b : Boot) (history history' : List Event) (tasks new : List Task) (last ran ran' : ℕ) (e : Event) (r : Result Answer Refused)
    → IsCounted b history ran → Applies (kernel_of b history tasks last) e (kernel_of b history' new last) r
    → OnOk r (ran' ≡ ran + instructions_in (run_of b history) e) → OnErr r (ran' ≡ ran)
    → IsCounted b history' ran'
counted-applies b history history' tasks new last ran ran' e (Ok a) h done more same =
    subst (λ (xs : List Event). IsCounted b xs ran') (sym (ap (λ (k : Kernel). k.history) done.2))
    (subst (λ (n : ℕ). IsCounted b (history ++ e ∷ []) n) (sym more) (counted-event (kernel_of b history tasks last) e ran h done.0))
counted-applies b history history' tasks new last ran ran' e (Err why) h done more same =
    subst (λ (xs : List Event). IsCounted b xs ran') (sym (ap (λ (k : Kernel). k.history) done.1))
    (subst (λ (n : ℕ). IsCounted b history n) (sym same) h)

-- an event that is no Turn
pub counted-other : (b : Boot) (history history' : List Event) (tasks new : List Task) (last ran : ℕ) (e : Event) (r : Result Answer Refused)
    → instructions_in (run_of b history) e ≡ 0
    → IsCounted b history ran → Applies (kernel_of b history tasks last) e (kernel_of b history' new last) r
    → IsCounted b history' ran
counted-other b history history' tasks new last ran e (Ok a) none h done =
    counted-applies b history history' tasks new last ran ran e (Ok a) h done (omega (arith, none)) tt
counted-other b history history' tasks new last ran e (Err why) none h done =
    counted-applies b history history' tasks new last ran ran e (Err why) h done tt refl

-- a Turn, whose answer says how many instructions ran
pub counted-turn : (b : Boot) (history history' : List Event) (tasks new : List Task) (last ran ran' pid n : ℕ) (r : Result Answer Refused)
    → IsCounted b history ran → Applies (kernel_of b history tasks last) (Turn pid n) (kernel_of b history' new last) r
    → IfOk r (λ a. ran' ≡ ran + ran_in a) → OnErr r (ran' ≡ ran)
    → IsCounted b history' ran'
counted-turn b history history' tasks new last ran ran' pid n (Ok a) h done more same =
    counted-applies b history history' tasks new last ran ran' (Turn pid n) (Ok a) h done
    (more ∙ ap (λ (x : Answer). ran + ran_in x) done.1 ∙ ap (λ m. ran + m) (ran-answer (kernel_of b history tasks last) (Turn pid n))) tt
counted-turn b history history' tasks new last ran ran' pid n (Err why) h done more same =
    counted-applies b history history' tasks new last ran ran' (Turn pid n) (Err why) h done tt same

-- ---- a loan's result
result-ran : (w : World) (d : Done) (p : Process) → process_at w.sync.processes d.pid ≡ Some p → p.state ≡ d.began.value
    → instructions_from w (events_of (loan_result d)) ≡ d.count
result-ran w d p there began = by (is_some (stopped_at d.machine))
  where
    turn : instructions_in w (Turn d.pid d.count) ≡ d.count
    turn =
        ap (λ (o : Option Process). instructions_of o d.count) there
        ∙ ap (λ (s : State). (run d.count s).count) began
        ∙ run-again d.quantum d.count d.began.value d.machine d.stop d.ran

    by : (b : Bool) → instructions_from w (Turn d.pid d.count ∷ (if b then Enter d.pid ∷ [] else [])) ≡ d.count
    by true = omega (arith, turn)
    by false = omega (arith, turn)

pub counted-settle : (b : Boot) (history history' : List Event) (tasks new : List Task) (s s' : System) (last place ran ran' : ℕ) (t : Task) (d : Done) (r : Result Answer Rejected)
    → KeepsRun b history tasks s → d.pid ≡ place + 1 → slice_get tasks place ≡ Some t → IsLoanOf t d
    → IsCounted b history ran
    → IfOk r (λ a. IsTakenOf b history history' tasks new last place s' d a) → OnErr r (history' ≡ history)
    → OnOk r (ran' ≡ ran + d.count) → OnErr r (ran' ≡ ran)
    → IsCounted b history' ran'
counted-settle b history history' tasks new s s' last place ran ran' t d (Ok a) c number there of h taken stays more same =
    let own = process-in b history tasks s d.pid place t c number there in
    let all = counted-events (record (kernel_of b history tasks last) { lendings = _ }) (events_of (loan_result d)) ran h
    (events-accepted b history tasks s last place t d c number there of) in
    let count : instructions_from (run_of b history) (events_of (loan_result d)) ≡ d.count =
    result-ran (run_of b history) d own.process own.there (own.state ∙ of.began) in
    subst (λ (xs : List Event). IsCounted b xs ran') (sym taken.taken.grown)
    (subst (λ (n : ℕ). IsCounted b (history ++ events_of (loan_result d)) n) (ap (λ m. ran + m) count ∙ sym more) all)
counted-settle b history history' tasks new s s' last place ran ran' t d (Err e) c number there of h taken stays more same =
    subst (λ (xs : List Event). IsCounted b xs ran') (sym stays)
    (subst (λ (n : ℕ). IsCounted b history n) (sym same) h)

-- ---- a u64 holds the count
done-bare : (ps : List Process) → done_by (map bare ps) ≡ done_by ps
done-bare [] = refl
done-bare (p ∷ ps) = ap (λ n. p.state.count + n) (done-bare ps)

done-most : (most : ℕ) (tasks : List Task) → ((place : ℕ) (t : Task) → slice_get tasks place ≡ Some t → (machine_of t).count ≤ most)
    → done_by (map process_of tasks) ≤ most * length tasks
done-most most [] each = omega arith
done-most most (t ∷ ts) each =
    let first : (machine_of t).count ≤ most = each 0 t refl in
    let rest : done_by (map process_of ts) ≤ most * length ts = done-most most ts (λ place u there. each (suc place) u there) in
    let more : most * length (t ∷ ts) ≡ most + most * length ts = omega arith in
    omega (arith, first, rest, more)

budget-most : (tasks : List Task) (w : World) (served : ℕ) → AreTasks w served tasks → (place : ℕ) (t : Task) → slice_get tasks place ≡ Some t
    → (machine_of t).count ≤ 2 ^ 40
budget-most tasks w served h place t there =
    let budget : (machine_of t).count + needed (out_of t) ≤ 2 ^ 40 = (h.each place t there).budget in
    omega (arith, budget)

pub counted-most : (b : Boot) (history : List Event) (tasks : List Task) (s : System) (ran : ℕ) → KeepsRun b history tasks s → IsCounted b history ran
    → ran ≤ 2 ^ 50
counted-most b history tasks s ran h counted_so =
    let w : World = run_of b history in
    let each : AreTasks w s.served tasks = h.mirrors.each in
    let same : done_by (map process_of tasks) ≡ done_by w.sync.processes = ap done_by each.processes ∙ done-bare w.sync.processes in
    let most : done_by (map process_of tasks) ≤ 2 ^ 40 * length tasks = done-most (2 ^ 40) tasks (budget-most tasks w s.served each) in
    let size : length tasks ≡ length w.sync.processes =
    sym (length-map tasks process_of) ∙ ap (λ (ps : List Process). length ps) each.processes ∙ length-map w.sync.processes bare in
    let few : length w.sync.processes ≤ most_processes = counted_so.few in
    let done : ran ≤ done_by w.sync.processes = counted_so.done in
    omega (arith, same, most, size, few, done)

pub counted-few : (b : Boot) (history : List Event) (tasks : List Task) (s : System) (ran : ℕ) → KeepsRun b history tasks s → IsCounted b history ran
    → ran < 2 ^ 63
counted-few b history tasks s ran h counted_so =
    let most : ran ≤ 2 ^ 50 = counted-most b history tasks s ran h counted_so in
    omega (arith, most)
