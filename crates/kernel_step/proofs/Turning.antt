-- A Turn of the parts is a Turn of the run.
use Rattle.std.proofs.Common.{◌≡◌, ℕ, zero, suc, ◌+◌, ◌^◌, ◌<◌, ◌≤◌, inl, inr, Bool, true, false, if◌then◌else◌, List, [], ◌∷◌, ◌++◌, length, map, slice_get, slice_set, slice_index_or, Option, Some, None, is_some, option_map, refl, sym, ap, subst, ◌∙◌, arith}
use Rattle.std.proofs.lemmas.List.{map-set}
use Rattle.std.proofs.lemmas.Option.{slice_get-map, slice_get-get_or}
use Rattle.machine_model.specs.States.{State, Ran, run, reached_at}
use Rattle.machine_model.specs.declared.stop.Stop.{Stop}
use Rattle.kernel_model.specs.Answers.{turn_refusal, enter_refusal}
use Rattle.processes.specs.Parts.{part_of}
use Rattle.kernel_model.specs.State.{SyncState, Process, process_at, put_process, with_process}
use Rattle.kernel_model.specs.Steps.{Transition, step, impossible, own_entry, after_turn, after_run}
use Rattle.kernel_model.specs.World.{World, happens}
use Rattle.kernel_model.specs.declared.event.Event.TheVariants.{Turn}
use Rattle.kernel_step.specs.Mirrors.{IsTask, AreTasks}
use Rattle.kernel_step.specs.Tasks.{machine_of, out_of, process_of, status_of, bare, lending_of, RanAt}
use Rattle.kernel_step.specs.Tests.{lent_of, turn_refusal_of, enter_refusal_of, IsPlaceOf}
use Rattle.kernel_step.specs.Whereabouts.{state_in, quantum_in}
use Rattle.kernel_step.specs.declared.task.Task.{Task}
use Rattle.kernel_step.specs.declared.whereabouts.Whereabouts.{Whereabouts}
use Rattle.kernel_step.specs.declared.whereabouts.Whereabouts.TheVariants.{Here}
use Rattle.kernel_step.proofs.Lists.{get-map, get-set, map-set-same}
use Rattle.kernel_step.proofs.Quiet.{own-silent, trace-quiet, waits-own}

-- ---- the process of a number
pub process-place : (tasks : List Task) (pid place : ℕ) (t : Task) → pid ≡ place + 1 → slice_get tasks place ≡ Some t
    → process_at (map process_of tasks) pid ≡ Some (process_of t)
process-place tasks pid place t number there =
    let next : pid ≡ suc place = omega arith in
    rw next (get-map process_of tasks place t there)

pub lending-place : (tasks : List Task) (pid place : ℕ) (t : Task) → pid ≡ place + 1 → slice_get tasks place ≡ Some t
    → lent_of tasks pid ≡ is_some (out_of t)
lending-place tasks pid place t number there =
    let next : pid ≡ suc place = omega arith in
    rw (next, get-map lending_of tasks place t there) refl

pub turn-place : (tasks : List Task) (full : Bool) (pid place n : ℕ) (t : Task) → IsPlaceOf tasks pid place → slice_get tasks place ≡ Some t
    → turn_refusal_of tasks full pid n ≡ turn_refusal (Some (process_of t)) (is_some (out_of t)) full n
turn-place tasks full pid place n t placed there =
    ap (λ (p : Option Process). turn_refusal p (lent_of tasks pid) full n) (process-place tasks pid place t placed.number there)
    ∙ ap (λ (b : Bool). turn_refusal (Some (process_of t)) b full n) (lending-place tasks pid place t placed.number there)

pub enter-place : (tasks : List Task) (full : Bool) (pid place : ℕ) (t : Task) → IsPlaceOf tasks pid place → slice_get tasks place ≡ Some t
    → enter_refusal_of tasks full pid ≡ enter_refusal (Some (process_of t)) (is_some (out_of t)) full
enter-place tasks full pid place t placed there =
    ap (λ (p : Option Process). enter_refusal p (lent_of tasks pid) full) (process-place tasks pid place t placed.number there)
    ∙ ap (λ (b : Bool). enter_refusal (Some (process_of t)) b full) (lending-place tasks pid place t placed.number there)

-- the element at a place ran
pub ran-at : (old : List Task) (place n count : ℕ) (stop : Stop) (t : Task) (b m : State) → place < length old
    → (slice_index_or old place t).whereabouts ≡ Here b → run n b ≡ reached_at count m stop → count ≤ n → m.count ≡ b.count + count
    → RanAt old (slice_set old place (record (slice_index_or old place t) { whereabouts = Here m })) place n count stop
ran-at old place n count stop t b m within here goes few counted =
    let u : Task = slice_index_or old place t in
    let is : run n (machine_of u) ≡ reached_at count m stop = ap (λ (w : Whereabouts). run n (state_in w)) here ∙ goes in
    record {
      task = u;
      there = slice_get-get_or old place t within;
      here = ap quantum_in here;
      after = ap (λ (s : State). slice_set old place (record u { whereabouts = Here s })) (sym (ap (λ (r : Ran). r.state) is));
      counts = sym (ap (λ (r : Ran). r.count) is);
      stops = sym (ap (λ (r : Ran). r.stop) is);
      within =
          let same : (run n (machine_of u)).state.count ≡ m.count = ap (λ (r : Ran). r.state.count) is in
          let start : (machine_of u).count ≡ b.count = ap (λ (w : Whereabouts). (state_in w).count) here in
          omega (arith, same, start, few, counted);
    }

-- ---- the run's process that a task is
pub record IsProcessOf (ps : List Process) (pid : ℕ) (t : Task) : Type 0 where
  pub process : Process
  pub there : process_at ps pid ≡ Some process
  pub state : process.state ≡ machine_of t
  pub status : process.status ≡ status_of t

pub bare-of : {ps : List Process} {pid : ℕ} {t : Task} (of : IsProcessOf ps pid t) → bare of.process ≡ process_of t
bare-of {ps} {pid} {t} of =
    ap (λ (s : State). record { state = s; descriptors = []; children = []; status = of.process.status }) of.state
    ∙ ap (λ (o : Option ℕ). record { state = machine_of t; descriptors = []; children = []; status = o }) of.status

process-by : (ps : List Process) (place : ℕ) (t : Task) → slice_get (map bare ps) place ≡ Some (process_of t) → IsProcessOf ps (suc place) t
process-by [] place t e = cc
process-by (p ∷ ps) zero t e =
    let same : bare p ≡ process_of t = cc in
    record { process = p; there = refl; state = ap (λ (q : Process). q.state) same; status = ap (λ (q : Process). q.status) same }
process-by (p ∷ ps) (suc place) t e = let rest = process-by ps place t e in record { process = rest.process; there = rest.there; state = rest.state; status = rest.status }

pub process-there : (w : World) (served : ℕ) (tasks : List Task) (pid place : ℕ) (t : Task) → AreTasks w served tasks → pid ≡ place + 1
    → slice_get tasks place ≡ Some t → IsProcessOf w.sync.processes pid t
process-there w served tasks pid place t h number there =
    let next : pid ≡ suc place = omega arith in
    subst (λ (k : ℕ). IsProcessOf w.sync.processes k t) (sym next)
    (process-by w.sync.processes place t (ap (λ (ps : List Process). slice_get ps place) (sym h.processes) ∙ get-map process_of tasks place t there))

-- what a refusal looks at of a process is not in the table of processes
pub at-bare : (ps : List Process) (pid : ℕ) → process_at (map bare ps) pid ≡ option_map bare (process_at ps pid)
at-bare ps zero = refl
at-bare ps (suc k) = slice_get-map bare ps k

turn-by : (o : Option Process) (lent full : Bool) (n : ℕ) → turn_refusal (option_map bare o) lent full n ≡ turn_refusal o lent full n
turn-by None lent full n = refl
turn-by (Some p) lent full n = refl

enter-by : (o : Option Process) (lent full : Bool) → enter_refusal (option_map bare o) lent full ≡ enter_refusal o lent full
enter-by None lent full = refl
enter-by (Some p) lent full = refl

pub turn-bare : (ps : List Process) (pid : ℕ) (lent full : Bool) (n : ℕ) → turn_refusal (process_at (map bare ps) pid) lent full n ≡ turn_refusal (process_at ps pid) lent full n
turn-bare ps pid lent full n = ap (λ (o : Option Process). turn_refusal o lent full n) (at-bare ps pid) ∙ turn-by (process_at ps pid) lent full n

pub enter-bare : (ps : List Process) (pid : ℕ) (lent full : Bool) → enter_refusal (process_at (map bare ps) pid) lent full ≡ enter_refusal (process_at ps pid) lent full
enter-bare ps pid lent full = ap (λ (o : Option Process). enter_refusal o lent full) (at-bare ps pid) ∙ enter-by (process_at ps pid) lent full

-- ---- a Turn of the run

-- the run after a transition that the device does not see
abbrev pub world_with : World → Transition → World
world_with w t = record { sync = t.state; log = w.log ++ t.entry ∷ []; storage = w.storage }

abbrev pub turn_of : World → ℕ → Process → Transition
turn_of w pid q = record { state = with_process w.sync pid q; entry = own_entry pid }

pub turn-happens : (w : World) (pid n : ℕ) (p : Process) → process_at w.sync.processes pid ≡ Some p → is_some p.status ≡ false
    → happens w (Turn pid n) ≡ world_with w (turn_of w pid (after_run n p))
turn-happens w pid n p there running =
    let goes : step w.sync (Turn pid n) ≡ turn_of w pid (after_run n p) = rw (there, running) refl in
    ap (λ (t : Transition). world_with w t) goes

-- a Turn makes no process, and changes nothing that the table of processes keeps
pub turn-child : (s : SyncState) (pid n : ℕ) → (step s (Turn pid n)).entry.child ≡ None
turn-child s pid n = by (process_at s.processes pid)
  where
    by : (o : Option Process) → (after_turn s pid n o).entry.child ≡ None
    by None = refl
    by (Some p) = elim (is_some p.status) as (λ b. (if b then impossible pid s else record { state = with_process s pid (after_run n p); entry = own_entry pid }).entry.child ≡ None) [
      | true ↦ refl
      | false ↦ refl
    ]

pub turn-parts : (ps : List Process) (pid n : ℕ) (p : Process) → process_at ps pid ≡ Some p → map part_of (put_process ps pid (after_run n p)) ≡ map part_of ps
turn-parts ps zero n p e = refl
turn-parts ps (suc k) n p e = map-set-same part_of ps k p (after_run n p) e refl

-- ---- the tasks
ran-task : (w : World) (served pid place : ℕ) (q : Process) (t : Task) (s : State) → IsTask w served place t → s.count ≤ 2 ^ 40
    → IsTask (world_with w (turn_of w pid q)) served place (record t { whereabouts = Here s })
ran-task w served pid place q t s h few = record {
  number = h.number;
  trace = trace-quiet w.storage.committed w.log (own_entry pid) (place + 1) t.trace (own-silent pid) h.trace;
  budget = omega (arith, few);
  waits = waits-own (place + 1) pid w.log ∙ h.waits;
  since = h.since;
  running = λ lent. cc;
}

pub away-task : (w : World) (served pid place : ℕ) (q : Process) (t : Task) → IsTask w served place t → IsTask (world_with w (turn_of w pid q)) served place t
away-task w served pid place q t h = record {
  number = h.number;
  trace = trace-quiet w.storage.committed w.log (own_entry pid) (place + 1) t.trace (own-silent pid) h.trace;
  budget = h.budget;
  waits = waits-own (place + 1) pid w.log ∙ h.waits;
  since = h.since;
  running = h.running;
}

-- the tasks after a Turn of one
pub ran-tasks : (w : World) (served : ℕ) (old new : List Task) (pid n place count : ℕ) (stop : Stop) → AreTasks w served old → pid ≡ place + 1
    → (ran : RanAt old new place n count stop) → is_some (process_of ran.task).status ≡ false
    → (run n (machine_of ran.task)).state.count ≤ 2 ^ 40
    → AreTasks (happens w (Turn pid n)) served new
ran-tasks w served old new pid n place count stop h number ran running few =
    let t : Task = ran.task in
    let of : IsProcessOf w.sync.processes pid t = process-there w served old pid place t h number ran.there in
    let q : Process = after_run n of.process in
    let next : pid ≡ suc place = omega arith in
    let same : happens w (Turn pid n) ≡ world_with w (turn_of w pid q) = turn-happens w pid n of.process of.there (ap is_some of.status ∙ running) in
    subst (λ (v : World). AreTasks v served new) (sym same) (record {
      processes =
          ap (λ (ts : List Task). map process_of ts) ran.after
          ∙ map-set process_of old place (record t { whereabouts = Here (run n (machine_of t)).state })
          ∙ ap (λ (ps : List Process). slice_set ps place (after_run n (process_of t))) h.processes
          ∙ ap (λ (p : Process). slice_set (map bare w.sync.processes) place (after_run n p)) (sym (bare-of of))
          ∙ sym (map-set bare w.sync.processes place q)
          ∙ ap (λ (k : ℕ). map bare (put_process w.sync.processes k q)) (sym next);
      each = λ i u at. elim (get-set old place i (record t { whereabouts = Here (run n (machine_of t)).state }) u (subst (λ (ts : List Task). slice_get ts i ≡ Some u) ran.after at)) [
        | inl s ↦ subst (λ (k : ℕ). IsTask (world_with w (turn_of w pid q)) served k u) (sym s.0)
            (subst (λ (v : Task). IsTask (world_with w (turn_of w pid q)) served place v) (sym s.1)
            (ran-task w served pid place q t (run n (machine_of t)).state (h.each place t ran.there) few))
        | inr s ↦ away-task w served pid i q u (h.each i u s.1)
      ];
    })
