-- A loan's result in the parts is a Turn, and an Enter, of the run.
use Rattle.std.proofs.Common.{◌≡◌, ℕ, zero, suc, ◌+◌, ◌^◌, ◌<◌, inl, inr, true, false, List, [], ◌∷◌, ◌++◌, map, option_to_list, slice_get, slice_set, Option, Some, None, is_some, refl, sym, ap, subst, ◌∙◌, arith}
use Rattle.std.proofs.lemmas.Option.{slice_get_within}
use Rattle.std.proofs.lemmas.List.{map-set, set-set}
use Rattle.machine_model.specs.States.{State, Stepped, Goes, Halts, Ran, reached_at, next, run, after, stopped_at}
use Rattle.machine_model.proofs.Running.{run-zero, run-goes, run-halts}
use Rattle.kernel_model.specs.State.{Process, put_process}
use Rattle.kernel_model.specs.Steps.{own_entry, after_run}
use Rattle.kernel_model.specs.World.{World, happens}
use Rattle.kernel_model.specs.declared.answer.Outcome.{Outcome}
use Rattle.kernel_model.specs.declared.event.Event.TheVariants.{Turn}
use Rattle.kernel_step.specs.Mirrors.{IsTask, AreTasks, Mirrors}
use Rattle.kernel_step.specs.Seen.{AreScreens}
use Rattle.kernel_step.specs.Settling.{IsBack, IsTurnNoted, IsTurnEntered, marked_with}
use Rattle.kernel_step.specs.Tasks.{machine_of, out_of, process_of, bare, status_of}
use Rattle.held_output.specs.Withheld.{Withheld, Held, whats}
use Rattle.kernel_model.specs.Entries.{Item}
use Rattle.kernel_model.specs.Shown.{end_in}
use Rattle.kernel_step.specs.declared.system.System.{System}
use Rattle.kernel_step.specs.declared.task.Task.{Task}
use Rattle.kernel_step.specs.declared.whereabouts.Whereabouts.TheVariants.{Here}
use Rattle.kernel_step.proofs.EnterFine.{IsFineTask}
use Rattle.kernel_step.proofs.EnterParts.{pipes-quiet, counted-quiet}
use Rattle.kernel_step.proofs.EnterWorld.{EnterLaws, IsRun, done-runs, same-task}
use Rattle.kernel_step.proofs.Lists.{get-set, get-set-here}
use Rattle.kernel_step.proofs.Quiet.{own-silent, screens-quiet, trace-quiet, changes-part, waits-own}
use Rattle.kernel_step.proofs.Turning.{away-task, IsProcessOf, bare-of, process-there, world_with, turn_of, turn-happens, turn-parts}

-- ---- a run is that of as many instructions as it did
run-prefix : (n : ℕ) (s : State) → (run (run n s).count s).state ≡ (run n s).state
run-prefix zero s =
    ap (λ (r : Ran). (run r.count s).state) (run-zero s)
    ∙ ap (λ (r : Ran). r.state) (run-zero s) ∙ sym (ap (λ (r : Ran). r.state) (run-zero s))
run-prefix (suc n) s = by (λ t. run-prefix n t) (next s) refl
  where
    by : ((t : State) → (run (run n t).count t).state ≡ (run n t).state) → (x : Stepped) → next s ≡ x → (run (run (suc n) s).count s).state ≡ (run (suc n) s).state
    by onward (Goes t) e =
        let one : run (suc n) s ≡ after 1 (run n t) = run-goes n s t e in
        let more : 1 + (run n t).count ≡ suc (run n t).count = omega arith in
        ap (λ (r : Ran). (run r.count s).state) one
        ∙ ap (λ (k : ℕ). (run k s).state) more
        ∙ ap (λ (r : Ran). r.state) (run-goes (run n t).count s t e)
        ∙ onward t
        ∙ sym (ap (λ (r : Ran). r.state) one)
    by onward (Halts why) e =
        let none : run (suc n) s ≡ reached_at 0 s why = run-halts n s why e in
        ap (λ (r : Ran). (run r.count s).state) none
        ∙ ap (λ (r : Ran). r.state) (run-zero s)
        ∙ sym (ap (λ (r : Ran). r.state) none)

pub run-reaches : (n : ℕ) (s m : State) (count : ℕ) (r : Ran) → run n s ≡ r → r.count ≡ count → r.state ≡ m → (run count s).state ≡ m
run-reaches n s m count r is count_is state_is =
    ap (λ (k : ℕ). (run k s).state) (sym (ap (λ (x : Ran). x.count) is ∙ count_is))
    ∙ run-prefix n s
    ∙ ap (λ (x : Ran). x.state) is
    ∙ state_is

-- ---- the Turn
back-task : (w : World) (served pid place : ℕ) (q : Process) (m : State) (t u : Task) → m.count < 2 ^ 40 → IsBack m t u → IsTask w served place t
    → IsTask (world_with w (turn_of w pid q)) served place u
back-task w served pid place q m t u few back h =
    let v : World = world_with w (turn_of w pid q) in
    let t1 : Task = record t { whereabouts = Here m } in
    let there : IsTask v served place t1 = record {
      number = h.number;
      trace = trace-quiet w.storage.committed w.log (own_entry pid) (place + 1) t.trace (own-silent pid) h.trace;
      budget = omega (arith, few);
      waits = waits-own (place + 1) pid w.log ∙ h.waits;
      since = h.since;
      running = λ lent. cc;
    } in
    same-task v served place t1 u
    (record { pid = back.pid; machine = back.machine; trace = back.trace; waited = back.waited; loans = back.loans; out = back.out })
    there

back-status : (m : State) (t u : Task) → IsBack m t u → status_of u ≡ status_of t
back-status m t u back = ap (λ (hs : List (Held Item)). end_in (whats hs)) back.trace.items

process-back : (n : ℕ) (m : State) (t u : Task) → m ≡ (run n (machine_of t)).state → IsBack m t u → process_of u ≡ after_run n (process_of t)
process-back n m t u reached back =
    ap (λ (s : State). record { state = s; descriptors = []; children = []; status = status_of u }) (back.machine ∙ reached)
    ∙ ap (λ (o : Option ℕ). record { state = (run n (machine_of t)).state; descriptors = []; children = []; status = o }) (back-status m t u back)

-- a task that is out has not ended
pub out-running : (w : World) (served place : ℕ) (t : Task) (q : ℕ) → IsTask w served place t → out_of t ≡ Some q → status_of t ≡ None
out-running w served place t q h out = h.running (ap (λ (o : Option ℕ). is_some o) out)

pub back-happens : (w : World) (tasks : List Task) (s : System) (pid place n q : ℕ) (t : Task) → Mirrors w tasks s → (of : IsProcessOf w.sync.processes pid t)
    → slice_get tasks place ≡ Some t → out_of t ≡ Some q
    → happens w (Turn pid n) ≡ world_with w (turn_of w pid (after_run n of.process))
back-happens w tasks s pid place n q t h of there out =
    turn-happens w pid n of.process of.there
    (ap (λ (o : Option ℕ). is_some o) of.status
    ∙ ap (λ (o : Option ℕ). is_some o) (out-running w s.served place t q (h.each.each place t there) out))

pub back-mirrors : (w : World) (tasks : List Task) (s s' : System) (pid place n q : ℕ) (m : State) (t u : Task) → Mirrors w tasks s → pid ≡ place + 1
    → slice_get tasks place ≡ Some t → out_of t ≡ Some q → m ≡ (run n (machine_of t)).state → m.count < 2 ^ 40
    → IsBack m t u → IsTurnNoted pid s s' → Mirrors (happens w (Turn pid n)) (slice_set tasks place u) s'
back-mirrors w tasks s s' pid place n q m t u h number there out reached few back noted =
    let of : IsProcessOf w.sync.processes pid t = process-there w s.served tasks pid place t h.each number there in
    let p : Process = after_run n of.process in
    let v : World = world_with w (turn_of w pid p) in
    let next : pid ≡ suc place = omega arith in
    subst (λ (x : World). Mirrors x (slice_set tasks place u) s') (sym (back-happens w tasks s pid place n q t h of there out)) (record {
      each = subst (λ (k : ℕ). AreTasks v k (slice_set tasks place u)) (sym noted.served) (record {
        processes =
            map-set process_of tasks place u
            ∙ ap (λ (ps : List Process). slice_set ps place (process_of u)) h.each.processes
            ∙ ap (λ (x : Process). slice_set (map bare w.sync.processes) place x) (process-back n m t u reached back)
            ∙ ap (λ (x : Process). slice_set (map bare w.sync.processes) place (after_run n x)) (sym (bare-of of))
            ∙ sym (map-set bare w.sync.processes place p)
            ∙ sym (ap (λ k. map bare (put_process w.sync.processes k p)) next);
        each = λ k x at. elim (get-set tasks place k u x at) as (λ _. IsTask v s.served k x) [
          | inl g ↦
              subst (λ (y : Task). IsTask v s.served k y) (sym g.1)
              (subst (λ (j : ℕ). IsTask v s.served j u) (sym g.0) (back-task w s.served pid place p m t u few back (h.each.each place t there)))
          | inr g ↦ away-task w s.served pid k p x (h.each.each k x g.1)
        ];
      });
      changes = changes-part w v s s' (own_entry pid) (own-silent pid) refl refl noted.changes noted.files h.changes;
      tapes = noted.tapes ∙ h.tapes;
      parts = noted.parts ∙ h.parts ∙ sym (turn-parts w.sync.processes pid n of.process of.there);
      pipes = pipes-quiet w v s.pipes s'.pipes (own_entry pid) refl refl noted.pipes h.pipes;
      counted = counted-quiet w v s.served s'.served (own_entry pid) refl (let is : s'.served ≡ s.served = noted.served in omega (arith, is)) h.counted;
      kept = noted.noted w.log h.kept;
      screens =
          subst (λ (ss : List (Withheld ℕ)). AreScreens w.storage.committed (w.log ++ own_entry pid ∷ []) ss) (sym noted.screens)
          (screens-quiet w.storage.committed w.log (own_entry pid) s.screens.items (own-silent pid) h.screens);
      committer = noted.committer ∙ h.committer;
    })

-- ---- the Turn and its Enter
pub both-run : EnterLaws → (w : World) (tasks : List Task) (s s' : System) (pid place n q : ℕ) (m : State) (t u : Task) (outcome : Outcome) (child : Option Task)
    → Mirrors w tasks s → pid ≡ place + 1 → slice_get tasks place ≡ Some t → out_of t ≡ Some q → m ≡ (run n (machine_of t)).state → m.count < 2 ^ 40
    → is_some (stopped_at m) ≡ true
    → (e : IsTurnEntered pid m t u s s' outcome child)
    → IsRun (happens w (Turn pid n)) pid (slice_set tasks place e.middle) (slice_set tasks place u ++ option_to_list child) (marked_with s e.marks) s' outcome
both-run laws w tasks s s' pid place n q m t u outcome child h number there out reached few stands e =
    let s1 : System = marked_with s e.marks in
    let w1 : World = happens w (Turn pid n) in
    let tasks1 : List Task = slice_set tasks place e.middle in
    let h1 : Mirrors w1 tasks1 s1 =
    back-mirrors w tasks s s1 pid place n q m t e.middle h number there out reached few e.back
    (record { noted = e.turn; footprints = refl; changes = refl; files = refl; tapes = refl; pipes = refl; parts = refl; served = refl; screens = refl; committer = refl }) in
    let there1 : slice_get tasks1 place ≡ Some e.middle = get-set-here tasks place e.middle (slice_get_within tasks place t there) in
    let fine : IsFineTask e.middle false = record {
      running = back-status m t e.middle e.back ∙ out-running w s.served place t q (h.each.each place t there) out;
      here = e.back.out;
      stopped = ap (λ (x : State). is_some (stopped_at x)) e.back.machine ∙ stands;
      few = subst (λ (x : State). x.count < 2 ^ 40) (sym e.back.machine) few;
      room = refl;
    } in
    subst (λ (ts : List Task). IsRun w1 pid tasks1 (ts ++ option_to_list child) s1 s' outcome) (set-set tasks place e.middle u)
    (done-runs laws w1 tasks1 s1 s' pid place false e.middle u outcome child h1 number there1 fine e.entered)
