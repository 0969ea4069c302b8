-- From the parts of a running kernel to the kernel.
use Rattle.std.proofs.Common.{◌≡◌, ℕ, ◌+◌, ◌*◌, ◌^◌, ◌<◌, ◌≤◌, List, [], ◌∷◌, ◌++◌, length, map, Option, is_some, nat_le, Ok, Err, refl, sym, ap, subst, ◌∙◌, arith}
use Rattle.std.proofs.lemmas.List.{length_push}
use Rattle.std.proofs.lemmas.Bool.{leb-false}
use Rattle.machine_model.specs.States.{State, run}
use Rattle.processes.specs.Parts.{part_of}
use Rattle.commit_deps.specs.Kept.{Kept}
use Rattle.commit_deps.specs.Keeps.{Keeps}
use Rattle.commit_deps.specs.Kept.{Marked}
use Rattle.footprints.specs.Footprints.{AreFootprints}
use Rattle.kernel_model.specs.Answers.{Refuses, Applies, refusal, turn_refusal, limit, loans_out, ran_by, with_child, Lending}
use Rattle.kernel_model.specs.Entries.{Entry}
use Rattle.kernel_model.specs.State.{Process, process_at}
use Rattle.kernel_model.specs.Steps.{own_entry, after_run}
use Rattle.kernel_model.specs.World.{Boot, World, first_world, happens, run_of}
use Rattle.kernel_model.proofs.Runs.{after-append}
use Rattle.kernel_model.specs.declared.answer.Answer.{Answer}
use Rattle.kernel_model.specs.declared.answer.Answer.TheVariants as answer_of
use Rattle.kernel_model.specs.declared.answer.Refused.{Refused}
use Rattle.kernel_model.specs.declared.event.Event.{Event}
use Rattle.kernel_model.specs.declared.event.Event.TheVariants.{Turn}
use Rattle.kernel_step.specs.Represents.{kernel_of, KeepsRun}
use Rattle.kernel_step.specs.Mirrors.{Mirrors}
use Rattle.kernel_step.specs.Parts.{Turned}
use Rattle.kernel_step.specs.Seen.{AreScreens}
use Rattle.kernel_step.specs.Tasks.{machine_of, out_of, process_of, lending_of, count_out}
use Rattle.kernel_step.specs.Tests.{full_of, lent_of, turn_refusal_of}
use Rattle.kernel_step.specs.declared.system.System.{System}
use Rattle.kernel_step.specs.declared.task.Task.{Task}
use Rattle.kernel_step.specs.declared.whereabouts.Whereabouts.TheVariants.{Here}
use Rattle.kernel_step.proofs.FewLoans.{out-lent, few-same}
use Rattle.kernel_step.proofs.Noting.{TurnGrows, turn-follows}
use Rattle.kernel_step.proofs.Lists.{map-set-same, count-set-same}
use Rattle.kernel_step.proofs.Refusing.{IsFineTurn, turn-fine}
use Rattle.kernel_step.proofs.Quiet.{own-silent, screens-quiet, changes-part}
use Rattle.kernel_step.proofs.EnterParts.{pipes-quiet, counted-quiet}
use Rattle.kernel_step.proofs.Turning.{IsProcessOf, process-there, turn-bare, turn-place, turn-happens, turn-child, turn-parts, turn_of, world_with, ran-tasks}

-- ---- what the definitions see
pub full-is : (b : Boot) (history : List Event) (tasks : List Task) (last : ℕ)
    → full_of (length history) tasks ≡ nat_le limit (length history + 2 * loans_out (kernel_of b history tasks last))
full-is b history tasks last =
    ap (λ n. nat_le limit (length history + 2 * n)) (sym (out-lent tasks))

pub turn-refusal-is : (b : Boot) (history : List Event) (tasks : List Task) (s : System) (last pid n : ℕ) → KeepsRun b history tasks s
    → turn_refusal_of tasks (full_of (length history) tasks) pid n ≡ refusal (kernel_of b history tasks last) (Turn pid n)
turn-refusal-is b history tasks s last pid n h =
    ap (λ (ps : List Process). turn_refusal (process_at ps pid) (lent_of tasks pid) (full_of (length history) tasks) n) h.mirrors.each.processes
    ∙ turn-bare (run_of b history).sync.processes pid (lent_of tasks pid) (full_of (length history) tasks) n
    ∙ ap (λ f. turn_refusal (process_at (run_of b history).sync.processes pid) (lent_of tasks pid) f n) (full-is b history tasks last)

-- ---- a refused event changes nothing
pub same-core : (b : Boot) (history history' : List Event) (tasks tasks' : List Task) (s : System) (d : Kept)
    → history' ≡ history → tasks' ≡ tasks → d.marks ≡ s.dependencies.marks
    → KeepsRun b history tasks s → KeepsRun b history' tasks' (record s { dependencies = d })
same-core b history history' tasks tasks' s d same_history same_tasks same_marks h =
    subst (λ (es : List Event). KeepsRun b es tasks' (record s { dependencies = d })) (sym same_history)
    (subst (λ (ts : List Task). KeepsRun b history ts (record s { dependencies = d })) (sym same_tasks)
    (record {
      mirrors = record {
        each = h.mirrors.each;
        changes = record { changes = h.mirrors.changes.changes; formed = h.mirrors.changes.formed; files = h.mirrors.changes.files; made = h.mirrors.changes.made; fresh = h.mirrors.changes.fresh };
        tapes = h.mirrors.tapes;
        parts = h.mirrors.parts;
        pipes = h.mirrors.pipes;
        counted = h.mirrors.counted;
        kept = subst (λ (ms : List Marked). Keeps (run_of b history).log ms) (sym same_marks) h.mirrors.kept;
        screens = h.mirrors.screens;
        committer = h.mirrors.committer;
      };
      footprints = h.footprints;
      room = h.room;
      loans = h.loans;
    }))

pub refused-applies : (b : Boot) (history history' : List Event) (tasks tasks' : List Task) (last : ℕ) (e : Event) (o : Option Refused) (why : Refused)
    → history' ≡ history → tasks' ≡ tasks → o ≡ refusal (kernel_of b history tasks last) e → Refuses o why
    → Applies (kernel_of b history tasks last) e (kernel_of b history' tasks' last) (Err why)
refused-applies b history history' tasks tasks' last e o why same_history same_tasks is refuses = (
  subst (λ (r : Option Refused). Refuses r why) is refuses,
  ap (λ (es : List Event). kernel_of b es tasks' last) same_history ∙ ap (λ (ts : List Task). kernel_of b history ts last) same_tasks,
)

-- ---- a Turn
turned-fine : (tasks new : List Task) (events pid n : ℕ) (before later : List Marked) (a : Answer) → (t : Turned events pid n tasks new before later a)
    → IsFineTurn (process_of t.ran.task) (is_some (out_of t.ran.task)) (full_of events tasks) n
turned-fine tasks new events pid n before later a t =
    turn-fine (process_of t.ran.task) (is_some (out_of t.ran.task)) (full_of events tasks) n
    (sym (turn-place tasks (full_of events tasks) pid t.place n t.ran.task t.placed t.ran.there) ∙ t.fine)

-- as many are out as before
pub turned-out : (old new : List Task) (events pid n : ℕ) (before later : List Marked) (a : Answer) → Turned events pid n old new before later a
    → count_out new ≡ count_out old
turned-out old new events pid n before later a t =
    let task : Task = t.ran.task in
    ap (λ (ts : List Task). count_out ts) t.ran.after
    ∙ count-set-same (λ (u : Task). is_some (out_of u)) old t.place task (record task { whereabouts = Here (run n (machine_of task)).state }) t.ran.there
    (sym (ap (λ (o : Option ℕ). is_some o) t.ran.here))

pub turned-core : TurnGrows → (b : Boot) (history history' : List Event) (old new : List Task) (s : System) (d : Kept) (pid n : ℕ) (a : Answer)
    → KeepsRun b history old s → history' ≡ history ++ Turn pid n ∷ []
    → Turned (length history) pid n old new s.dependencies.marks d.marks a
    → KeepsRun b history' new (record s { dependencies = d })
turned-core law b history history' old new s d pid n a h grown t =
    let w : World = run_of b history in
    let fine = turned-fine old new (length history) pid n s.dependencies.marks d.marks a t in
    let task : Task = t.ran.task in
    let reach : (run n (machine_of task)).state.count ≤ (machine_of task).count + n = t.ran.within in
    let few : (run n (machine_of task)).state.count ≤ 2 ^ 40 = omega (arith, fine.few, reach) in
    let of : IsProcessOf w.sync.processes pid task = process-there w s.served old pid t.place task h.mirrors.each t.placed.number t.ran.there in
    let next : happens w (Turn pid n) ≡ world_with w (turn_of w pid (after_run n of.process)) =
    turn-happens w pid n of.process of.there (ap (λ (o : Option ℕ). is_some o) of.status ∙ fine.running) in
    let log : (happens w (Turn pid n)).log ≡ w.log ++ own_entry pid ∷ [] = ap (λ (v : World). v.log) next in
    let files : (happens w (Turn pid n)).sync.files ≡ w.sync.files = ap (λ (v : World). v.sync.files) next in
    let out : count_out new ≡ count_out old = turned-out old new (length history) pid n s.dependencies.marks d.marks a t in
    let lendings : map lending_of new ≡ map lending_of old =
    ap (λ (ts : List Task). map lending_of ts) t.ran.after
    ∙ map-set-same lending_of old t.place task (record task { whereabouts = Here (run n (machine_of task)).state }) t.ran.there
    (ap (λ (o : Option ℕ). record { loans = task.loans; out = o }) (sym t.ran.here)) in
    let space : length history + 2 * count_out old < 2 ^ 40 = leb-false (2 ^ 40) (length history + 2 * count_out old) fine.room in
    let longer : length (history ++ Turn pid n ∷ []) ≡ length history + 1 = length_push history (Turn pid n) in
    subst (λ (es : List Event). KeepsRun b es new (record s { dependencies = d })) (sym grown) (record {
      mirrors = subst (λ (v : World). Mirrors v new (record s { dependencies = d })) (sym (after-append (first_world b) history (Turn pid n))) (record {
        each = ran-tasks w s.served old new pid n t.place t.count t.stop h.mirrors.each t.placed.number t.ran fine.running few;
        changes = changes-part w (happens w (Turn pid n)) s (record s { dependencies = d }) (own_entry pid) (own-silent pid) log files refl refl h.mirrors.changes;
        tapes = h.mirrors.tapes ∙ sym (ap (λ (v : World). v.sync.tapes) next);
        parts = h.mirrors.parts ∙ sym (ap (λ (v : World). map part_of v.sync.processes) next ∙ turn-parts w.sync.processes pid n of.process of.there);
        pipes = pipes-quiet w (happens w (Turn pid n)) s.pipes s.pipes (own_entry pid) log (ap (λ (v : World). v.sync.pipes) next) refl h.mirrors.pipes;
        counted = counted-quiet w (happens w (Turn pid n)) s.served s.served (own_entry pid) log (omega arith) h.mirrors.counted;
        kept = subst (λ (l : List Entry). Keeps l d.marks) (sym log) (t.noted w.log h.mirrors.kept);
        screens = subst (λ (l : List Entry). AreScreens w.storage.committed l s.screens.items) (sym log)
            (screens-quiet w.storage.committed w.log (own_entry pid) s.screens.items (own-silent pid) h.mirrors.screens);
        committer = h.mirrors.committer;
      });
      footprints =
          subst (λ (v : World). AreFootprints (history ++ Turn pid n ∷ []) v.log s.footprints.footprints) (sym (after-append (first_world b) history (Turn pid n)))
          (turn-follows law w history s.footprints.footprints pid n of.process of.there (ap (λ (o : Option ℕ). is_some o) of.status ∙ fine.running) h.footprints);
      room = omega (arith, longer, out, space);
      loans = few-same (length history) (length (history ++ Turn pid n ∷ [])) old new (omega (arith, longer)) lendings h.loans;
    })

pub turned-applies : (b : Boot) (history history' : List Event) (old new : List Task) (s : System) (later : List Marked) (last pid n : ℕ) (a : Answer)
    → KeepsRun b history old s → history' ≡ history ++ Turn pid n ∷ []
    → Turned (length history) pid n old new s.dependencies.marks later a
    → Applies (kernel_of b history old last) (Turn pid n) (kernel_of b history' new last) (Ok a)
turned-applies b history history' old new s later last pid n a h grown t =
    let w : World = run_of b history in
    let task : Task = t.ran.task in
    let of : IsProcessOf w.sync.processes pid task = process-there w s.served old pid t.place task h.mirrors.each t.placed.number t.ran.there in
    let lendings : map lending_of new ≡ map lending_of old =
    ap (λ (ts : List Task). map lending_of ts) t.ran.after
    ∙ map-set-same lending_of old t.place task (record task { whereabouts = Here (run n (machine_of task)).state }) t.ran.there
    (ap (λ (o : Option ℕ). record { loans = task.loans; out = o }) (sym t.ran.here)) in (
      sym (turn-refusal-is b history old s last pid n h) ∙ t.fine,
      t.answer ∙ ap (λ c. answer_of.Ran c t.stop) t.ran.counts ∙ ap (λ p. answer_of.Ran (run n (machine_of task)).count p) t.ran.stops
          ∙ ap (λ (x : State). answer_of.Ran (run n x).count (run n x).stop) (sym of.state)
          ∙ ap (λ (p : Option Process). ran_by p n) (sym of.there),
      ap (λ (es : List Event). kernel_of b es new last) grown
          ∙ ap (λ (ls : List Lending). record { boot = b; history = history ++ Turn pid n ∷ []; lendings = ls; last_lent = last }) lendings
          ∙ ap (λ (o : Option ℕ). record { boot = b; history = history ++ Turn pid n ∷ []; lendings = with_child (map lending_of old) o; last_lent = last })
          (sym (turn-child w.sync pid n)),
    )
