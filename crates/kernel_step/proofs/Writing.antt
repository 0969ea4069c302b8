-- The device's events of the parts are those of the run.
use Rattle.std.proofs.Common.{◌≡◌, ℕ, suc, ◌+◌, ◌*◌, ◌^◌, ◌<◌, ◌≤◌, Bool, false, not, List, [], ◌∷◌, ◌++◌, length, map, drop, slice_get, Option, Some, None, is_some, IfSome, is_none, Result, Ok, Err, refl, sym, ap, subst, ◌∙◌, arith}
use Rattle.std.proofs.lemmas.List.{length_push}
use Rattle.std.specs.Prelude.{IfOk, IfErr, OnOk, OnErr}
use Rattle.std.specs.List.{AllByRecursion}
use Rattle.std.proofs.lemmas.Bool.{leb-false}
use Rattle.commit_deps.specs.Keeps.{Keeps}
use Rattle.commit_deps.specs.Kept.{Marked}
use Rattle.disk_model.specs.Files.{IsFormed, IsMade}
use Rattle.footprints.specs.Footprints.{AreFootprints, IsOfDisk}
use Rattle.disk_model.specs.Storage.{Storage, cut, completed, failed, failed_by, is_empty, piece_at}
use Rattle.disk_model.proofs.Lists.{each_drop}
use Rattle.disk_model.proofs.Cutting.{cut-committed}
use Rattle.disk_model.specs.declared.change.Change.{Change}
use Rattle.disk_model.specs.Numbers.{Numbered}
use Rattle.kernel_model.specs.Answers.{Refuses, Applies, refusal, cut_refusal, write_refusal, is_full, Lending, changes_to_commit, writes_to_come}
use Rattle.kernel_model.specs.Entries.{Entry, Item}
use Rattle.kernel_model.specs.Paths.{changes_in_log}
use Rattle.kernel_model.specs.Shown.{told, printed, end_in}
use Rattle.kernel_model.specs.Steps.{disk_entry}
use Rattle.kernel_model.specs.World.{Boot, World, first_world, happens, run_of}
use Rattle.kernel_model.proofs.Runs.{after-append}
use Rattle.kernel_model.specs.declared.answer.Answer.{Answer}
use Rattle.kernel_model.specs.declared.answer.Answer.TheVariants as answer_of
use Rattle.kernel_model.specs.declared.answer.Refused.{Refused}
use Rattle.kernel_model.specs.declared.answer.Refused.TheVariants as refused
use Rattle.kernel_model.specs.declared.event.Event.{Event}
use Rattle.kernel_model.specs.declared.event.Event.TheVariants.{Cut, Complete, Fail}
use Rattle.machine_model.specs.States.{State}
use Rattle.kernel_step.specs.Waiting.{is_asleep}
use Rattle.kernel_step.specs.Advanced.{AreAdvanced, IsMoved, AreMoved}
use Rattle.kernel_step.specs.Represents.{kernel_of, KeepsRun}
use Rattle.held_output.specs.Withheld.{Withheld, Held, whats}
use Rattle.kernel_step.specs.Mirrors.{IsTask, AreTasks, AreChanges, Mirrors}
use Rattle.kernel_step.specs.Seen.{AreScreens}
use Rattle.kernel_step.specs.Storing.{WasCut, IsUncut, IsCompleted, HasFailed}
use Rattle.kernel_step.specs.Tasks.{machine_of, out_of, process_of, status_of, lending_of, count_out, needed}
use Rattle.kernel_step.specs.Tests.{full_of}
use Rattle.kernel_step.specs.declared.system.System.{System}
use Rattle.kernel_step.specs.declared.task.Task.{Task}
use Rattle.kernel_step.proofs.FewLoans.{same-out, few-same}
use Rattle.kernel_step.proofs.Noting.{DiskGrows}
use Rattle.kernel_step.proofs.Applying.{full-is, refused-applies}
use Rattle.kernel_step.proofs.Refusing.{none-of-two, none-of-four}
use Rattle.kernel_step.proofs.EnterParts.{pipes-quiet, counted-quiet}
use Rattle.kernel_step.proofs.EnterLists.{withholds-moved}
use Rattle.kernel_step.proofs.Quiet.{disk-silent, screens-quiet, trace-quiet, changes-part, waits-disk}

-- the law of marks: those of a log are those of one event more, if that writes no carrier
abbrev pub SilentLaw : Type 0
SilentLaw = (log : List Entry) (marks : List Marked) (e : Entry) → e.writes ≡ [] → Keeps log marks → Keeps (log ++ e ∷ []) marks

-- the laws by which the parts follow an event of the device: of the marks, and of the footprints
pub record DiskLaws : Type 0 where
  pub marks : SilentLaw
  pub footprints : DiskGrows

-- the run after an event of the device that leads to this storage
abbrev pub stored_world : World → Storage → World
stored_world w st = record { sync = w.sync; log = w.log ++ disk_entry ∷ []; storage = st }

-- ---- more is committed
pub screens-moved : (c d : ℕ) (log : List Entry) (old new : List (Withheld ℕ)) → AreScreens c log old → AreAdvanced d old new → AreScreens d log new
screens-moved c d log old new h a = record {
  count = a.count ∙ h.count;
  each = λ t s' there.
      let before = a.each t s' there in
      withholds-moved c d (printed t log) before.0 s' before.2.items before.2.committed (h.each t before.0 before.1);
}

-- ---- the tasks
status-moved : (c : ℕ) (t t' : Task) → IsMoved c t t' → status_of t' ≡ status_of t
status-moved c t t' m = ap (λ (hs : List (Held Item)). end_in (whats hs)) m.trace.items

task-moved : (w : World) (served : ℕ) (st : Storage) (place : ℕ) (t t' : Task) → IsTask w served place t → IsMoved st.committed t t' → IsTask (stored_world w st) served place t'
task-moved w served st place t t' h m = record {
  number = m.number ∙ h.number;
  trace = withholds-moved w.storage.committed st.committed (told (place + 1) (w.log ++ disk_entry ∷ [])) t.trace t'.trace m.trace.items m.trace.committed
      (trace-quiet w.storage.committed w.log disk_entry (place + 1) t.trace disk-silent h.trace);
  budget =
      let same : (machine_of t').count ≡ (machine_of t).count = ap (λ (s : State). s.count) m.machine in
      let out : needed (out_of t') ≡ needed (out_of t) = ap (λ (o : Option ℕ). needed o) m.out in
      let before : (machine_of t).count + needed (out_of t) ≤ 2 ^ 40 = h.budget in
      omega (arith, same, out, before);
  waits = waits-disk place w.log ∙ h.waits ∙ ap (λ (o : Option ℕ). is_asleep served o) (sym m.waited);
  since = subst (λ (o : Option ℕ). IfSome o (λ before. before ≤ served)) (sym m.waited) h.since;
  running = λ e. status-moved st.committed t t' m ∙ h.running (ap (λ (o : Option ℕ). is_some o) (sym m.out) ∙ e);
}

process-moved : (c : ℕ) (t t' : Task) → IsMoved c t t' → process_of t' ≡ process_of t
process-moved c t t' m = let e : status_of t' ≡ status_of t = status-moved c t t' m in cc

lending-moved : (c : ℕ) (t t' : Task) → IsMoved c t t' → lending_of t' ≡ lending_of t
lending-moved c t t' m = cc

-- what a function sees the same of each element is the same list
map-each : {A B : Type 0} (f : A → B) (xs ys : List A) → length ys ≡ length xs
    → ((i : ℕ) (y : A) → slice_get ys i ≡ Some y → (x : A) × (slice_get xs i ≡ Some x) × (f y ≡ f x)) → map f ys ≡ map f xs
map-each f [] [] l h = refl
map-each f [] (y ∷ ys) l h = absurd (omega arith)
map-each f (x ∷ xs) [] l h = absurd (omega arith)
map-each f (x ∷ xs) (y ∷ ys) l h =
    let first = h 0 y refl in
    let same : x ≡ first.0 = cc in
    ap (λ z. z ∷ map f ys) (first.2 ∙ ap f (sym same))
    ∙ ap (λ zs. f x ∷ zs) (map-each f xs ys (omega arith) (λ i z there. h (suc i) z there))

pub tasks-processes : (c : ℕ) (old new : List Task) → AreMoved c old new → map process_of new ≡ map process_of old
tasks-processes c old new m = map-each process_of old new m.count
    (λ i t there. let before = m.each i t there in (before.0, before.1, process-moved c before.0 t before.2))

pub tasks-lendings : (c : ℕ) (old new : List Task) → AreMoved c old new → map lending_of new ≡ map lending_of old
tasks-lendings c old new m = map-each lending_of old new m.count
    (λ i t there. let before = m.each i t there in (before.0, before.1, lending-moved c before.0 t before.2))

-- as many are out as before
pub moved-out : (c : ℕ) (old new : List Task) → AreMoved c old new → count_out new ≡ count_out old
moved-out c old new m = same-out old new (tasks-lendings c old new m)

pub tasks-moved : (w : World) (served : ℕ) (st : Storage) (old new : List Task) → AreTasks w served old → AreMoved st.committed old new → AreTasks (stored_world w st) served new
tasks-moved w served st old new h m = record {
  processes = tasks-processes st.committed old new m ∙ h.processes;
  each = λ i t there. let before = m.each i t there in task-moved w served st i before.0 t (h.each i before.0 before.1) before.2;
}

-- where no more is committed, each task has moved to itself
still : (w : World) (served place : ℕ) (t : Task) → IsTask w served place t → IsMoved w.storage.committed t t
still w served place t h = record {
  number = refl;
  machine = refl;
  loans = refl;
  out = refl;
  trace = record { items = refl; committed = h.trace.committed };
  waited = refl;
}

pub tasks-still : (w : World) (served : ℕ) (tasks : List Task) → AreTasks w served tasks → AreMoved w.storage.committed tasks tasks
tasks-still w served tasks h = record { count = refl; each = λ i t there. (t, there, still w served i t (h.each i t there)) }

pub screens-still : (c : ℕ) (log : List Entry) (screens : List (Withheld ℕ)) → AreScreens c log screens → AreAdvanced c screens screens
screens-still c log screens h = record {
  count = refl;
  each = λ t s there. (s, there, record { items = refl; committed = (h.each t s there).committed });
}

-- ---- all parts after an event of the device
-- the pipes, the table of processes, the count of what was told and the footprints stay
pub record IsSameRest (old new : System) : Type 0 where
  pub footprints : new.footprints.footprints ≡ old.footprints.footprints
  pub pipes : new.pipes ≡ old.pipes
  pub parts : new.processes.parts ≡ old.processes.parts
  pub served : new.served ≡ old.served

pub stored-mirrors : SilentLaw → (w : World) (st st' : Storage) (old new : List Task) (s s' : System) → Mirrors w old s → st' ≡ st
    → AreMoved st.committed old new → AreAdvanced st.committed s.screens.items s'.screens.items
    → s'.dependencies.marks ≡ s.dependencies.marks → s'.changes.items ≡ s.changes.items → s'.files ≡ s.files → s'.tapes ≡ s.tapes → IsSameRest s s' → s'.committer ≡ st'
    → Mirrors (stored_world w st) new s'
stored-mirrors law w st st' old new s s' h same moved advanced marks changes files tapes rest committer = record {
  each = subst (λ (n : ℕ). AreTasks (stored_world w st) n new) (sym rest.served) (tasks-moved w s.served st old new h.each moved);
  changes = changes-part w (stored_world w st) s s' disk_entry disk-silent refl refl changes files h.changes;
  tapes = tapes ∙ h.tapes;
  parts = rest.parts ∙ h.parts;
  pipes = pipes-quiet w (stored_world w st) s.pipes s'.pipes disk_entry refl refl rest.pipes h.pipes;
  counted = counted-quiet w (stored_world w st) s.served s'.served disk_entry refl (let is : s'.served ≡ s.served = rest.served in omega (arith, is)) h.counted;
  kept = subst (λ (ms : List Marked). Keeps (w.log ++ disk_entry ∷ []) ms) (sym marks) (law w.log s.dependencies.marks disk_entry refl h.kept);
  screens = screens-moved w.storage.committed st.committed (w.log ++ disk_entry ∷ []) s.screens.items s'.screens.items
      (screens-quiet w.storage.committed w.log disk_entry s.screens.items disk-silent h.screens) advanced;
  committer = committer ∙ same;
}

-- the same, where no more is committed
pub still-mirrors : SilentLaw → (w : World) (st st' : Storage) (tasks : List Task) (s : System) → Mirrors w tasks s → st' ≡ st → st.committed ≡ w.storage.committed
    → Mirrors (stored_world w st) tasks (record s { committer = st' })
still-mirrors law w st st' tasks s h same committed =
    stored-mirrors law w st st' tasks tasks s (record s { committer = st' }) h same
    (subst (λ (c : ℕ). AreMoved c tasks tasks) (sym committed) (tasks-still w s.served tasks h.each))
    (subst (λ (c : ℕ). AreAdvanced c s.screens.items s.screens.items) (sym committed) (screens-still w.storage.committed w.log s.screens.items h.screens))
    refl refl refl refl (record { footprints = refl; pipes = refl; parts = refl; served = refl }) refl

-- ---- the kernel after an event of the device
pub stored-core : DiskGrows → (b : Boot) (history history' : List Event) (old new : List Task) (s s' : System) (e : Event) (st : Storage) (full : Bool)
    → KeepsRun b history old s → full ≡ full_of (length history) old → full ≡ false → history' ≡ history ++ e ∷ []
    → IsOfDisk e → s'.footprints.footprints ≡ s.footprints.footprints → happens (run_of b history) e ≡ stored_world (run_of b history) st
    → AreMoved st.committed old new → Mirrors (stored_world (run_of b history) st) new s'
    → KeepsRun b history' new s'
stored-core law b history history' old new s s' e st full h is fine grown disk kept happen moved mirrors =
    let out : count_out new ≡ count_out old = moved-out st.committed old new moved in
    let space : length history + 2 * count_out old < 2 ^ 40 = leb-false (2 ^ 40) (length history + 2 * count_out old) (sym is ∙ fine) in
    let longer : length (history ++ e ∷ []) ≡ length history + 1 = length_push history e in
    subst (λ (es : List Event). KeepsRun b es new s') (sym grown) (record {
      mirrors = subst (λ (v : World). Mirrors v new s') (sym (after-append (first_world b) history e ∙ happen)) mirrors;
      footprints =
          subst (λ (v : World). AreFootprints (history ++ e ∷ []) v.log s'.footprints.footprints) (sym (after-append (first_world b) history e ∙ happen))
          (subst (λ (ks : List Entry). AreFootprints (history ++ e ∷ []) ((run_of b history).log ++ disk_entry ∷ []) ks) (sym kept)
          (law history (run_of b history).log s.footprints.footprints e disk_entry h.footprints disk refl refl));
      room = omega (arith, longer, out, space);
      loans = few-same (length history) (length (history ++ e ∷ [])) old new (omega (arith, longer)) (tasks-lendings st.committed old new moved) h.loans;
    })

pub same-stored : (b : Boot) (history history' : List Event) (tasks : List Task) (s : System) (d : Storage) → history' ≡ history → d ≡ s.committer
    → KeepsRun b history tasks s → KeepsRun b history' tasks (record s { committer = d })
same-stored b history history' tasks s d same_history same_committer h =
    subst (λ (es : List Event). KeepsRun b es tasks (record s { committer = d })) (sym same_history)
    (subst (λ (x : Storage). KeepsRun b history tasks (record s { committer = x })) (sym same_committer) h)

pub grown-kernel : (b : Boot) (history history' : List Event) (old new : List Task) (last : ℕ) (e : Event) → history' ≡ history ++ e ∷ []
    → map lending_of new ≡ map lending_of old → kernel_of b history' new last ≡ kernel_of b (history ++ e ∷ []) old last
grown-kernel b history history' old new last e grown lendings =
    ap (λ (es : List Event). kernel_of b es new last) grown
    ∙ ap (λ (ls : List Lending). record { boot = b; history = history ++ e ∷ []; lendings = ls; last_lent = last }) lendings

-- ---- a Fail
failed-committed : (st : Storage) (at : ℕ) → (failed st at).committed ≡ st.committed
failed-committed st at = elim (piece_at st.device.in_flight at) as (λ o. (failed_by st at o).committed ≡ st.committed) [
  | None ↦ refl
  | Some p ↦ refl
]

pub write-refusal-is : (b : Boot) (history : List Event) (tasks : List Task) (s : System) (last at : ℕ) (full : Bool) → KeepsRun b history tasks s
    → full ≡ full_of (length history) tasks
    → write_refusal s.committer at full ≡ write_refusal (run_of b history).storage at (is_full (kernel_of b history tasks last))
write-refusal-is b history tasks s last at full h is =
    ap (λ (st : Storage). write_refusal st at full) h.mirrors.committer
    ∙ ap (λ f. write_refusal (run_of b history).storage at f) (is ∙ full-is b history tasks last)

write-fine : (st : Storage) (at : ℕ) (full : Bool) → write_refusal st at full ≡ None → full ≡ false
write-fine st at full h = (none-of-two full (is_none (piece_at st.device.in_flight at)) refused.Budget refused.NoSuchWrite h).0

pub fail-core : DiskLaws → (b : Boot) (history history' : List Event) (tasks : List Task) (s : System) (d : Storage) (at : ℕ) (full : Bool) (r : Result Answer Refused)
    → KeepsRun b history tasks s → full ≡ full_of (length history) tasks
    → IfOk r (HasFailed s.committer d at full) → OnOk r (history' ≡ history ++ Fail at ∷ [])
    → OnErr r (history' ≡ history) → OnErr r (d ≡ s.committer)
    → KeepsRun b history' tasks (record s { committer = d })
fail-core law b history history' tasks s d at full (Ok a) h is done grown x y =
    let w : World = run_of b history in
    let st : Storage = failed w.storage at in
    let same : d ≡ st = done.committer ∙ ap (λ (t : Storage). failed t at) h.mirrors.committer in
    let none : st.committed ≡ w.storage.committed = failed-committed w.storage at in
    stored-core law.footprints b history history' tasks tasks s (record s { committer = d }) (Fail at) st full h is (write-fine s.committer at full done.fine) grown tt refl refl
    (subst (λ (c : ℕ). AreMoved c tasks tasks) (sym none) (tasks-still w s.served tasks h.mirrors.each))
    (still-mirrors law.marks w st d tasks s h.mirrors same none)
fail-core law b history history' tasks s d at full (Err why) h is done grown x y = same-stored b history history' tasks s d x y h

pub fail-applies : (b : Boot) (history history' : List Event) (tasks : List Task) (s : System) (d : Storage) (last at : ℕ) (full : Bool) (r : Result Answer Refused)
    → KeepsRun b history tasks s → full ≡ full_of (length history) tasks
    → IfOk r (HasFailed s.committer d at full) → OnOk r (history' ≡ history ++ Fail at ∷ [])
    → IfErr r (Refuses (write_refusal s.committer at full)) → OnErr r (history' ≡ history)
    → Applies (kernel_of b history tasks last) (Fail at) (kernel_of b history' tasks last) r
fail-applies b history history' tasks s d last at full (Ok a) h is done grown why x = (
  sym (write-refusal-is b history tasks s last at full h is) ∙ done.fine,
  done.answer,
  grown-kernel b history history' tasks tasks last (Fail at) grown refl,
)
fail-applies b history history' tasks s d last at full (Err e) h is done grown why x =
    refused-applies b history history' tasks tasks last (Fail at) (write_refusal s.committer at full) e x refl (write-refusal-is b history tasks s last at full h is) why

-- ---- a Complete
pub completed-core : DiskLaws → (b : Boot) (history history' : List Event) (old new : List Task) (s s' : System) (at committed : ℕ) (full : Bool)
    → KeepsRun b history old s → full ≡ full_of (length history) old
    → IsCompleted s.committer s'.committer at full committed → history' ≡ history ++ Complete at ∷ []
    → AreMoved committed old new → AreAdvanced committed s.screens.items s'.screens.items
    → s'.dependencies.marks ≡ s.dependencies.marks → s'.changes.items ≡ s.changes.items → s'.files ≡ s.files → s'.tapes ≡ s.tapes → IsSameRest s s'
    → KeepsRun b history' new s'
completed-core law b history history' old new s s' at committed full h is done grown moved advanced marks changes files tapes rest =
    let w : World = run_of b history in
    let st : Storage = completed w.storage at in
    let same : s'.committer ≡ st = done.committer ∙ ap (λ (t : Storage). completed t at) h.mirrors.committer in
    let count : committed ≡ st.committed = done.count ∙ ap (λ (t : Storage). t.committed) same in
    let moved_so : AreMoved st.committed old new = subst (λ (c : ℕ). AreMoved c old new) count moved in
    stored-core law.footprints b history history' old new s s' (Complete at) st full h is (write-fine s.committer at full done.fine) grown tt rest.footprints refl moved_so
    (stored-mirrors law.marks w st s'.committer old new s s' h.mirrors same moved_so
    (subst (λ (c : ℕ). AreAdvanced c s.screens.items s'.screens.items) count advanced) marks changes files tapes rest refl)

pub completed-applies : (b : Boot) (history history' : List Event) (old new : List Task) (s : System) (d : Storage) (last at committed : ℕ) (full : Bool)
    → KeepsRun b history old s → full ≡ full_of (length history) old
    → IsCompleted s.committer d at full committed → history' ≡ history ++ Complete at ∷ []
    → AreMoved committed old new
    → Applies (kernel_of b history old last) (Complete at) (kernel_of b history' new last) (Ok (answer_of.Completed committed))
completed-applies b history history' old new s d last at committed full h is done grown moved = (
  sym (write-refusal-is b history old s last at full h is) ∙ done.fine,
  ap (λ c. answer_of.Completed c) (done.count ∙ ap (λ (t : Storage). t.committed) (done.committer ∙ ap (λ (t : Storage). completed t at) h.mirrors.committer)),
  grown-kernel b history history' old new last (Complete at) grown (tasks-lendings committed old new moved),
)

pub complete-refused : (b : Boot) (history history' : List Event) (tasks : List Task) (s : System) (last at : ℕ) (full : Bool) (why : Refused)
    → KeepsRun b history tasks s → full ≡ full_of (length history) tasks
    → Refuses (write_refusal s.committer at full) why → history' ≡ history
    → Applies (kernel_of b history tasks last) (Complete at) (kernel_of b history' tasks last) (Err why)
complete-refused b history history' tasks s last at full why h is refuses same =
    refused-applies b history history' tasks tasks last (Complete at) (write_refusal s.committer at full) why same refl (write-refusal-is b history tasks s last at full h is) refuses

-- ---- a Cut
pub changes-formed : (w : World) (s : System) (n : ℕ) → AreChanges w s → AllByRecursion IsFormed (drop n s.changes.items)
changes-formed w s n h = subst (λ (cs : List Change). AllByRecursion IsFormed (drop n cs)) (sym h.changes)
    (each_drop IsFormed n (changes_in_log w.log) h.formed)

pub files-made : (w : World) (s : System) → AreChanges w s → IsMade s.files.living
files-made w s h = subst (λ (fs : Numbered). IsMade fs.living) (sym h.files) h.made

pub cut-refusal-is : (b : Boot) (history : List Event) (tasks : List Task) (s : System) (last : ℕ) (full : Bool) → KeepsRun b history tasks s
    → full ≡ full_of (length history) tasks
    → cut_refusal s.committer (drop s.committer.committed s.changes.items) full ≡ refusal (kernel_of b history tasks last) Cut
cut-refusal-is b history tasks s last full h is =
    ap (λ (st : Storage). cut_refusal st (drop st.committed s.changes.items) full) h.mirrors.committer
    ∙ ap (λ (cs : List Change). cut_refusal (run_of b history).storage (drop (run_of b history).storage.committed cs) full) h.mirrors.changes.changes
    ∙ ap (λ f. cut_refusal (run_of b history).storage (drop (run_of b history).storage.committed (changes_in_log (run_of b history).log)) f) (is ∙ full-is b history tasks last)

cut-fine : (st : Storage) (cs : List Change) (full : Bool) → cut_refusal st cs full ≡ None → full ≡ false
cut-fine st cs full h = (none-of-four full (not (is_empty st.device.failed)) (not (is_empty st.device.in_flight)) (is_empty cs)
    refused.Budget refused.DiskFailed refused.GroupInFlight refused.NothingToCut h).0

-- the storage after a Cut of the kernel is that of the run
cut-same : (w : World) (s : System) → AreChanges w s → s.committer ≡ w.storage
    → cut s.committer (drop s.committer.committed s.changes.items) s.files.living ≡ cut w.storage (drop w.storage.committed (changes_in_log w.log)) w.sync.files.living
cut-same w s h committer =
    ap (λ (st : Storage). cut st (drop st.committed s.changes.items) s.files.living) committer
    ∙ ap (λ (cs : List Change). cut w.storage (drop w.storage.committed cs) s.files.living) h.changes
    ∙ ap (λ (fs : Numbered). cut w.storage (drop w.storage.committed (changes_in_log w.log)) fs.living) h.files

pub cut-core : DiskLaws → (b : Boot) (history history' : List Event) (tasks : List Task) (s : System) (d : Storage) (full : Bool) (r : Result Answer Refused)
    → KeepsRun b history tasks s → full ≡ full_of (length history) tasks
    → IfOk r (WasCut s.committer d s.changes.items s.files.living full history history')
    → OnErr r (IsUncut s.committer d history history')
    → KeepsRun b history' tasks (record s { committer = d })
cut-core law b history history' tasks s d full (Ok a) h is done x =
    let w : World = run_of b history in
    let st : Storage = cut w.storage (drop w.storage.committed (changes_in_log w.log)) w.sync.files.living in
    let same : d ≡ st = done.committer ∙ cut-same w s h.mirrors.changes h.mirrors.committer in
    let none : st.committed ≡ w.storage.committed = cut-committed w.storage (drop w.storage.committed (changes_in_log w.log)) w.sync.files.living in
    stored-core law.footprints b history history' tasks tasks s (record s { committer = d }) Cut st full h is (cut-fine s.committer (drop s.committer.committed s.changes.items) full done.fine) done.history tt refl refl
    (subst (λ (c : ℕ). AreMoved c tasks tasks) (sym none) (tasks-still w s.served tasks h.mirrors.each))
    (still-mirrors law.marks w st d tasks s h.mirrors same none)
cut-core law b history history' tasks s d full (Err why) h is done x = same-stored b history history' tasks s d x.history x.committer h

pub cut-applies : (b : Boot) (history history' : List Event) (tasks : List Task) (s : System) (d : Storage) (last : ℕ) (full : Bool) (r : Result Answer Refused)
    → KeepsRun b history tasks s → full ≡ full_of (length history) tasks
    → IfOk r (WasCut s.committer d s.changes.items s.files.living full history history')
    → IfErr r (Refuses (cut_refusal s.committer (drop s.committer.committed s.changes.items) full)) → OnErr r (IsUncut s.committer d history history')
    → Applies (kernel_of b history tasks last) Cut (kernel_of b history' tasks last) r
cut-applies b history history' tasks s d last full (Ok a) h is done why x =
    let w : World = run_of b history in (
      sym (cut-refusal-is b history tasks s last full h is) ∙ done.fine,
      done.answer ∙ ap (λ (st : Storage). answer_of.Cut (changes_to_commit st) (writes_to_come st)) (done.committer ∙ cut-same w s h.mirrors.changes h.mirrors.committer),
      grown-kernel b history history' tasks tasks last Cut done.history refl,
    )
cut-applies b history history' tasks s d last full (Err e) h is done why x =
    refused-applies b history history' tasks tasks last Cut (cut_refusal s.committer (drop s.committer.committed s.changes.items) full) e x.history refl (cut-refusal-is b history tasks s last full h is) why
