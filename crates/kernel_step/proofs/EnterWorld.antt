-- An Enter of the parts is an Enter of the run.
use Rattle.std.proofs.Common.{◌≡◌, ℕ, suc, ◌+◌, ◌*◌, ◌^◌, ◌<◌, ◌≤◌, inl, inr, true, false, Bool, List, [], ◌∷◌, ◌++◌, length, map, slice_get, slice_set, Option, Some, None, is_some, IfSome, option_to_list, refl, sym, ap, subst, ◌∙◌, arith, length-append}
use Rattle.std.proofs.lemmas.Option.{slice_get_within}
use Rattle.std.proofs.lemmas.List.{length-map, map-append}
use Rattle.std.specs.List.{AllByRecursion}
use Rattle.disk_model.specs.declared.change.Change.{Change}
use Rattle.disk_model.specs.declared.change.NamedFile.{NamedFile}
use Rattle.disk_model.specs.Numbers.{Numbered}
use Rattle.kernel_model.specs.Limits.{AreNumbered, KeepLimits}
use Rattle.kernel_model.proofs.Numbering.{made_by_one}
use Rattle.disk_model.specs.Files.{IsFormed, IsMade, MayCome, changed, IsPossible}
use Rattle.disk_model.specs.Rebuild.{CanBeRebuilt}
use Rattle.disk_model.proofs.Lists.{each_append}
use Rattle.disk_model.specs.Storage.{Storage}
use Rattle.machine_model.specs.States.{State}
use Rattle.calls.specs.Plans.{NamesFile, NamesFiles, EditsAs, IsNext, all_seen}
use Rattle.calls.specs.declared.plan.CallPlan.{CallPlan}
use Rattle.commit_deps.specs.Keeps.{Keeps}
use Rattle.commit_deps.specs.Kept.{Kept}
use Rattle.footprints.specs.Kept.{Kept as KeptFootprints}
use Rattle.commit_deps.specs.Marks.{IsMarkOf}
use Rattle.commit_deps.specs.Kept.{Marked}
use Rattle.pipes.specs.Seen.{Seen}
use Rattle.processes.specs.Parts.{Part, part_of, part_at, descriptors_in}
use Rattle.kernel_model.specs.Answers.{Lending, outcome_of, with_child}
use Rattle.kernel_model.specs.Entries.{Entry, Item}
use Rattle.kernel_model.specs.Shown.{told as told-of, end_in}
use Rattle.kernel_model.specs.Paths.{changes_in_log}
use Rattle.kernel_model.specs.Rows.{descriptor_at}
use Rattle.kernel_model.specs.State.{Process, TapeState, changed_by, read_by}
use Rattle.kernel_model.specs.Steps.{Transition, step}
use Rattle.kernel_model.specs.World.{World, happens}
use Rattle.kernel_model.proofs.Runs.{changes_in_log-entry, append-nil}
use Rattle.kernel_model.specs.declared.answer.Outcome.{Outcome}
use Rattle.kernel_model.specs.declared.descriptor.Descriptor.{Descriptor}
use Rattle.kernel_model.specs.declared.descriptor.Descriptor.TheVariants as descriptor
use Rattle.kernel_model.specs.declared.event.Event.TheVariants.{Enter}
use Rattle.kernel_model.specs.declared.request.Verdict.{Verdict}
use Rattle.kernel_model.specs.declared.request.Verdict.TheVariants.{Waits, Replies, Ends}
use Rattle.calls.specs.Sights.{Sight}
use Rattle.kernel_step.specs.Entering.{IsSightOf, item_of, sight_in, MayPlan, entry_of, footprint_of, parts_after, planned, PlansEnter, IsChild, MakesTask, IsNoted, IsFinished, IsCarriedOut, IsEntered, IsDone, IsTold, IsSameTask, IsSystemWith, IsSameSystem, unboxed}
use Rattle.held_output.specs.Withheld.{Withheld, Held, whats}
use Rattle.kernel_step.specs.Coning.{IsFootprintNoted}
use Rattle.kernel_step.specs.Mirrors.{IsTask, AreTasks, AreChanges, ArePipes, Mirrors}
use Rattle.kernel_step.specs.Ready.{IsPrepared}
use Rattle.kernel_step.specs.Seen.{AreScreens}
use Rattle.kernel_step.specs.Settling.{marked_with}
use Rattle.kernel_step.specs.Tasks.{machine_of, out_of, process_of, bare, lending_of, status_of, needed}
use Rattle.kernel_step.specs.Waiting.{is_asleep, served_after}
use Rattle.kernel_step.specs.declared.plan.EnterPlan.{EnterPlan}
use Rattle.kernel_step.specs.declared.system.System.{System}
use Rattle.kernel_step.specs.declared.task.Task.{Task}
use Rattle.kernel_step.proofs.EnterFine.{IsFineTask}
use Rattle.kernel_step.proofs.EnterParts.{PipeLaws, parts-planned, pipes-planned, counted-quiet}
use Rattle.kernel_step.proofs.EnterPlans.{part-seen}
use Rattle.kernel_step.proofs.EnterTasks.{told-tasks, served-by-one}
use Rattle.kernel_step.proofs.Lists.{get-set, map-set-same}
use Rattle.kernel_step.proofs.EnterLists.{withholds-moved}
use Rattle.kernel_step.proofs.Telling.{told-same}
use Rattle.kernel_step.proofs.Turning.{IsProcessOf, process-there, world_with}

-- ---- the laws of the disk
-- a checkpoint of files that possible changes made is possible
abbrev pub RebuiltLaw : Type 0
RebuiltLaw = (files : List NamedFile) → IsMade files → CanBeRebuilt files

-- files that possible changes made are such files still after one more
abbrev pub ChangeLaw : Type 0
ChangeLaw = (files : List NamedFile) (change : Change) → IsMade files → IsFormed change → MayCome files change → IsMade (changed files change)

-- the laws by which the parts follow an Enter: of the files, and of the pipes
pub record EnterLaws : Type 0 where
  pub changes : ChangeLaw
  pub pipes : PipeLaws

-- ---- what the plan rests on
pub sight-is : (w : World) (tasks : List Task) (s : System) → Mirrors w tasks s → IsSightOf w.sync (sight_in s)
sight-is w tasks s h = record { parts = h.parts; files = h.changes.files; pipes = h.pipes.shown; tapes = h.tapes }

-- there are as many tasks as parts
pub as-many : (w : World) (tasks : List Task) (s : System) → Mirrors w tasks s → length tasks ≡ length s.processes.parts
as-many w tasks s h =
    sym (length-map tasks process_of)
    ∙ ap (λ (ps : List Process). length ps) h.each.processes
    ∙ length-map w.sync.processes bare
    ∙ sym (length-map w.sync.processes part_of)
    ∙ ap (λ (xs : List Part). length xs) (sym h.parts)

-- what the table has of a process
pub part-there : (w : World) (tasks : List Task) (s : System) (pid : ℕ) (t : Task) → Mirrors w tasks s → (of : IsProcessOf w.sync.processes pid t)
    → part_at s.processes.parts pid ≡ Some (part_of of.process)
part-there w tasks s pid t h of = ap (λ (xs : List Part). part_at xs pid) h.parts ∙ part-seen w.sync.processes pid of.process of.there

-- one more file may be counted
pub fresh-files : (w : World) (s : System) → AreChanges w s → length w.log ≤ 2 ^ 40 → s.files.made + 1 < 2 ^ 64
fresh-files w s h short = omega (arith, h.fresh, ap (λ (fs : Numbered). fs.made) h.files, short)

-- descriptors of which none stands for a file that was never made
names-files : (count : ℕ) (ds : List (Option Descriptor))
    → ((fd file offset : ℕ) (writes : Bool) → descriptor_at ds fd ≡ Some (descriptor.File file offset writes) → file < count) → NamesFiles count ds
names-files count [] h = tt
names-files count (d ∷ ds) h = (one d (λ file offset writes is. h 0 file offset writes is), names-files count ds (λ fd. h (suc fd)))
  where
    one : (d : Option Descriptor) → ((file offset : ℕ) (writes : Bool) → d ≡ Some (descriptor.File file offset writes) → file < count) → NamesFile count d
    one (Some (descriptor.File file offset writes)) g = g file offset writes refl
    one (Some (descriptor.Tape tape)) g = tt
    one (Some (descriptor.Terminal terminal)) g = tt
    one (Some (descriptor.Pipe end)) g = tt
    one None g = tt

pub may-plan : RebuiltLaw → (w : World) (tasks : List Task) (s : System) (pid place : ℕ) (t : Task) → Mirrors w tasks s → KeepLimits w.sync → length w.log ≤ 2 ^ 40
    → pid ≡ place + 1 → slice_get tasks place ≡ Some t → MayPlan (sight_in s) pid
may-plan law w tasks s pid place t h limits short number there =
    let made : IsMade s.files.living = subst (λ (fs : Numbered). IsMade fs.living) (sym h.changes.files) h.changes.made in
    let rebuilt : CanBeRebuilt s.files.living = law s.files.living made in
    let of : IsProcessOf w.sync.processes pid t = process-there w s.served tasks pid place t h.each number there in
    let at : part_at s.processes.parts pid ≡ Some (part_of of.process) = part-there w tasks s pid t h of in
    let within : place < length tasks = slice_get_within tasks place t there in
    let size : length tasks ≡ length s.processes.parts = as-many w tasks s h in
    record {
      call = record {
        from_1 = omega (arith, number);
        there = omega (arith, number, within, size);
        few = rebuilt.few;
        short = rebuilt.short;
        numbered = subst AreNumbered (sym h.changes.files) limits.numbered;
        named =
            subst (λ (o : Option Part). NamesFiles s.files.made (descriptors_in o)) (sym at)
            (subst (λ (fs : Numbered). NamesFiles fs.made of.process.descriptors) (sym h.changes.files)
            (names-files w.sync.files.made of.process.descriptors (limits.processes pid of.process of.there).named));
      };
      ends = record { pipes = w.sync.pipes; most = 16 * length w.log; shown = h.pipes.shown; few = h.pipes.few; room = omega (arith, short) };
    }

-- ---- the step of the run
pub enter-steps : (w : World) (seen : Sight) (pid : ℕ) (full : Bool) (t : Task) (plan : CallPlan) (of : IsProcessOf w.sync.processes pid t)
    → IsSightOf w.sync seen → IsFineTask t full → PlansEnter seen pid (machine_of t) plan
    → step w.sync (Enter pid) ≡ planned w.sync pid of.process plan
enter-steps w seen pid full t plan of sight fine plans =
    plans.goes w.sync of.process sight of.there of.state (of.status ∙ fine.running)

pub enter-happens : (w : World) (pid : ℕ) (t : Transition) → step w.sync (Enter pid) ≡ t → happens w (Enter pid) ≡ world_with w t
enter-happens w pid t goes = ap (λ (x : Transition). world_with w x) goes

-- ---- the changes
made-one : ChangeLaw → (files : Numbered) (o : Option Change) → IfSome o (IsPossible files.living) → IsMade files.living → IsMade (changed_by files o).living
made-one law files None h made = made
made-one law files (Some c) h made = law files.living c made h.0 h.1

formed-one : (files : List NamedFile) (o : Option Change) → IfSome o (IsPossible files) → AllByRecursion IsFormed (option_to_list o)
formed-one files None h = tt
formed-one files (Some c) h = (h.0, tt)

changes-more : ChangeLaw → (w : World) (t : Transition) (s s' : System) (change : Option Change)
    → t.entry.change ≡ change → t.state.files ≡ changed_by w.sync.files change
    → IfSome change (IsPossible s.files.living)
    → s'.changes.items ≡ s.changes.items ++ option_to_list change → s'.files ≡ changed_by s.files change
    → AreChanges w s → AreChanges (world_with w t) s'
changes-more law w t s s' change makes files possible more new h =
    let one : List Change = option_to_list change in
    let all : changes_in_log (w.log ++ t.entry ∷ []) ≡ changes_in_log w.log ++ one =
    changes_in_log-entry w.log t.entry ∙ ap (λ (o : Option Change). changes_in_log w.log ++ option_to_list o) makes in
    let same : s'.files ≡ t.state.files = new ∙ ap (λ (fs : Numbered). changed_by fs change) h.files ∙ sym files in
    let made : IsMade s.files.living = subst (λ (fs : Numbered). IsMade fs.living) (sym h.files) h.made in
    record {
      changes = more ∙ ap (λ (cs : List Change). cs ++ one) h.changes ∙ sym all;
      formed =
          subst (λ (cs : List Change). AllByRecursion IsFormed cs) (sym all)
          (each_append IsFormed (changes_in_log w.log) one h.formed (formed-one s.files.living change possible));
      files = same;
      made = subst (λ (fs : Numbered). IsMade fs.living) (sym new ∙ same) (made-one law s.files change possible made);
      fresh = omega (
        arith,
        h.fresh,
        ap (λ (fs : Numbered). fs.made) files,
        made_by_one w.sync.files change,
        length-append w.log (t.entry ∷ []),
      );
    }

-- the lendings stay
pub same-lendings : (tasks : List Task) (place : ℕ) (t t' : Task) → slice_get tasks place ≡ Some t → t'.loans ≡ t.loans → out_of t' ≡ out_of t
    → map lending_of (slice_set tasks place t') ≡ map lending_of tasks
same-lendings tasks place t t' there loans out =
    map-set-same lending_of tasks place t t' there
    (ap (λ n. record { loans = n; out = out_of t' }) loans ∙ ap (λ o. record { loans = t.loans; out = o }) out)

-- ---- all parts
-- one that makes a process is told something
pub makes-told : (plan : CallPlan) (v : Verdict) → EditsAs v plan → is_some plan.child ≡ true → is_some (item_of v) ≡ true
makes-told plan Waits edits makes = let none : is_some plan.child ≡ false = ap (λ (o : Option ℕ). is_some o) edits.0.child in cc
makes-told plan (Replies r) edits makes = refl
makes-told plan (Ends status) edits makes = refl

-- the marks and the event's own mark
pub noted-mark : (w : World) (s : System) (x : Entry) (marks : List Marked) (mark : ℕ) → IsNoted x (length s.changes.items) s.dependencies.marks marks mark
    → AreChanges w s → Keeps w.log s.dependencies.marks → IsMarkOf mark w.log x × Keeps (w.log ++ x ∷ []) marks
noted-mark w s x marks mark noted changes kept =
    let count : length (changes_in_log w.log) ≡ length s.changes.items = ap (λ (cs : List Change). length cs) (sym changes.changes) in
    (noted.says w.log kept count, noted.kept w.log kept count)

-- the run after an Enter that is done, what it came to, and how the processes stand with their loans then
pub record IsRun (w : World) (pid : ℕ) (tasks new : List Task) (s s' : System) (outcome : Outcome) : Type 0 where
  pub mirrors : Mirrors (happens w (Enter pid)) new s'
  pub footprint : IsFootprintNoted pid (step w.sync (Enter pid)).entry s.footprints.footprints s'.footprints.footprints
  pub outcome_is : outcome ≡ outcome_of (step w.sync (Enter pid)).entry.item
  pub child : Option ℕ
  pub child_is : child ≡ (step w.sync (Enter pid)).entry.child
  pub lendings : map lending_of new ≡ with_child (map lending_of tasks) child

made-lending : (number : Option ℕ) (mark : ℕ) (s : State) (t : Withheld Item) (o : Option Task) (ls : List Lending) → MakesTask number mark s t o
    → ls ++ map lending_of (option_to_list o) ≡ with_child ls number
made-lending number mark s t None ls made = append-nil ls ∙ ap (λ (x : Option ℕ). with_child ls x) (sym made)
made-lending number mark s t (Some u) ls made =
    ap (λ (n : ℕ). ls ++ record { loans = n; out = out_of u } ∷ []) made.1.loans
    ∙ ap (λ (o : Option ℕ). ls ++ record { loans = 0; out = o } ∷ []) made.1.out
    ∙ ap (λ (x : Option ℕ). with_child ls x) (sym made.0)

pub done-runs : EnterLaws → (w : World) (tasks : List Task) (s s' : System) (pid place : ℕ) (full : Bool) (t t' : Task) (outcome : Outcome) (child : Option Task)
    → Mirrors w tasks s → pid ≡ place + 1 → slice_get tasks place ≡ Some t → IsFineTask t full
    → IsDone pid t t' s s' outcome child
    → IsRun w pid tasks (slice_set tasks place t' ++ option_to_list child) s s' outcome
done-runs laws w tasks s s' pid place full t t' outcome child h number there fine done =
    let plan : CallPlan = done.plan in
    let x : Entry = entry_of pid plan in
    let of : IsProcessOf w.sync.processes pid t = process-there w s.served tasks pid place t h.each number there in
    let goes : step w.sync (Enter pid) ≡ planned w.sync pid of.process plan =
    enter-steps w (sight_in s) pid full t plan of (sight-is w tasks s h) fine done.plans in
    let entry : (step w.sync (Enter pid)).entry ≡ x = ap (λ (y : Transition). y.entry) goes in
    let v : World = world_with w (planned w.sync pid of.process plan) in
    let size : length s.processes.parts ≡ length tasks = sym (as-many w tasks s h) in
    let marked = noted-mark w s x s'.dependencies.marks done.mark done.system.noted h.changes h.kept in
    record {
      mirrors = subst (λ (y : World). Mirrors y (slice_set tasks place t' ++ option_to_list child) s') (sym (enter-happens w pid (planned w.sync pid of.process plan) goes)) (record {
        each =
            subst (λ (n : ℕ). AreTasks v n (slice_set tasks place t' ++ option_to_list child)) (sym done.system.served)
            (told-tasks w s.served tasks pid place full t t' plan done.mark child number there fine of
            (subst (λ (n : ℕ). IfSome plan.child (IsNext n)) size done.plans.child)
            (makes-told plan plan.verdict done.plans.edits) marked.0
            done.told done.made h.each);
        changes = changes-more laws.changes w (planned w.sync pid of.process plan) s s' plan.change refl refl done.plans.possible done.system.changes done.system.files h.changes;
        tapes = done.system.tapes ∙ ap (λ (ts : List TapeState). read_by ts plan.tape) h.tapes;
        parts =
            done.system.parts ∙ ap (λ (xs : List Part). parts_after xs pid plan) h.parts ∙ parts-planned w.sync.processes pid of.process plan of.there;
        pipes =
            subst (λ (y : List Seen). ArePipes v y) (sym done.system.pipes)
            (pipes-planned laws.pipes w s.pipes plan.pipes.items (planned w.sync pid of.process plan) refl done.plans.steps.few done.plans.may h.pipes);
        counted =
            counted-quiet w v s.served s'.served x refl
            (let one : served_after plan.verdict s.served ≤ s.served + 1 = served-by-one plan.verdict s.served in
            let is : s'.served ≡ served_after plan.verdict s.served = done.system.served in omega (arith, one, is)) h.counted;
        kept = marked.1;
        screens =
            done.system.screens w.storage.committed w.log x h.screens marked.0 refl;
        committer = done.system.committer ∙ h.committer;
      });
      footprint =
          subst (λ (y : Entry). IsFootprintNoted pid y s.footprints.footprints s'.footprints.footprints) (sym entry)
          (record { reads = plan.reads.items; own = refl; noted = done.system.footprints });
      outcome_is = done.outcome_is ∙ sym (ap (λ (y : Entry). outcome_of y.item) entry);
      child = plan.child;
      child_is = sym (ap (λ (y : Entry). y.child) entry);
      lendings =
          map-append lending_of (slice_set tasks place t') (option_to_list child)
          ∙ ap (λ (ls : List Lending). ls ++ map lending_of (option_to_list child)) (same-lendings tasks place t t' there done.told.loans done.told.out)
          ∙ made-lending plan.child done.mark (machine_of t) t.trace child (map lending_of tasks) done.made;
    }

-- an Enter whose change of the files is done, whose event is noted, and of which then the rest is done
finished-entered : (pid : ℕ) (plan : CallPlan) (mark : ℕ) (s s1 s3 : System) (d : Kept) (f : KeptFootprints)
    → IsSystemWith (changed_by s.files plan.change) s s1
    → IsNoted (entry_of pid plan) (length s1.changes.items) s1.dependencies.marks d.marks mark
    → f.footprints ≡ s1.footprints.footprints ++ footprint_of pid plan ∷ []
    → IsFinished pid plan mark (record s1 { dependencies = d; footprints = f }) s3
    → IsEntered pid plan mark s s3
finished-entered pid plan mark s s1 s3 d f ready noted kept done =
    record {
      noted =
          subst (λ (ms : List Marked). IsNoted (entry_of pid plan) (length s.changes.items) s.dependencies.marks ms mark) (sym (ap (λ (k : Kept). k.marks) done.marks))
          (subst (λ (ms : List Marked). IsNoted (entry_of pid plan) (length s.changes.items) ms d.marks mark) ready.marks
          (subst (λ (cs : List Change). IsNoted (entry_of pid plan) (length cs) s1.dependencies.marks d.marks mark) ready.changes noted));
      footprints =
          ap (λ (k : KeptFootprints). k.footprints) done.footprints
          ∙ kept
          ∙ ap (λ (ks : List Entry). ks ++ footprint_of pid plan ∷ []) ready.footprints;
      changes = done.changes ∙ ap (λ (cs : List Change). cs ++ option_to_list plan.change) ready.changes;
      files = done.files ∙ ready.files;
      tapes = done.tapes ∙ ap (λ (ts : List TapeState). read_by ts plan.tape) ready.tapes;
      pipes = done.pipes ∙ ap (λ (ps : List Seen). all_seen ps plan.pipes.items) ready.pipes;
      parts = done.parts ∙ ap (λ (xs : List Part). parts_after xs pid plan) ready.parts;
      served = done.served ∙ ap (λ (n : ℕ). served_after plan.verdict n) ready.served;
      committer = done.committer ∙ ready.committer;
      screens = λ c log x h is_mark writes. done.screens c log x (ready.screens c log h) is_mark writes;
    }

-- the process was told this
finished-told : (verdict : Verdict) (mark : ℕ) (files : Numbered) (s s1 : System) (t u : Task) → IsSystemWith files s s1
    → IsTold verdict mark s1.served t u → IsTold verdict mark s.served t u
finished-told verdict mark files s s1 t u ready done = subst (λ (n : ℕ). IsTold verdict mark n t u) ready.served done

-- the marks alone were changed since
pub shared-turned : (files : Numbered) (s s1 : System) (d : Kept) → IsSystemWith files s s1
    → IsSystemWith files (marked_with s d.marks) (record s1 { dependencies = d })
shared-turned files s s1 d ready = record {
  marks = refl;
  footprints = ready.footprints;
  changes = ready.changes;
  files = ready.files;
  tapes = ready.tapes;
  pipes = ready.pipes;
  parts = ready.parts;
  served = ready.served;
  committer = ready.committer;
  screens = ready.screens;
}

-- an Enter that was prepared from the task t, which is u now that it has room for more, and was carried out
pub carried-done : (pid : ℕ) (m : State) (t u v : Task) (s s1 s2 : System) (e : EnterPlan) (outcome : Outcome) (child : Option Task) → machine_of t ≡ m
    → IsPrepared pid m t.trace s s1 e → IsSameTask t u → IsCarriedOut e u v s1 s2 outcome child → IsDone pid t v s s2 outcome child
carried-done pid m t u v s s1 s2 e outcome child here prepared same carried =
    let plan : CallPlan = e.plan in
    let entering = prepared.entering in
    record {
      plan = plan;
      mark = carried.mark;
      plans = subst (λ (x : State). PlansEnter (sight_in s) pid x plan) (sym here) entering.plan;
      told =
          told-same plan.verdict carried.mark s.served t u v same
          (finished-told plan.verdict carried.mark (changed_by s.files plan.change) s s1 u v prepared.changed carried.told);
      made = carried.made plan.child (machine_of t) t.trace (subst (λ (x : State). IsChild plan.child x t.trace (unboxed e.child)) (sym here) entering.child);
      system =
          subst (λ (k : ℕ). IsEntered k plan carried.mark s s2) entering.process
          (finished-entered e.pid plan carried.mark s s1 s2 carried.dependencies carried.footprints prepared.changed carried.noted carried.kept carried.rest);
      outcome_is = carried.outcome_is;
    }

-- ---- only room was taken
pub same-status : (t t' : Task) → IsSameTask t t' → status_of t' ≡ status_of t
same-status t t' same = ap (λ (hs : List (Held Item)). end_in (whats hs)) same.trace.items

pub same-task : (w : World) (served place : ℕ) (t t' : Task) → IsSameTask t t' → IsTask w served place t → IsTask w served place t'
same-task w served place t t' same h =
    let count : (machine_of t').count + needed (out_of t') ≡ (machine_of t).count + needed (out_of t) =
    ap (λ (m : State). m.count + needed (out_of t')) same.machine ∙ ap (λ (o : Option ℕ). (machine_of t).count + needed o) same.out in
    record {
      number = same.pid ∙ h.number;
      trace = withholds-moved w.storage.committed w.storage.committed (told-of (place + 1) w.log) t.trace t'.trace same.trace.items
          (same.trace.committed ∙ h.trace.committed) h.trace;
      budget = let was = h.budget in omega (arith, count, was);
      waits = h.waits ∙ ap (λ (o : Option ℕ). is_asleep served o) (sym same.waited);
      since = subst (λ (o : Option ℕ). IfSome o (λ before. before ≤ served)) (sym same.waited) h.since;
      running = λ lent. same-status t t' same ∙ h.running (ap (λ (o : Option ℕ). is_some o) (sym same.out) ∙ lent);
    }

pub same-mirrors : (w : World) (tasks : List Task) (s s' : System) (place : ℕ) (t t' : Task) → slice_get tasks place ≡ Some t
    → IsSameTask t t' → IsSameSystem s s' → Mirrors w tasks s → Mirrors w (slice_set tasks place t') s'
same-mirrors w tasks s s' place t t' there same rest h =
    let committed : s.committer.committed ≡ w.storage.committed = ap (λ (st : Storage). st.committed) h.committer in
    let process : process_of t' ≡ process_of t =
    ap (λ (m : State). record { state = m; descriptors = []; children = []; status = status_of t' }) same.machine
    ∙ ap (λ (o : Option ℕ). record { state = machine_of t; descriptors = []; children = []; status = o }) (same-status t t' same) in
    record {
      each = subst (λ (n : ℕ). AreTasks w n (slice_set tasks place t')) (sym rest.served) (record {
        processes = map-set-same process_of tasks place t t' there process ∙ h.each.processes;
        each = λ k u at. elim (get-set tasks place k t' u at) as (λ _. IsTask w s.served k u) [
          | inl g ↦
              subst (λ (x : Task). IsTask w s.served k x) (sym g.1)
              (subst (λ (j : ℕ). IsTask w s.served j t') (sym g.0) (same-task w s.served place t t' same (h.each.each place t there)))
          | inr g ↦ h.each.each k u g.1
        ];
      });
      changes = record {
        changes = rest.changes ∙ h.changes.changes;
        formed = h.changes.formed;
        files = rest.files ∙ h.changes.files;
        made = h.changes.made;
        fresh = h.changes.fresh;
      };
      tapes = rest.tapes ∙ h.tapes;
      parts = rest.parts ∙ h.parts;
      pipes = subst (λ (y : List Seen). ArePipes w y) (sym rest.pipes) h.pipes;
      counted = subst (λ (n : ℕ). n ≤ length w.log) (sym rest.served) h.counted;
      kept = subst (λ (ms : List Marked). Keeps w.log ms) (sym rest.marks) h.kept;
      screens =
          subst (λ (c : ℕ). AreScreens c w.log s'.screens.items) committed
          (rest.screens s.committer.committed w.log (subst (λ (c : ℕ). AreScreens c w.log s.screens.items) (sym committed) h.screens));
      committer = rest.committer ∙ h.committer;
    }
