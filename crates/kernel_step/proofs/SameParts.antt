-- The parts of a copy stand for the same run.
use Rattle.std.proofs.Common.{◌≡◌, ℕ, zero, suc, ◌+◌, ◌*◌, ◌^◌, ◌<◌, ◌≤◌, List, [], ◌∷◌, ◌++◌, length, map, take, get_or, slice_get, Some, is_some, IfSome, refl, sym, ap, subst, ◌∙◌, arith}
use Rattle.std.proofs.lemmas.List.{map-append, length-map, take_more}
use Rattle.std.proofs.Math.ListN.{get_or-map}
use Rattle.commit_deps.specs.Keeps.{Keeps}
use Rattle.commit_deps.specs.Kept.{Marked}
use Rattle.footprints.specs.Footprints.{AreFootprints}
use Rattle.kernel_model.specs.Answers.{Lending}
use Rattle.kernel_model.specs.Entries.{Entry}
use Rattle.kernel_model.specs.Shown.{told, printed, end_in}
use Rattle.kernel_model.specs.State.{Process}
use Rattle.kernel_model.specs.World.{Boot, World, run_of}
use Rattle.kernel_model.specs.declared.event.Event.{Event}
use Rattle.held_output.specs.Withheld.{Withheld, whats}
use Rattle.pipes.specs.Seen.{Seen}
use Rattle.kernel_step.specs.Copies.{TaskParts, parts_of, ScreenParts, screen_of, IsSameSystem}
use Rattle.kernel_step.specs.Mirrors.{IsTask, AreTasks, ArePipes, Mirrors}
use Rattle.kernel_step.specs.Counted.{IsCounted}
use Rattle.kernel_step.specs.Represents.{KeepsRun, Represents, kernel_of}
use Rattle.kernel_step.specs.Seen.{AreScreens}
use Rattle.kernel_step.specs.Tasks.{machine_of, out_of, process_of, status_of, lending_of, count_out, needed, AreFewLoans}
use Rattle.kernel_step.specs.Waiting.{is_asleep}
use Rattle.kernel_step.specs.declared.running.Running.{Running}
use Rattle.kernel_step.specs.declared.system.System.{System}
use Rattle.kernel_step.specs.declared.task.Task.{Task}
use Rattle.kernel_step.proofs.EnterLists.{withholds-moved}
use Rattle.kernel_step.proofs.FewLoans.{same-out}

-- ---- lists of which a function sees the same

-- one more element is copied
pub copied-more : {A B : Type 0} (f : A → B) (xs copies : List A) (i : ℕ) (x y : A) → i < length xs → x ≡ get_or xs i x → f y ≡ f x
    → map f copies ≡ take i (map f xs) → map f (copies ++ y ∷ []) ≡ take (i + 1) (map f xs)
copied-more {A} {B} f xs copies i x y below is same so =
    let within : i < length (map f xs) = omega (arith, below, length-map xs f) in
    map-append f copies (y ∷ []) ∙ (λ t. so t ++ same t ∷ [])
    ∙ ap (λ (v : B). take i (map f xs) ++ v ∷ []) (ap f is ∙ sym (get_or-map f xs i x))
    ∙ sym (take_more (map f xs) i (f x) within)

-- each element of the one stands for one of the other
each-seen : {A B : Type 0} (f : A → B) (xs ys : List A) → map f ys ≡ map f xs → (i : ℕ) (y : A) → slice_get ys i ≡ Some y
    → (x : A) × (slice_get xs i ≡ Some x) × (f y ≡ f x)
each-seen f xs [] e i y there = absurd cc
each-seen f [] (z ∷ ys) e i y there = absurd cc
each-seen f (x ∷ xs) (z ∷ ys) e zero y there = (x, refl, (let first : f z ≡ f x = cc in let is : z ≡ y = cc in ap f (sym is) ∙ first))
each-seen f (x ∷ xs) (z ∷ ys) e (suc i) y there = each-seen f xs ys (let rest : map f ys ≡ map f xs = cc in rest) i y there

-- what a function makes of that is the same
map-seen : {A B C : Type 0} (f : A → B) (g : B → C) (xs ys : List A) → map f ys ≡ map f xs → map (λ (x : A). g (f x)) ys ≡ map (λ (x : A). g (f x)) xs
map-seen f g [] [] e = refl
map-seen f g [] (y ∷ ys) e = absurd cc
map-seen f g (x ∷ xs) [] e = absurd cc
map-seen f g (x ∷ xs) (y ∷ ys) e =
    let first : f y ≡ f x = cc in
    let rest : map f ys ≡ map f xs = cc in
    (λ t. g (first t) ∷ map-seen f g xs ys rest t)

-- ---- the processes
task-same : (w : World) (served place : ℕ) (t copy : Task) → IsTask w served place t → parts_of copy ≡ parts_of t → IsTask w served place copy
task-same w served place t copy h e = record {
  number = ap (λ (p : TaskParts). p.pid) e ∙ h.number;
  trace = withholds-moved w.storage.committed w.storage.committed (told (place + 1) w.log) t.trace copy.trace
      (ap (λ (p : TaskParts). p.items) e) (ap (λ (p : TaskParts). p.committed) e ∙ h.trace.committed) h.trace;
  budget =
      let count : (machine_of copy).count ≡ (machine_of t).count = ap (λ (p : TaskParts). p.machine.count) e in
      let out : needed (out_of copy) ≡ needed (out_of t) = ap (λ (p : TaskParts). needed p.out) e in
      let before : (machine_of t).count + needed (out_of t) ≤ 2 ^ 40 = h.budget in
      omega (arith, count, out, before);
  waits = h.waits ∙ sym (ap (λ (p : TaskParts). is_asleep served p.waited) e);
  since = subst (λ (p : TaskParts). IfSome p.waited (λ before. before ≤ served)) (sym e) h.since;
  running = λ out.
      let status : status_of copy ≡ status_of t = ap (λ (p : TaskParts). end_in (whats p.items)) e in
      status ∙ h.running (sym (ap (λ (p : TaskParts). is_some p.out) e) ∙ out);
}

-- the process and its loans, of these parts alone
abbrev as-process : TaskParts → Process
as-process p = record { state = p.machine; descriptors = []; children = []; status = end_in (whats p.items) }

abbrev as-lending : TaskParts → Lending
as-lending p = record { loans = p.loans; out = p.out }

processes-same : (tasks copies : List Task) → map parts_of copies ≡ map parts_of tasks → map process_of copies ≡ map process_of tasks
processes-same tasks copies e =
    map-seen parts_of as-process tasks copies e

pub lendings-same : (tasks copies : List Task) → map parts_of copies ≡ map parts_of tasks → map lending_of copies ≡ map lending_of tasks
lendings-same tasks copies e = map-seen parts_of as-lending tasks copies e

tasks-same : (w : World) (served : ℕ) (tasks copies : List Task) → AreTasks w served tasks → map parts_of copies ≡ map parts_of tasks → AreTasks w served copies
tasks-same w served tasks copies h e = record {
  processes = processes-same tasks copies e ∙ h.processes;
  each = λ place copy there.
      let of = each-seen parts_of tasks copies e place copy there in
      task-same w served place of.0 copy (h.each place of.0 of.1) of.2;
}

-- ---- the screens
screens-same : (c : ℕ) (log : List Entry) (screens copies : List (Withheld ℕ)) → AreScreens c log screens → map screen_of copies ≡ map screen_of screens
    → AreScreens c log copies
screens-same c log screens copies h e = record {
  count = sym (length-map copies screen_of) ∙ ap (λ (ps : List ScreenParts). length ps) e ∙ length-map screens screen_of ∙ h.count;
  each = λ t copy there.
      let of = each-seen screen_of screens copies e t copy there in
      withholds-moved c c (printed t log) of.0 copy (ap (λ (p : ScreenParts). p.items) of.2)
      (ap (λ (p : ScreenParts). p.committed) of.2 ∙ (h.each t of.0 of.1).committed) (h.each t of.0 of.1);
}

-- ---- all parts
mirrors-same : (w : World) (tasks copies : List Task) (s copy : System) → Mirrors w tasks s → map parts_of copies ≡ map parts_of tasks → IsSameSystem s copy
    → Mirrors w copies copy
mirrors-same w tasks copies s copy h e same = record {
  each = subst (λ (n : ℕ). AreTasks w n copies) (sym same.served) (tasks-same w s.served tasks copies h.each e);
  changes = record {
    changes = same.changes ∙ h.changes.changes;
    formed = h.changes.formed;
    files = same.files ∙ h.changes.files;
    made = h.changes.made;
    fresh = h.changes.fresh;
  };
  tapes = same.tapes ∙ h.tapes;
  parts = same.processes ∙ h.parts;
  pipes = subst (λ (seen : List Seen). ArePipes w seen) (sym same.pipes) h.pipes;
  counted = subst (λ (n : ℕ). n ≤ length w.log) (sym same.served) h.counted;
  kept = subst (λ (ms : List Marked). Keeps w.log ms) (sym same.marks) h.kept;
  screens = screens-same w.storage.committed w.log s.screens.items copy.screens.items h.screens same.screens;
  committer = same.committer ∙ h.committer;
}

pub keeps-same : (b : Boot) (history : List Event) (tasks copies : List Task) (s copy : System) → KeepsRun b history tasks s
    → map parts_of copies ≡ map parts_of tasks → IsSameSystem s copy → KeepsRun b history copies copy
keeps-same b history tasks copies s copy h e same =
    let lendings : map lending_of copies ≡ map lending_of tasks = lendings-same tasks copies e in
    let out : count_out copies ≡ count_out tasks = same-out tasks copies lendings in
    let room : length history + 2 * count_out tasks ≤ 2 ^ 40 = h.room in
    record {
      mirrors = mirrors-same (run_of b history) tasks copies s copy h.mirrors e same;
      footprints = subst (λ (ks : List Entry). AreFootprints history (run_of b history).log ks) (sym same.footprints) h.footprints;
      room = omega (arith, out, room);
      loans = subst (λ (ls : List Lending). AreFewLoans (length history) ls) (sym lendings) h.loans;
    }

-- a copy stands for the run for which the parts stand
pub copied-stands : (b : Boot) (r copy : Running) → Represents b r → copy.history.items ≡ r.history.items → copy.ran ≡ r.ran → copy.out ≡ r.out
    → map parts_of copy.tasks.items ≡ map parts_of r.tasks.items → IsSameSystem r.system copy.system → Represents b copy
copied-stands b r copy h history ran out tasks system = record {
  parts = subst (λ (es : List Event). KeepsRun b es copy.tasks.items copy.system) (sym history)
      (keeps-same b r.history.items r.tasks.items copy.tasks.items r.system copy.system h.parts tasks system);
  counted = subst (λ (es : List Event). IsCounted b es copy.ran) (sym history) (subst (λ (n : ℕ). IsCounted b r.history.items n) (sym ran) h.counted);
  out = out ∙ h.out ∙ sym (same-out r.tasks.items copy.tasks.items (lendings-same r.tasks.items copy.tasks.items tasks));
}

-- and is the same kernel to its callers
pub copied-kernel : (b : Boot) (history copied : List Event) (tasks copies : List Task) (last : ℕ) → copied ≡ history
    → map parts_of copies ≡ map parts_of tasks → kernel_of b copied copies last ≡ kernel_of b history tasks last
copied-kernel b history copied tasks copies last same e =
    let lendings : map lending_of copies ≡ map lending_of tasks = lendings-same tasks copies e in
    (λ t. record { boot = b; history = same t; lendings = lendings t; last_lent = last })
