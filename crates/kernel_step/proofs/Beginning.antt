-- The parts of a kernel at boot keep what the run says before any event.
use Rattle.std.proofs.Common.{◌≡◌, ℕ, zero, suc, ◌+◌, ◌≤◌, inl, inr, List, [], ◌∷◌, ◌++◌, length, map, take, slice_get, Option, Some, None, is_some, IfSome, count_by, refl, sym, ap, subst, ◌∙◌, arith}
use Rattle.std.proofs.lemmas.List.{length_push}
use Rattle.std.specs.List.{AllByRecursion}
use Rattle.commit_deps.specs.Keeps.{Keeps}
use Rattle.disk_model.specs.Limits.{most_files}
use Rattle.pipes.specs.Seen.{Seen}
use Rattle.processes.specs.Parts.{Part, part_of, boot_part}
use Rattle.disk_model.specs.Files.{IsMade}
use Rattle.disk_model.specs.Runs.{first_storage}
use Rattle.kernel_model.specs.Answers.{Lending}
use Rattle.footprints.specs.Footprints.{AreFootprints}
use Rattle.kernel_model.specs.Entries.{Entry, Item}
use Rattle.kernel_model.specs.Shown.{end_in}
use Rattle.held_output.specs.Withheld.{Withheld, whats, nothing}
use Rattle.kernel_model.specs.State.{Process}
use Rattle.kernel_model.specs.World.{BootProgram, Boot, first_world, first_process, processes_from, tapes_of, tape_count}
use Rattle.memory_model.specs.Access.{HoldsBytes}
use Rattle.machine_model.specs.States.{State}
use Rattle.machine_model.specs.First.{first_state}
use Rattle.disk_model.specs.declared.change.NamedFile.{NamedFile}
use Rattle.disk_model.specs.Numbers.{numbered}
use Rattle.disk_model.proofs.Tidy.{tidy_after}
use Rattle.kernel_step.specs.Booting.{program_of, boot_with, nothing_lent}
use Rattle.kernel_step.specs.Represents.{KeepsRun}
use Rattle.kernel_step.specs.First.{IsFirst, AreFirst, parts_from, AreEmpty}
use Rattle.kernel_step.specs.Mirrors.{IsTask, ArePipes}
use Rattle.kernel_step.specs.Seen.{Withholds, AreScreens}
use Rattle.kernel_step.specs.Waiting.{is_asleep}
use Rattle.kernel_step.specs.Tasks.{machine_of, out_of, process_of, bare, status_of, lending_of, count_out, needed, unsettled, AreFewLoans}
use Rattle.kernel_step.specs.declared.booting.Program.{Program}
use Rattle.kernel_step.specs.declared.system.System.{System}
use Rattle.kernel_step.specs.declared.task.Task.{Task}
use Rattle.kernel_step.proofs.FewLoans.{out-lent}
use Rattle.kernel_step.proofs.Lists.{count-cons, get-snoc}

-- ---- the processes
first-status : (i : ℕ) (p : Program) (t : Task) → IsFirst i p t → status_of t ≡ None
first-status i p t h = ap (λ (w : Withheld Item). end_in (whats w.items)) h.trace

first-process : (i : ℕ) (p : Program) (t : Task) → IsFirst i p t → process_of t ≡ bare (first_process i (program_of p))
first-process i p t h = let status : status_of t ≡ None = first-status i p t h in cc

first-processes : (k : ℕ) (programs : List Program) (tasks : List Task) → length tasks ≡ length programs
    → ((i : ℕ) (t : Task) → slice_get tasks i ≡ Some t → (p : Program) × (slice_get programs i ≡ Some p) × (process_of t ≡ bare (first_process (k + i) (program_of p))))
    → map process_of tasks ≡ map bare (processes_from k (map program_of programs))
first-processes k [] [] l h = refl
first-processes k [] (t ∷ ts) l h = absurd (omega arith)
first-processes k (p ∷ ps) [] l h = absurd (omega arith)
first-processes k (p ∷ ps) (t ∷ ts) l h =
    let first = h 0 t refl in
    let same : p ≡ first.0 = cc in
    let at : k + 0 ≡ k = omega arith in
    let head : process_of t ≡ bare (first_process k (program_of p)) =
    first.2 ∙ ap (λ i. bare (first_process i (program_of first.0))) at ∙ ap (λ (q : Program). bare (first_process k (program_of q))) (sym same) in
    ap (λ (q : Process). q ∷ map process_of ts) head
    ∙ ap (λ (qs : List Process). bare (first_process k (program_of p)) ∷ qs) (first-processes (k + 1) ps ts (omega arith) (λ i u there.
    let next = h (suc i) u there in
    let place : k + suc i ≡ (k + 1) + i = omega arith in
    (next.0, next.1, next.2 ∙ ap (λ j. bare (first_process j (program_of next.0))) place)))

-- ---- the loans
first-lendings : (programs : List Program) (tasks : List Task) → length tasks ≡ length programs
    → ((i : ℕ) (t : Task) → slice_get tasks i ≡ Some t → (p : Program) × (slice_get programs i ≡ Some p) × (lending_of t ≡ nothing_lent p))
    → map lending_of tasks ≡ map nothing_lent programs
first-lendings [] [] l h = refl
first-lendings [] (t ∷ ts) l h = absurd (omega arith)
first-lendings (p ∷ ps) [] l h = absurd (omega arith)
first-lendings (p ∷ ps) (t ∷ ts) l h =
    let first = h 0 t refl in
    ap (λ (x : Lending). x ∷ map lending_of ts) first.2
    ∙ ap (λ (xs : List Lending). nothing_lent p ∷ xs) (first-lendings ps ts (omega arith) (λ i u there. h (suc i) u there))

pub lendings-first : (programs : List Program) (tasks : List Task) → AreFirst programs tasks → map lending_of tasks ≡ map nothing_lent programs
lendings-first programs tasks h = first-lendings programs tasks h.count (λ i t there.
    let one = h.each i t there in
    let loans : t.loans ≡ 0 = one.2.loans in
    let out : out_of t ≡ None = one.2.out in
    let same : lending_of t ≡ nothing_lent one.0 = cc in
    (one.0, one.1, same))

none-out : (programs : List Program) → count_by (λ (l : Lending). is_some l.out) (map nothing_lent programs) ≡ 0
none-out [] = refl
none-out (p ∷ ps) = count-cons (λ (l : Lending). is_some l.out) (nothing_lent p) (map nothing_lent ps) ∙ ap (λ n. 0 + n) (none-out ps)

pub first-out : (programs : List Program) (tasks : List Task) → AreFirst programs tasks → count_out tasks ≡ 0
first-out programs tasks h =
    sym (out-lent tasks)
    ∙ ap (λ (ls : List Lending). count_by (λ (l : Lending). is_some l.out) ls) (lendings-first programs tasks h)
    ∙ none-out programs

-- no process had a loan
none-lent : (programs : List Program) → AreFewLoans 0 (map nothing_lent programs)
none-lent programs = record { each = λ place l there. few programs place l there }
  where
    few : (ps : List Program) (place : ℕ) (l : Lending) → slice_get (map nothing_lent ps) place ≡ Some l → l.loans ≤ 0 + unsettled l.out
    few [] place l there = cc
    few (p ∷ ps) zero l there = let same : nothing_lent p ≡ l = cc in subst (λ (x : Lending). x.loans ≤ 0 + unsettled x.out) same (omega arith)
    few (p ∷ ps) (suc place) l there = few ps place l there

-- ---- the memories
each-holds : (programs : List Program) (tasks : List Task) → length tasks ≡ length programs
    → ((i : ℕ) (t : Task) → slice_get tasks i ≡ Some t → (p : Program) × (slice_get programs i ≡ Some p) × HoldsBytes (first_state p.image).architectural.memory)
    → AllByRecursion (λ (p : BootProgram). HoldsBytes p.state.architectural.memory) (map program_of programs)
each-holds [] tasks l h = tt
each-holds (p ∷ ps) [] l h = absurd (omega arith)
each-holds (p ∷ ps) (t ∷ ts) l h =
    let first = h 0 t refl in
    let same : first.0 ≡ p = cc in (
      subst (λ (q : Program). HoldsBytes (first_state q.image).architectural.memory) same first.2,
      each-holds ps ts (omega arith) (λ i u there. h (suc i) u there),
    )

pub programs-hold : (programs : List Program) (tasks : List Task) → AreFirst programs tasks
    → AllByRecursion (λ (p : BootProgram). HoldsBytes p.state.architectural.memory) (map program_of programs)
programs-hold programs tasks h = each-holds programs tasks h.count (λ i t there.
    let one = h.each i t there in
    (one.0, one.1, subst (λ (s : State). HoldsBytes s.architectural.memory) one.2.machine one.2.bytes))

-- ---- one task
first-task : (b : Boot) (served i : ℕ) (p : Program) (t : Task) → IsFirst i p t → IsTask (first_world b) served i t
first-task b served i p t h = record {
  number = h.number;
  trace = subst (λ (w : Withheld Item). Withholds 0 [] w) (sym h.trace) (record { marked = tt; committed = refl });
  budget =
      let count : (machine_of t).count ≡ 0 = ap (λ (s : State). s.count) h.machine in
      let none : needed (out_of t) ≡ 0 = ap (λ (o : Option ℕ). needed o) h.out in
      omega (arith, count, none);
  waits = ap (λ (o : Option ℕ). is_asleep served o) (sym h.waited);
  since = subst (λ (o : Option ℕ). IfSome o (λ before. before ≤ served)) (sym h.waited) tt;
  running = λ e. first-status i p t h;
}

-- ---- the parts of the processes
pub parts-first : (k : ℕ) (programs : List Program) → parts_from k programs ≡ map part_of (processes_from k (map program_of programs))
parts-first k [] = refl
parts-first k (p ∷ ps) = ap (λ (xs : List Part). boot_part k p.terminal ∷ xs) (parts-first (k + 1) ps)

-- one program more
pub parts-more : (k i : ℕ) (programs : List Program) (p : Program) → slice_get programs i ≡ Some p
    → parts_from k (take (i + 1) programs) ≡ parts_from k (take i programs) ++ boot_part (k + i) p.terminal ∷ []
parts-more k i [] p e = cc
parts-more k zero (q ∷ qs) p e =
    let same : q ≡ p = cc in
    let place : k ≡ k + 0 = omega arith in
    ap (λ (x : Program). boot_part k x.terminal ∷ []) same ∙ ap (λ (n : ℕ). boot_part n p.terminal ∷ []) place
parts-more k (suc i) (q ∷ qs) p e =
    let next : suc i + 1 ≡ suc (i + 1) = omega arith in
    let place : (k + 1) + i ≡ k + suc i = omega arith in
    ap (λ (n : ℕ). parts_from k (take n (q ∷ qs))) next
    ∙ ap (λ (xs : List Part). boot_part k q.terminal ∷ xs) (parts-more (k + 1) i qs p e)
    ∙ ap (λ (n : ℕ). boot_part k q.terminal ∷ (parts_from (k + 1) (take i qs) ++ boot_part n p.terminal ∷ [])) place

pub parts-length : (k : ℕ) (programs : List Program) → length (parts_from k programs) ≡ length programs
parts-length k [] = refl
parts-length k (p ∷ ps) = ap (λ n. suc n) (parts-length (k + 1) ps)

pub take-short : {A : Type 0} (n : ℕ) (xs : List A) → length (take n xs) ≤ length xs
take-short zero xs = omega arith
take-short (suc n) [] = omega arith
take-short (suc n) (x ∷ xs) = let rest : length (take n xs) ≤ length xs = take-short n xs in omega (arith, rest)

-- ---- the screens
first-screens : (screens : List (Withheld ℕ)) → AreEmpty 8 screens → AreScreens 0 [] screens
first-screens screens h = record {
  count = h.size;
  each = λ t s there. subst (λ (w : Withheld ℕ). Withholds 0 [] w) (sym (h.each t s there)) (record { marked = tt; committed = refl });
}

-- there are few files
few-made : (files : List NamedFile) → IsMade files → length files ≤ most_files + 0
few-made files made = let few : length files ≤ most_files = subst (λ (fs : List NamedFile). length fs ≤ most_files) (sym made.2) (tidy_after made.0 made.1).few in omega arith

-- ---- all parts
pub first-core : (programs : List Program) (tapes : List (List ℕ)) (files : List NamedFile) (disk : List ℕ) (gate : ℕ) (tasks : List Task) (s : System)
    → IsMade files → AreFirst programs tasks → AreEmpty 8 s.screens.items
    → Keeps [] s.dependencies.marks → s.footprints.footprints ≡ [] → s.changes.items ≡ [] → s.files ≡ numbered files → s.tapes ≡ tapes_of tape_count tapes
    → s.processes.parts ≡ parts_from 0 programs → s.pipes ≡ [] → s.served ≡ 0 → s.committer ≡ first_storage disk gate
    → KeepsRun (boot_with programs tapes files disk gate) [] tasks s
first-core programs tapes files disk gate tasks s made first empty keeps kept changes same_files same_tapes parts pipes served committer = record {
  mirrors = record {
    each = record {
      processes = first-processes 0 programs tasks first.count (λ i t there.
          let one = first.each i t there in
          let place : 0 + i ≡ i = omega arith in
          (one.0, one.1, first-process i one.0 t one.2 ∙ ap (λ j. bare (first_process j (program_of one.0))) (sym place)));
      each = λ i t there. let one = first.each i t there in first-task (boot_with programs tapes files disk gate) s.served i one.0 t one.2;
    };
    changes = record { changes = changes; formed = tt; files = same_files; made = made; fresh = few-made files made };
    tapes = same_tapes;
    parts = parts ∙ parts-first 0 programs;
    pipes = subst (λ (x : List Seen). ArePipes (first_world (boot_with programs tapes files disk gate)) x) (sym pipes) (record { shown = record { shown = refl; within = tt }; few = tt });
    counted = omega (arith, served);
    kept = keeps;
    screens = first-screens s.screens.items empty;
    committer = committer;
  };
  footprints = subst (λ (ks : List Entry). AreFootprints [] [] ks) (sym kept) (refl, refl);
  room = let none : count_out tasks ≡ 0 = first-out programs tasks first in omega (arith, none);
  loans = subst (λ (ls : List Lending). AreFewLoans 0 ls) (sym (lendings-first programs tasks first)) (none-lent programs);
}

-- ---- one task more
pub record FirstSo (programs : List Program) (tasks : List Task) (n : ℕ) : Type 0 where
  pub count : length tasks ≡ n
  pub each : (i : ℕ) (t : Task) → slice_get tasks i ≡ Some t → (p : Program) × (slice_get programs i ≡ Some p) × IsFirst i p t

pub first-none : (programs : List Program) → FirstSo programs [] 0
first-none programs = record { count = refl; each = λ i t there. cc }

pub first-more : (programs : List Program) (tasks tasks' : List Task) (n : ℕ) (p : Program) (t : Task) → FirstSo programs tasks n
    → slice_get programs n ≡ Some p → IsFirst n p t → tasks' ≡ tasks ++ t ∷ [] → FirstSo programs tasks' (n + 1)
first-more programs tasks tasks' n p t h there one grown = subst (λ (ts : List Task). FirstSo programs ts (n + 1)) (sym grown) (record {
  count = length_push tasks t ∙ ap (λ k. k + 1) h.count;
  each = λ i u at. elim (get-snoc tasks t i u at) [
    | inl g ↦ h.each i u g
    | inr g ↦ (let place : i ≡ n = g.0 ∙ h.count in (
      p,
      subst (λ (k : ℕ). slice_get programs k ≡ Some p) (sym place) there,
      subst (λ (k : ℕ). IsFirst k p u) (sym place) (subst (λ (v : Task). IsFirst n p v) (sym g.1) one),
    ))
  ];
})

-- ---- one screen more
pub empty-none : AreEmpty 0 []
empty-none = record { size = refl; each = λ t s there. cc }

pub empty-more : (n : ℕ) (screens screens' : List (Withheld ℕ)) (s : Withheld ℕ) → AreEmpty n screens → s ≡ nothing → screens' ≡ screens ++ s ∷ []
    → AreEmpty (n + 1) screens'
empty-more n screens screens' s h one grown = subst (λ (ss : List (Withheld ℕ)). AreEmpty (n + 1) ss) (sym grown) (record {
  size = length_push screens s ∙ ap (λ k. k + 1) h.size;
  each = λ t u at. elim (get-snoc screens s t u at) [
    | inl g ↦ h.each t u g
    | inr g ↦ g.1 ∙ one
  ];
})
