-- From an Enter of the parts to the kernel.
use Rattle.std.proofs.Common.{◌≡◌, ℕ, ◌+◌, ◌*◌, ◌^◌, ◌<◌, ◌≤◌, if◌then◌else◌, List, [], ◌∷◌, ◌++◌, length, map, Option, Some, None, is_some, nat_le, count_by, Result, Ok, Err, refl, sym, ap, subst, ◌∙◌, arith}
use Rattle.std.proofs.lemmas.List.{length_push}
use Rattle.std.proofs.lemmas.Bool.{leb-false}
use Rattle.std.specs.Prelude.{IfOk, IfErr, OnOk, OnErr}
use Rattle.footprints.specs.Footprints.{AreFootprints}
use Rattle.kernel_model.specs.Answers.{Refuses, Applies, refusal, enter_refusal, limit, outcome_of, entered, Lending, never_lent, with_child}
use Rattle.kernel_model.specs.Entries.{Entry}
use Rattle.kernel_model.specs.State.{Process, process_at}
use Rattle.kernel_model.specs.Steps.{step}
use Rattle.kernel_model.specs.World.{Boot, World, first_world, happens, after, run_of}
use Rattle.kernel_model.proofs.Runs.{after-append}
use Rattle.kernel_model.specs.declared.answer.Answer.{Answer}
use Rattle.kernel_model.specs.declared.answer.Refused.{Refused}
use Rattle.kernel_model.specs.declared.event.Event.{Event}
use Rattle.kernel_model.specs.declared.event.Event.TheVariants.{Enter}
use Rattle.kernel_step.specs.Coning.{IsFootprintNoted}
use Rattle.kernel_step.specs.Represents.{kernel_of, KeepsRun}
use Rattle.kernel_step.specs.Mirrors.{Mirrors}
use Rattle.kernel_step.specs.Tasks.{process_of, lending_of, count_out, AreFewLoans}
use Rattle.kernel_step.specs.Tests.{full_of, lent_of, enter_refusal_of}
use Rattle.kernel_step.specs.declared.system.System.{System}
use Rattle.kernel_step.specs.declared.task.Task.{Task}
use Rattle.kernel_step.proofs.EnterFine.{fine-full}
use Rattle.kernel_step.proofs.FewLoans.{out-lent, same-out, few-same, few-longer, few-child}
use Rattle.kernel_step.proofs.Lists.{count-cons}
use Rattle.kernel_step.proofs.Noting.{EnterGrows, enter-follows}
use Rattle.kernel_step.proofs.Turning.{enter-bare}

-- a process that was made is not lent
count-snoc : (ls : List Lending) → count_by (λ (l : Lending). is_some l.out) (ls ++ never_lent ∷ []) ≡ count_by (λ (l : Lending). is_some l.out) ls
count-snoc [] = refl
count-snoc (l ∷ ls) =
    count-cons (λ (x : Lending). is_some x.out) l (ls ++ never_lent ∷ [])
    ∙ ap (λ n. (if is_some l.out then 1 else 0) + n) (count-snoc ls)
    ∙ sym (count-cons (λ (x : Lending). is_some x.out) l ls)

count-child : (ls : List Lending) (o : Option ℕ) → count_by (λ (l : Lending). is_some l.out) (with_child ls o) ≡ count_by (λ (l : Lending). is_some l.out) ls
count-child ls None = refl
count-child ls (Some child) = count-snoc ls

pub child-out : (old new : List Task) (o : Option ℕ) → map lending_of new ≡ with_child (map lending_of old) o → count_out new ≡ count_out old
child-out old new o grown =
    sym (out-lent new)
    ∙ ap (λ (ls : List Lending). count_by (λ (l : Lending). is_some l.out) ls) grown
    ∙ count-child (map lending_of old) o
    ∙ out-lent old

-- the log has an entry for each event
log-more : (w : World) (es : List Event) → length (after w es).log ≡ length w.log + length es
log-more w [] = omega arith
log-more w (e ∷ es) =
    let rest : length (after (happens w e) es).log ≡ length (happens w e).log + length es = log-more (happens w e) es in
    let one : length (happens w e).log ≡ length w.log + 1 = length_push w.log (step w.sync e).entry in
    omega (arith, rest, one)

pub log-length : (b : Boot) (history : List Event) → length (run_of b history).log ≡ length history
log-length b history =
    let all : length (run_of b history).log ≡ length (first_world b).log + length history = log-more (first_world b) history in
    omega (arith, all)

pub log-short : (b : Boot) (history : List Event) (tasks : List Task) (s : System) → KeepsRun b history tasks s → length (run_of b history).log ≤ 2 ^ 40
log-short b history tasks s h =
    let size : length (run_of b history).log ≡ length history = log-length b history in
    let room : length history + 2 * count_out tasks ≤ 2 ^ 40 = h.room in
    omega (arith, size, room)

pub served-few : (b : Boot) (history : List Event) (tasks : List Task) (s : System) → KeepsRun b history tasks s → s.served < 2 ^ 63
served-few b history tasks s h =
    let short : length (run_of b history).log ≤ 2 ^ 40 = log-short b history tasks s h in
    let counted : s.served ≤ length (run_of b history).log = h.mirrors.counted in
    omega (arith, short, counted)

pub refusal-is : (b : Boot) (history : List Event) (tasks : List Task) (s : System) (last pid : ℕ) → KeepsRun b history tasks s
    → enter_refusal_of tasks (full_of (length history) tasks) pid ≡ refusal (kernel_of b history tasks last) (Enter pid)
refusal-is b history tasks s last pid h =
    ap (λ (ps : List Process). enter_refusal (process_at ps pid) (lent_of tasks pid) (full_of (length history) tasks)) h.mirrors.each.processes
    ∙ enter-bare (run_of b history).sync.processes pid (lent_of tasks pid) (full_of (length history) tasks)
    ∙ ap (λ n. enter_refusal (process_at (run_of b history).sync.processes pid) (lent_of tasks pid) (nat_le limit (length history + 2 * n))) (sym (out-lent tasks))

-- how the processes stand with their loans after an Enter
abbrev pub Grows : List Task → List Task → System → ℕ → Type 0
Grows old new s pid = (w : World) → Mirrors w old s → map lending_of new ≡ with_child (map lending_of old) (step w.sync (Enter pid)).entry.child

pub enter-core : EnterGrows → (b : Boot) (history history' : List Event) (old new : List Task) (s s' : System) (pid : ℕ) (r : Result Answer Refused)
    → KeepsRun b history old s
    → OnOk r (enter_refusal_of old (full_of (length history) old) pid ≡ None)
    → OnOk r ((w : World) → Mirrors w old s → Mirrors (happens w (Enter pid)) new s')
    → OnOk r ((w : World) → Mirrors w old s → IsFootprintNoted pid (step w.sync (Enter pid)).entry s.footprints.footprints s'.footprints.footprints)
    → OnOk r (history' ≡ history ++ Enter pid ∷ [])
    → OnOk r (Grows old new s pid)
    → OnErr r ((w : World) → Mirrors w old s → Mirrors w new s')
    → OnErr r (s'.footprints.footprints ≡ s.footprints.footprints)
    → OnErr r (history' ≡ history)
    → OnErr r (map lending_of new ≡ map lending_of old)
    → KeepsRun b history' new s'
enter-core law b history history' old new s s' pid (Ok a) h fine mirrors noted grown grows same kept stays lent =
    let space : length history + 2 * count_out old < 2 ^ 40 =
    leb-false (2 ^ 40) (length history + 2 * count_out old)
    (fine-full (process_at (map process_of old) pid) (lent_of old pid) (full_of (length history) old) fine) in
    let longer : length (history ++ Enter pid ∷ []) ≡ length history + 1 = length_push history (Enter pid) in
    let lendings = grows (run_of b history) h.mirrors in
    let out : count_out new ≡ count_out old = child-out old new (step (run_of b history).sync (Enter pid)).entry.child lendings in
    subst (λ (es : List Event). KeepsRun b es new s') (sym grown) (record {
      mirrors =
          subst (λ (v : World). Mirrors v new s') (sym (after-append (first_world b) history (Enter pid)))
          (mirrors (run_of b history) h.mirrors);
      footprints =
          subst (λ (v : World). AreFootprints (history ++ Enter pid ∷ []) v.log s'.footprints.footprints) (sym (after-append (first_world b) history (Enter pid)))
          (enter-follows law (run_of b history) history s.footprints.footprints s'.footprints.footprints pid (noted (run_of b history) h.mirrors) h.footprints);
      room = omega (arith, longer, out, space);
      loans =
          subst (λ (ls : List Lending). AreFewLoans (length (history ++ Enter pid ∷ [])) ls) (sym lendings)
          (few-child (length (history ++ Enter pid ∷ [])) (map lending_of old) (step (run_of b history).sync (Enter pid)).entry.child
          (few-longer (length history) (length (history ++ Enter pid ∷ [])) (map lending_of old) (omega (arith, longer)) h.loans));
    })
enter-core law b history history' old new s s' pid (Err why) h fine mirrors noted grown grows same kept stays lent =
    let out : count_out new ≡ count_out old = same-out old new lent in
    let was : length history + 2 * count_out old ≤ 2 ^ 40 = h.room in
    subst (λ (es : List Event). KeepsRun b es new s') (sym stays) (record {
      mirrors = same (run_of b history) h.mirrors;
      footprints = subst (λ (ks : List Entry). AreFootprints history (run_of b history).log ks) (sym kept) h.footprints;
      room = omega (arith, out, was);
      loans = few-same (length history) (length history) old new (omega arith) lent h.loans;
    })

pub enter-applies : (b : Boot) (history history' : List Event) (old new : List Task) (s : System) (last pid : ℕ) (r : Result Answer Refused)
    → KeepsRun b history old s
    → OnOk r (enter_refusal_of old (full_of (length history) old) pid ≡ None)
    → IfOk r (λ a. (w : World) → Mirrors w old s → a ≡ entered (outcome_of (step w.sync (Enter pid)).entry.item))
    → OnOk r (history' ≡ history ++ Enter pid ∷ [])
    → OnOk r (Grows old new s pid)
    → IfErr r (λ why. Refuses (enter_refusal_of old (full_of (length history) old) pid) why)
    → OnErr r (history' ≡ history)
    → OnErr r (map lending_of new ≡ map lending_of old)
    → Applies (kernel_of b history old last) (Enter pid) (kernel_of b history' new last) r
enter-applies b history history' old new s last pid (Ok a) h fine answers grown grows why stays lent = (
  sym (refusal-is b history old s last pid h) ∙ fine,
  answers (run_of b history) h.mirrors,
  ap (λ (es : List Event). kernel_of b es new last) grown
      ∙ ap (λ (ls : List Lending). record { boot = b; history = history ++ Enter pid ∷ []; lendings = ls; last_lent = last }) (grows (run_of b history) h.mirrors),
)
enter-applies b history history' old new s last pid (Err e) h fine answers grown grows why stays lent = (
  subst (λ (o : Option Refused). Refuses o e) (refusal-is b history old s last pid h) why,
  ap (λ (es : List Event). kernel_of b es new last) stays
      ∙ ap (λ (ls : List Lending). record { boot = b; history = history; lendings = ls; last_lent = last }) lent,
)
