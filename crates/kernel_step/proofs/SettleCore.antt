-- From a loan's result in the parts to the kernel.
use Rattle.std.proofs.Common.{◌≡◌, ℕ, zero, suc, ◌+◌, ◌*◌, ◌^◌, ◌<◌, ◌≤◌, Bool, true, false, if◌then◌else◌, List, [], ◌∷◌, ◌++◌, length, map, slice_get, slice_set, Option, Some, None, is_some, option_map, option_to_list, refl, sym, ap, subst, ◌∙◌, arith, length-append, append_assoc}
use Rattle.std.proofs.lemmas.List.{map-set}
use Rattle.disk_model.proofs.Lists.{set_same}
use Rattle.machine_model.specs.States.{State, reached_at, run, stopped_at}
use Rattle.machine_model.specs.declared.stop.Stop.{Stop}
use Rattle.kernel_model.specs.Answers.{Kernel, Lending, lending_at, quantum_out, outcome_of, now, with_child, with_event, with_events}
use Rattle.kernel_model.specs.Loans.{LoanResult, IsOfLoan, loans_in, put_lending, events_of, returned, settled, settled_answer, outcome_after}
use Rattle.kernel_model.specs.State.{Process, process_at}
use Rattle.kernel_model.specs.Steps.{step}
use Rattle.kernel_model.specs.World.{Boot, World, first_world, happens, after, run_of}
use Rattle.kernel_model.proofs.Runs.{after-append, after-after, now-with_event}
use Rattle.kernel_model.specs.declared.answer.Answer.{Answer}
use Rattle.kernel_model.specs.declared.answer.Answer.TheVariants as answer_of
use Rattle.kernel_model.specs.declared.answer.Outcome.{Outcome}
use Rattle.kernel_model.specs.declared.event.Event.{Event}
use Rattle.kernel_model.specs.declared.event.Event.TheVariants.{Turn, Enter}
use Rattle.commit_deps.specs.Kept.{Kept}
use Rattle.footprints.specs.Footprints.{AreFootprints}
use Rattle.kernel_model.specs.Entries.{Entry}
use Rattle.kernel_step.specs.Represents.{kernel_of, KeepsRun}
use Rattle.kernel_step.specs.Entering.{IsSameTask, IsSameSystem}
use Rattle.kernel_step.specs.Loaned.{loan_result}
use Rattle.kernel_step.specs.Mirrors.{Mirrors}
use Rattle.kernel_step.specs.Settling.{IsLoanOf, IsBack, IsTurnNoted, IsCallSettled, IsNotSettled}
use Rattle.kernel_step.specs.Tasks.{machine_of, out_of, process_of, lending_of, count_out, unsettled, AreFewLoans}
use Rattle.kernel_step.specs.declared.loan.Done.{Done}
use Rattle.kernel_step.specs.declared.running.Running.{Running}
use Rattle.kernel_step.specs.declared.system.System.{System}
use Rattle.kernel_step.specs.declared.task.Task.{Task}
use Rattle.kernel_step.proofs.EnterCore.{child-out}
use Rattle.kernel_step.proofs.EnterWorld.{EnterLaws, same-mirrors, same-lendings}
use Rattle.kernel_step.proofs.FewLoans.{same-out, few-longer, few-same, few-put, few-at, few-child}
use Rattle.kernel_step.proofs.Lists.{get-map, count-cons, some-there}
use Rattle.kernel_step.proofs.Noting.{TurnGrows, EnterGrows, turn-follows, enter-follows}
use Rattle.kernel_step.proofs.SettleWorld.{run-reaches, out-running, back-mirrors, both-run}
use Rattle.kernel_step.proofs.Turning.{IsProcessOf, process-there, turn-child}

-- ---- whose loan a result is of
pub lending-of : (tasks : List Task) (pid place : ℕ) (t : Task) → pid ≡ place + 1 → slice_get tasks place ≡ Some t
    → lending_at (map lending_of tasks) pid ≡ Some (lending_of t)
lending-of tasks pid place t number there =
    let next : pid ≡ suc place = omega arith in
    rw next (get-map lending_of tasks place t there)

pub process-in : (b : Boot) (history : List Event) (tasks : List Task) (s : System) (pid place : ℕ) (t : Task) → KeepsRun b history tasks s
    → pid ≡ place + 1 → slice_get tasks place ≡ Some t → IsProcessOf (run_of b history).sync.processes pid t
process-in b history tasks s pid place t h number there = process-there (run_of b history) s.served tasks pid place t h.mirrors.each number there

state-in : (b : Boot) (history : List Event) (tasks : List Task) (s : System) (pid place : ℕ) (t : Task) → KeepsRun b history tasks s
    → pid ≡ place + 1 → slice_get tasks place ≡ Some t
    → option_map (λ (p : Process). p.state) (process_at (run_of b history).sync.processes pid) ≡ Some (machine_of t)
state-in b history tasks s pid place t h number there =
    let of : IsProcessOf (run_of b history).sync.processes pid t = process-in b history tasks s pid place t h number there in
    ap (λ (o : Option Process). option_map (λ (p : Process). p.state) o) of.there ∙ ap (λ (x : State). Some x) of.state

pub own-loan : (b : Boot) (history : List Event) (tasks : List Task) (s : System) (last place : ℕ) (t : Task) (d : Done) → KeepsRun b history tasks s
    → d.pid ≡ place + 1 → slice_get tasks place ≡ Some t → IsLoanOf t d → IsOfLoan (kernel_of b history tasks last) (loan_result d)
own-loan b history tasks s last place t d h number there of = record {
  lent = ap quantum_out (lending-of tasks d.pid place t number there) ∙ of.out;
  number = sym of.number ∙ sym (ap loans_in (lending-of tasks d.pid place t number there));
  began = state-in b history tasks s d.pid place t h number there ∙ ap (λ (x : State). Some x) of.began;
}

pub loan-own : (b : Boot) (history : List Event) (tasks : List Task) (s : System) (last place : ℕ) (t : Task) (d : Done) → KeepsRun b history tasks s
    → d.pid ≡ place + 1 → slice_get tasks place ≡ Some t → IsOfLoan (kernel_of b history tasks last) (loan_result d) → IsLoanOf t d
loan-own b history tasks s last place t d h number there of =
    let began : Some (machine_of t) ≡ Some d.began.value = sym (state-in b history tasks s d.pid place t h number there) ∙ of.began in
    record {
      out = sym (ap quantum_out (lending-of tasks d.pid place t number there)) ∙ of.lent;
      number = sym (of.number ∙ ap loans_in (lending-of tasks d.pid place t number there));
      began = cc;
    }

-- ---- what a result that is taken back does to the parts
-- the kernel after the events, where they made this process, if they made one
abbrev pub later_core : Kernel → Done → Option ℕ → Kernel
later_core k d child = record k { history = k.history ++ events_of (loan_result d); lendings = with_child k.lendings child }

pub record IsTaken (b : Boot) (history history' : List Event) (tasks new : List Task) (last place : ℕ) (t u : Task) (s' : System) (d : Done) (a : Answer) : Type 0 where
  pub grown : history' ≡ history ++ events_of (loan_result d)
  pub mirrors : Mirrors (after (run_of b history) (events_of (loan_result d))) new s'
  pub footprints : AreFootprints (history ++ events_of (loan_result d)) (after (run_of b history) (events_of (loan_result d))).log s'.footprints.footprints
  pub child : Option ℕ
  pub lendings : map lending_of new ≡ with_child (map lending_of (slice_set tasks place u)) child
  pub settled_is : settled (kernel_of b history tasks last) (loan_result d) ≡ later_core (returned (kernel_of b history tasks last) d.pid) d child
  pub loans : u.loans ≡ t.loans
  pub out : out_of u ≡ None
  pub answer : a ≡ settled_answer (kernel_of b history tasks last) (loan_result d)

events-none : (d : Done) → stopped_at d.machine ≡ None → events_of (loan_result d) ≡ Turn d.pid d.count ∷ []
events-none d stands = ap (λ (o : Option Stop). Turn d.pid d.count ∷ (if is_some o then Enter d.pid ∷ [] else [])) stands

events-some : (d : Done) (at : Stop) → stopped_at d.machine ≡ Some at → events_of (loan_result d) ≡ Turn d.pid d.count ∷ Enter d.pid ∷ []
events-some d at stands = ap (λ (o : Option Stop). Turn d.pid d.count ∷ (if is_some o then Enter d.pid ∷ [] else [])) stands

pub reached : (t : Task) (d : Done) → IsLoanOf t d → d.machine ≡ (run d.count (machine_of t)).state
reached t d of =
    sym (run-reaches d.quantum (machine_of t) d.machine d.count (reached_at d.count d.machine d.stop)
    (ap (run d.quantum) of.began ∙ d.ran) refl refl)

-- the kernel after the events of a result
settled-turn : (k : Kernel) (d : Done) → stopped_at d.machine ≡ None → settled k (loan_result d) ≡ later_core (returned k d.pid) d None
settled-turn k d stands =
    let es = events-none d stands in
    let r : Kernel = returned k d.pid in
    ap (λ (xs : List Event). with_events r xs) es
    ∙ ap (λ (o : Option ℕ). record r { history = r.history ++ Turn d.pid d.count ∷ []; lendings = with_child r.lendings o }) (turn-child (now r).sync d.pid d.count)
    ∙ ap (λ (xs : List Event). record r { history = r.history ++ xs }) (sym es)

settled-enter : (k : Kernel) (d : Done) (at : Stop) (child : Option ℕ) → stopped_at d.machine ≡ Some at
    → child ≡ (step (happens (now k) (Turn d.pid d.count)).sync (Enter d.pid)).entry.child → settled k (loan_result d) ≡ later_core (returned k d.pid) d child
settled-enter k d at child stands is =
    let es = events-some d at stands in
    let r : Kernel = returned k d.pid in
    let turned : Kernel = record r { history = r.history ++ Turn d.pid d.count ∷ [] } in
    let one : with_event r (Turn d.pid d.count) ≡ turned =
    ap (λ (o : Option ℕ). record r { history = r.history ++ Turn d.pid d.count ∷ []; lendings = with_child r.lendings o }) (turn-child (now r).sync d.pid d.count) in
    let made : (step (now turned).sync (Enter d.pid)).entry.child ≡ child =
    ap (λ (x : World). (step x.sync (Enter d.pid)).entry.child) (after-append (first_world k.boot) k.history (Turn d.pid d.count)) ∙ sym is in
    ap (λ (xs : List Event). with_events r xs) es
    ∙ ap (λ (x : Kernel). with_event x (Enter d.pid)) one
    ∙ ap (λ (o : Option ℕ). record turned { history = turned.history ++ Enter d.pid ∷ []; lendings = with_child r.lendings o }) made
    ∙ ap (λ (xs : List Event). record r { history = xs; lendings = with_child r.lendings child }) (append_assoc r.history (Turn d.pid d.count ∷ []) (Enter d.pid ∷ []))
    ∙ ap (λ (xs : List Event). record r { history = r.history ++ xs; lendings = with_child r.lendings child }) (sym es)

-- the footprints after its Turn
turned-footprints : TurnGrows → (b : Boot) (history : List Event) (tasks : List Task) (s : System) (place : ℕ) (t : Task) (d : Done)
    → KeepsRun b history tasks s → d.pid ≡ place + 1 → slice_get tasks place ≡ Some t → IsLoanOf t d
    → AreFootprints (history ++ Turn d.pid d.count ∷ []) (happens (run_of b history) (Turn d.pid d.count)).log s.footprints.footprints
turned-footprints law b history tasks s place t d h number there of =
    let own : IsProcessOf (run_of b history).sync.processes d.pid t = process-in b history tasks s d.pid place t h number there in
    turn-follows law (run_of b history) history s.footprints.footprints d.pid d.count own.process own.there
    (ap (λ (o : Option ℕ). is_some o) own.status
    ∙ ap (λ (o : Option ℕ). is_some o) (out-running (run_of b history) s.served place t d.quantum (h.mirrors.each.each place t there) of.out))
    h.footprints

pub turn-taken : TurnGrows → (b : Boot) (history history' : List Event) (tasks : List Task) (s s' : System) (last place : ℕ) (t u : Task) (d : Done) (a : Answer)
    → KeepsRun b history tasks s → d.pid ≡ place + 1 → slice_get tasks place ≡ Some t → IsLoanOf t d → stopped_at d.machine ≡ None
    → IsBack d.machine t u → IsTurnNoted d.pid s s' → history' ≡ history ++ Turn d.pid d.count ∷ []
    → a ≡ answer_of.Settled d.count d.stop None
    → IsTaken b history history' tasks (slice_set tasks place u) last place t u s' d a
turn-taken law b history history' tasks s s' last place t u d a h number there of stands back noted grown answer =
    let es = events-none d stands in
    record {
      grown = grown ∙ ap (λ (xs : List Event). history ++ xs) (sym es);
      mirrors =
          subst (λ (xs : List Event). Mirrors (after (run_of b history) xs) (slice_set tasks place u) s') (sym es)
          (back-mirrors (run_of b history) tasks s s' d.pid place d.count d.quantum d.machine t u h.mirrors number there of.out (reached t d of) d.room back noted);
      footprints =
          subst (λ (xs : List Event). AreFootprints (history ++ xs) (after (run_of b history) xs).log s'.footprints.footprints) (sym es)
          (subst (λ (ks : List Entry). AreFootprints (history ++ Turn d.pid d.count ∷ []) (happens (run_of b history) (Turn d.pid d.count)).log ks) (sym noted.footprints)
          (turned-footprints law b history tasks s place t d h number there of));
      child = None;
      lendings = refl;
      settled_is = settled-turn (kernel_of b history tasks last) d stands;
      loans = back.loans;
      out = back.out;
      answer =
          answer
          ∙ sym (ap (λ (o : Option Stop). answer_of.Settled d.count d.stop
          (if is_some o then Some (outcome_after (kernel_of b history tasks last) d.pid d.count) else None)) stands);
    }

pub enter-taken : EnterLaws → TurnGrows → EnterGrows → (b : Boot) (old new : Running) (place : ℕ) (d : Done) (at : Stop) (a : Answer)
    → KeepsRun b old.history.items old.tasks.items old.system → d.pid ≡ place + 1 → stopped_at d.machine ≡ Some at
    → (e : IsCallSettled d place old new a) → IsLoanOf e.task d
    → IsTaken b old.history.items new.history.items old.tasks.items new.tasks.items old.last_lent place e.task e.after new.system d a
enter-taken laws turns enters b old new place d at a h number stands e of =
    let history : List Event = old.history.items in
    let tasks : List Task = old.tasks.items in
    let s' : System = new.system in
    let es = events-some d at stands in
    let w : World = run_of b history in
    let k : Kernel = kernel_of b history tasks old.last_lent in
    let t : Task = e.task in
    let u : Task = e.after in
    let both = both-run laws w tasks old.system s' d.pid place d.count d.quantum d.machine t u e.outcome e.child h.mirrors number e.there of.out (reached t d of) d.room
    (ap (λ (x : Option Stop). is_some x) stands) e.entered in
    let done = e.entered.entered in
    let outcome : e.outcome ≡ outcome_after k d.pid d.count =
    both.outcome_is ∙ sym (ap (λ (x : World). outcome_of (step x.sync (Enter d.pid)).entry.item) (now-with_event k (Turn d.pid d.count))) in
    let same : map lending_of (slice_set tasks place e.entered.middle) ≡ map lending_of (slice_set tasks place u) =
    map-set lending_of tasks place e.entered.middle
    ∙ ap (λ (n : ℕ). slice_set (map lending_of tasks) place (record { loans = n; out = out_of e.entered.middle })) (sym done.told.loans)
    ∙ ap (λ (o : Option ℕ). slice_set (map lending_of tasks) place (record { loans = u.loans; out = o })) (sym done.told.out)
    ∙ sym (map-set lending_of tasks place u) in
    record {
      grown = e.history ∙ ap (λ (xs : List Event). history ++ xs) (sym es);
      mirrors =
          subst (λ (ts : List Task). Mirrors (after w (events_of (loan_result d))) ts s') (sym e.tasks)
          (subst (λ (xs : List Event). Mirrors (after w xs) (slice_set tasks place u ++ option_to_list e.child) s') (sym es) both.mirrors);
      footprints =
          subst (λ (xs : List Event). AreFootprints (history ++ xs) (after w xs).log s'.footprints.footprints) (sym es)
          (subst (λ (xs : List Event). AreFootprints xs (happens (happens w (Turn d.pid d.count)) (Enter d.pid)).log s'.footprints.footprints)
          (append_assoc history (Turn d.pid d.count ∷ []) (Enter d.pid ∷ []))
          (enter-follows enters (happens w (Turn d.pid d.count)) (history ++ Turn d.pid d.count ∷ []) old.system.footprints.footprints s'.footprints.footprints d.pid
          both.footprint (turned-footprints turns b history tasks old.system place t d h number e.there of)));
      child = both.child;
      lendings =
          ap (λ (ts : List Task). map lending_of ts) e.tasks
          ∙ both.lendings
          ∙ ap (λ (ls : List Lending). with_child ls both.child) same;
      settled_is = settled-enter k d at both.child stands both.child_is;
      loans = done.told.loans ∙ e.entered.back.loans;
      out = done.told.out ∙ e.entered.back.out;
      answer =
          e.answer
          ∙ ap (λ (x : Outcome). answer_of.Settled d.count d.stop (Some x)) outcome
          ∙ sym (ap (λ (x : Option Stop). answer_of.Settled d.count d.stop (if is_some x then Some (outcome_after k d.pid d.count) else None)) stands);
    }

-- ---- the kernel
pub count-back : (tasks : List Task) (place q : ℕ) (t u : Task) → slice_get tasks place ≡ Some t → out_of t ≡ Some q → out_of u ≡ None
    → count_out (slice_set tasks place u) + 1 ≡ count_out tasks
count-back [] place q t u there out none = cc
count-back (x ∷ xs) zero q t u there out none =
    let same : x ≡ t = cc in
    let was : count_out (x ∷ xs) ≡ 1 + count_out xs =
    count-cons (λ (v : Task). is_some (out_of v)) x xs
    ∙ ap (λ (o : Option ℕ). (if is_some o then 1 else 0) + count_out xs) (ap out_of same ∙ out) in
    let is : count_out (u ∷ xs) ≡ 0 + count_out xs =
    count-cons (λ (v : Task). is_some (out_of v)) u xs
    ∙ ap (λ (o : Option ℕ). (if is_some o then 1 else 0) + count_out xs) none in
    omega (arith, was, is)
count-back (x ∷ xs) (suc place) q t u there out none =
    let rest : count_out (slice_set xs place u) + 1 ≡ count_out xs = count-back xs place q t u there out none in
    let was = count-cons (λ (v : Task). is_some (out_of v)) x xs in
    let is = count-cons (λ (v : Task). is_some (out_of v)) x (slice_set xs place u) in
    omega (arith, was, is, rest)

few-events : (r : LoanResult) → length (events_of r) ≤ 2
few-events r = by (is_some (stopped_at r.reached.state))
  where
    by : (b : Bool) → length (Turn r.process r.reached.count ∷ (if b then Enter r.process ∷ [] else [])) ≤ 2
    by true = omega arith
    by false = omega arith

some-events : (r : LoanResult) → 1 ≤ length (events_of r)
some-events r = by (is_some (stopped_at r.reached.state))
  where
    by : (b : Bool) → 1 ≤ length (Turn r.process r.reached.count ∷ (if b then Enter r.process ∷ [] else []))
    by true = omega arith
    by false = omega arith

-- the loan is back, and has come to an event
settled-loans : (n m q : ℕ) (tasks : List Task) (place : ℕ) (t u : Task) → n + 1 ≤ m → slice_get tasks place ≡ Some t → out_of t ≡ Some q
    → u.loans ≡ t.loans → AreFewLoans n (map lending_of tasks) → AreFewLoans m (map lending_of (slice_set tasks place u))
settled-loans n m q tasks place t u more there out same h =
    let had : t.loans ≤ n + 1 = subst (λ (o : Option ℕ). t.loans ≤ n + unsettled o) out (few-at n tasks place t h there) in
    few-put m tasks place u (omega (arith, more, had, same)) (few-longer n m (map lending_of tasks) (omega (arith, more)) h)

-- one loan fewer is out
pub taken-out : (b : Boot) (history history' : List Event) (tasks new : List Task) (last place : ℕ) (t u : Task) (s' : System) (d : Done) (a : Answer)
    → slice_get tasks place ≡ Some t → IsLoanOf t d → IsTaken b history history' tasks new last place t u s' d a
    → count_out new + 1 ≡ count_out tasks
taken-out b history history' tasks new last place t u s' d a there of taken =
    ap (λ (n : ℕ). n + 1) (child-out (slice_set tasks place u) new taken.child taken.lendings)
    ∙ count-back tasks place d.quantum t u there of.out taken.out

pub taken-core : (b : Boot) (history history' : List Event) (tasks new : List Task) (s s' : System) (last place : ℕ) (t u : Task) (d : Done) (a : Answer)
    → KeepsRun b history tasks s → slice_get tasks place ≡ Some t → IsLoanOf t d → IsTaken b history history' tasks new last place t u s' d a
    → KeepsRun b history' new s'
taken-core b history history' tasks new s s' last place t u d a h there of taken =
    let es : List Event = events_of (loan_result d) in
    let was : length history + 2 * count_out tasks ≤ 2 ^ 40 = h.room in
    let less : count_out new + 1 ≡ count_out tasks = taken-out b history history' tasks new last place t u s' d a there of taken in
    let few : length es ≤ 2 = few-events (loan_result d) in
    let longer : length (history ++ es) ≡ length history + length es = length-append history es in
    subst (λ (xs : List Event). KeepsRun b xs new s') (sym taken.grown) (record {
      mirrors =
          subst (λ (v : World). Mirrors v new s') (sym (after-after (first_world b) history es)) taken.mirrors;
      footprints =
          subst (λ (v : World). AreFootprints (history ++ es) v.log s'.footprints.footprints) (sym (after-after (first_world b) history es)) taken.footprints;
      room = omega (arith, was, less, few, longer);
      loans =
          subst (λ (ls : List Lending). AreFewLoans (length (history ++ es)) ls) (sym taken.lendings)
          (few-child (length (history ++ es)) (map lending_of (slice_set tasks place u)) taken.child
          (settled-loans (length history) (length (history ++ es)) d.quantum tasks place t u (omega (arith, longer, some-events (loan_result d))) there of.out taken.loans h.loans));
    })

pub taken-events : (b : Boot) (history history' : List Event) (tasks new : List Task) (s' : System) (last place : ℕ) (t u : Task) (d : Done) (a : Answer)
    → d.pid ≡ place + 1 → slice_get tasks place ≡ Some t → IsTaken b history history' tasks new last place t u s' d a
    → kernel_of b history' new last ≡ settled (kernel_of b history tasks last) (loan_result d)
taken-events b history history' tasks new s' last place t u d a number there taken =
    let next : d.pid ≡ suc place = omega arith in
    let count : loans_in (lending_at (map lending_of tasks) d.pid) ≡ t.loans = ap loans_in (lending-of tasks d.pid place t number there) in
    let lendings : map lending_of (slice_set tasks place u)
    ≡ put_lending (map lending_of tasks) d.pid (record { loans = loans_in (lending_at (map lending_of tasks) d.pid); out = None }) =
    map-set lending_of tasks place u
    ∙ ap (λ n. slice_set (map lending_of tasks) place (record { loans = n; out = out_of u })) (taken.loans ∙ sym count)
    ∙ ap (λ (o : Option ℕ). slice_set (map lending_of tasks) place (record { loans = loans_in (lending_at (map lending_of tasks) d.pid); out = o })) taken.out
    ∙ sym (ap (λ n. put_lending (map lending_of tasks) n (record { loans = loans_in (lending_at (map lending_of tasks) d.pid); out = None })) next) in
    ap (λ (xs : List Event). kernel_of b xs new last) taken.grown
    ∙ ap (λ (ls : List Lending). record { boot = b; history = history ++ events_of (loan_result d); lendings = ls; last_lent = last })
    (taken.lendings ∙ ap (λ (ls : List Lending). with_child ls taken.child) lendings)
    ∙ sym taken.settled_is

-- the same of some task at the place
pub record IsTakenOf (b : Boot) (history history' : List Event) (tasks new : List Task) (last place : ℕ) (s' : System) (d : Done) (a : Answer) : Type 0 where
  pub task : Task
  pub after : Task
  pub there : slice_get tasks place ≡ Some task
  pub of : IsLoanOf task d
  pub taken : IsTaken b history history' tasks new last place task after s' d a

-- a result that is not taken back changes nothing
pub kept-out : (tasks : List Task) (place : ℕ) (t u : Task) → slice_get tasks place ≡ Some t → IsSameTask t u
    → count_out (slice_set tasks place u) ≡ count_out tasks
kept-out tasks place t u there same = same-out tasks (slice_set tasks place u) (same-lendings tasks place t u there same.loans same.out)

pub kept-core : (b : Boot) (history history' : List Event) (tasks : List Task) (s s' : System) (place : ℕ) (t u : Task)
    → KeepsRun b history tasks s → slice_get tasks place ≡ Some t → history' ≡ history → IsSameTask t u → IsSameSystem s s'
    → KeepsRun b history' (slice_set tasks place u) s'
kept-core b history history' tasks s s' place t u h there same_history same rest =
    let lendings = same-lendings tasks place t u there same.loans same.out in
    let out : count_out (slice_set tasks place u) ≡ count_out tasks = kept-out tasks place t u there same in
    let was : length history + 2 * count_out tasks ≤ 2 ^ 40 = h.room in
    subst (λ (xs : List Event). KeepsRun b xs (slice_set tasks place u) s') (sym same_history) (record {
      mirrors = same-mirrors (run_of b history) tasks s s' place t u there same rest h.mirrors;
      footprints = subst (λ (ks : List Entry). AreFootprints history (run_of b history).log ks) (sym rest.footprints) h.footprints;
      room = omega (arith, out, was);
      loans = few-same (length history) (length history) tasks (slice_set tasks place u) (omega arith) lendings h.loans;
    })

pub kept-kernel : (b : Boot) (history history' : List Event) (tasks : List Task) (last place : ℕ) (t u : Task)
    → slice_get tasks place ≡ Some t → history' ≡ history → IsSameTask t u
    → kernel_of b history' (slice_set tasks place u) last ≡ kernel_of b history tasks last
kept-kernel b history history' tasks last place t u there same_history same =
    ap (λ (xs : List Event). kernel_of b xs (slice_set tasks place u) last) same_history
    ∙ ap (λ (ls : List Lending). record { boot = b; history = history; lendings = ls; last_lent = last })
    (same-lendings tasks place t u there same.loans same.out)

-- a task that is the same as it was
pub same-task-as : (t : Task) → IsSameTask t t
same-task-as t =
    record { pid = refl; machine = refl; trace = record { items = refl; committed = refl }; waited = refl; loans = refl; out = refl }

-- only room was taken for what the marks say
pub only-room : (s : System) (d : Kept) → d.marks ≡ s.dependencies.marks → IsSameSystem s (record s { dependencies = d })
only-room s d marks = record {
  marks = marks;
  footprints = refl;
  changes = refl;
  files = refl;
  tapes = refl;
  pipes = refl;
  parts = refl;
  served = refl;
  committer = refl;
  screens = λ committed log screens. screens;
}

-- no task has changed
pub unsettled-same : (old new : Running) (place : ℕ) → place < length old.tasks.items → new.tasks.items ≡ old.tasks.items → IsSameSystem old.system new.system
    → new.history.items ≡ old.history.items → new.ran ≡ old.ran → new.out ≡ old.out → new.last_lent ≡ old.last_lent → IsNotSettled place old new
unsettled-same old new place within is system history ran out last =
    let one = some-there old.tasks.items place within in
    record {
      task = one.0;
      there = one.1;
      after = one.0;
      same = same-task-as one.0;
      tasks = is ∙ sym (set_same old.tasks.items place one.0 one.1);
      system = system;
      history = history;
      ran = ran;
      out = out;
      last_lent = last;
    }

-- ---- strangers
not-out : (tasks : List Task) (pid : ℕ) → process_at (map process_of tasks) pid ≡ None → lending_at (map lending_of tasks) pid ≡ None
not-out tasks zero h = refl
not-out [] (suc k) h = refl
not-out (t ∷ ts) (suc zero) h = cc
not-out (t ∷ ts) (suc (suc k)) h = not-out ts (suc k) h

-- a process that is not there is out on no loan
pub not-there : (b : Boot) (history : List Event) (tasks : List Task) (last : ℕ) (d : Done) → process_at (map process_of tasks) d.pid ≡ None
    → IsOfLoan (kernel_of b history tasks last) (loan_result d) → ⊥
not-there b history tasks last d none own = let out : None ≡ Some d.quantum = sym (ap quantum_out (not-out tasks d.pid none)) ∙ own.lent in cc

pub get-one : {A : Type 0} (xs : List A) (i : ℕ) (x y : A) → slice_get xs i ≡ Some x → slice_get xs i ≡ Some y → x ≡ y
get-one xs i x y h g = let same : Some x ≡ Some y = sym h ∙ g in cc
