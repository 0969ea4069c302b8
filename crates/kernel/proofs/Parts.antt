-- What becomes of a core's parts.
use Rattle.std.proofs.Common.{◌≡◌, ℕ, ◌+◌, ◌*◌, ◌≤◌, Bool, true, false, List, [], ◌∷◌, ◌++◌, length, is_some, Option, Some, None, Result, Ok, Err, sym, ap, subst, ◌∙◌, arith}
use Rattle.std.specs.Prelude.{◌^◌, if◌then◌else◌, IfOk, OnOk, OnErr}
use Rattle.std.specs.List.{AllByRecursion}
use Rattle.std.proofs.lemmas.List.{length-append}
use Rattle.std.proofs.lemmas.List.Sums.{sum_by-append}
use Rattle.disk_model.proofs.Lists.{each_append}
use Rattle.machine_model.specs.States.{stopped_at}
use Rattle.kernel_model.specs.Answers.{Kernel, Lending, Applies, AllAccepted, at_boot, now, committed, changes}
use Rattle.kernel_model.specs.Loans.{LoanOut, LoanResult, Lends, returned, events_of}
use Rattle.kernel_model.specs.Ran.{ran_by_turns, ran_in}
use Rattle.kernel_model.proofs.Runs.{ran-with_event, history-with_events}
use Rattle.kernel_model.specs.Rows.{most_processes}
use Rattle.kernel_model.specs.World.{Boot}
use Rattle.kernel_model.specs.declared.answer.Answer.{Answer}
use Rattle.kernel_model.specs.declared.answer.Refused.{Refused}
use Rattle.kernel_model.specs.declared.event.Event.{Event}
use Rattle.kernel_model.specs.declared.event.Event.TheVariants.{Turn, Enter}
use Rattle.kernel_step.specs.Loaned.{loan_result, LendsAgain}
use Rattle.kernel_step.specs.Represents.{Represents, Steps, TakesBack, kernel_in}
use Rattle.kernel_step.proofs.FewLoans.{out-lent}
use Rattle.kernel_step.specs.declared.loan.Done.{Done}
use Rattle.kernel_step.specs.declared.loan.Rejected.{Rejected}
use Rattle.kernel_step.specs.declared.running.Running.{Running}
use Rattle.kernel.specs.Keeping.{KeepsLimits}
use Rattle.kernel.specs.Parts.{IsCore}
use Rattle.kernel.specs.Sums.{process_of_turn, process_of_enter, sum_of_turns, sum_of_enters, tells_enter}
use Rattle.kernel.specs.declared.sums.Sums.{Sums}
use Rattle.kernel.proofs.Accepting.{accepted-from-boot, number-few, turns-of, enters-of}

-- the history stays
pub still-core : (b : Boot) (old new : Running) (sums : Sums) → IsCore b old sums → Represents b new → new.history.items ≡ old.history.items → IsCore b new sums
still-core b old new sums h stands same = record {
  booted = h.booted;
  stands = stands;
  accepted = subst (λ (es : List Event). AllAccepted (at_boot b) es) (sym same) h.accepted;
  turns = h.turns ∙ ap sum_of_turns (sym same);
  enters = h.enters ∙ ap sum_of_enters (sym same);
  numbers = subst (λ (es : List Event). AllByRecursion (λ e. process_of_turn e + process_of_enter e ≤ most_processes) es) (sym same) h.numbers;
  few = let size : length new.history.items ≡ length old.history.items = ap (λ (es : List Event). length es) same in
      let few = h.few in
      omega (arith, few, size);
}

-- these events join the history, each accepted where it stands
grown-core : (b : Boot) (old new : Running) (sums later : Sums) (lendings : List Lending) (last : ℕ) (es : List Event) → IsCore b old sums → Represents b new
    → AllAccepted (record { boot = b; history = old.history.items; lendings = lendings; last_lent = last }) es → new.history.items ≡ old.history.items ++ es
    → later.turns ≡ sums.turns + sum_of_turns es → later.enters ≡ sums.enters + sum_of_enters es
    → AllByRecursion (λ e. process_of_turn e + process_of_enter e ≤ most_processes) es → sum_of_turns es + sum_of_enters es ≤ most_processes * length es → IsCore b new later
grown-core b old new sums later lendings last es h stands fine grown turns enters numbers few = record {
  booted = h.booted;
  stands = stands;
  accepted = subst (λ (xs : List Event). AllAccepted (at_boot b) xs) (sym grown)
      (accepted-from-boot (record { boot = b; history = old.history.items; lendings = lendings; last_lent = last }) es h.accepted fine);
  turns = turns ∙ ap (λ n. n + sum_of_turns es) h.turns ∙ sym (sum_by-append process_of_turn old.history.items es) ∙ ap sum_of_turns (sym grown);
  enters = enters ∙ ap (λ n. n + sum_of_enters es) h.enters ∙ sym (sum_by-append process_of_enter old.history.items es) ∙ ap sum_of_enters (sym grown);
  numbers = subst (λ (xs : List Event). AllByRecursion (λ e. process_of_turn e + process_of_enter e ≤ most_processes) xs) (sym grown)
      (each_append (λ (e : Event). process_of_turn e + process_of_enter e ≤ most_processes) old.history.items es h.numbers numbers);
  few = let size : length new.history.items ≡ length (old.history.items ++ es) = ap (λ (xs : List Event). length xs) grown in
      let all = length-append old.history.items es in
      let was = h.few in
      omega (arith, was, size, all, turns, enters, few);
}

-- an event is accepted, or refused
pub applied-core : (b : Boot) (old new : Running) (sums later : Sums) (e : Event) (result : Result Answer Refused) → IsCore b old sums → Steps b e old new result
    → OnOk result (later.turns ≡ sums.turns + process_of_turn e) → OnOk result (later.enters ≡ sums.enters + process_of_enter e) → OnErr result (later ≡ sums)
    → IsCore b new later
applied-core b old new sums later e (Ok a) h s turns enters same =
    let k : Kernel = kernel_in b old in
    let few = number-few k e h.stands.counted.few s.applies.0 in
    grown-core b old new sums later k.lendings k.last_lent (e ∷ []) h s.stands (s.applies.0, tt) (ap (λ (k : Kernel). k.history) s.applies.2)
    (turns ∙ omega arith) (enters ∙ omega arith) (few, tt) (omega (arith, few))
applied-core b old new sums later e (Err why) h s turns enters same =
    still-core b old new later (subst (λ (z : Sums). IsCore b old z) (sym same) h) s.stands (ap (λ (k : Kernel). k.history) s.applies.1)

settled-numbers : (k : Kernel) (r : LoanResult) → length (now k).sync.processes ≤ most_processes → AllAccepted k (events_of r)
    → AllByRecursion (λ e. process_of_turn e + process_of_enter e ≤ most_processes) (events_of r)
settled-numbers k r few fine = by (is_some (stopped_at r.reached.state))
  where
    one : r.process + 0 ≤ most_processes
    one = number-few k (Turn r.process r.reached.count) few fine.0

    by : (b : Bool) → AllByRecursion (λ e. process_of_turn e + process_of_enter e ≤ most_processes) (Turn r.process r.reached.count ∷ (if b then Enter r.process ∷ [] else []))
    by true = (one, (omega (arith, one), tt))
    by false = (one, tt)

settled-few : (k : Kernel) (r : LoanResult) → length (now k).sync.processes ≤ most_processes → AllAccepted k (events_of r)
    → sum_of_turns (events_of r) + sum_of_enters (events_of r) ≤ most_processes * length (events_of r)
settled-few k r few fine = by (is_some (stopped_at r.reached.state))
  where
    one : r.process + 0 ≤ most_processes
    one = number-few k (Turn r.process r.reached.count) few fine.0

    by : (b : Bool) → sum_of_turns (Turn r.process r.reached.count ∷ (if b then Enter r.process ∷ [] else []))
        + sum_of_enters (Turn r.process r.reached.count ∷ (if b then Enter r.process ∷ [] else []))
        ≤ most_processes * length (Turn r.process r.reached.count ∷ (if b then Enter r.process ∷ [] else []))
    by true = omega (arith, one)
    by false = omega (arith, one)

-- a loan's result is taken back, or not
pub settled-core : (b : Boot) (old new : Running) (sums later : Sums) (done : Done) (result : Result Answer Rejected) → IsCore b old sums
    → TakesBack b done old new result → OnOk result (later.turns ≡ sums.turns + done.pid)
    → IfOk result (λ a. later.enters ≡ sums.enters + (if tells_enter a then done.pid else 0)) → OnErr result (later ≡ sums) → IsCore b new later
settled-core b old new sums later done (Ok a) h s turns enters same =
    let r : LoanResult = loan_result done in
    let k : Kernel = returned (kernel_in b old) done.pid in
    let grown : new.history.items ≡ old.history.items ++ events_of r = ap (λ (k : Kernel). k.history) s.settles.events ∙ history-with_events k (events_of r) in
    grown-core b old new sums later k.lendings k.last_lent (events_of r) h s.stands s.settles.fine grown
    (turns ∙ ap (λ n. sums.turns + n) (sym (turns-of r)))
    (enters ∙ ap (λ (a : Answer). sums.enters + (if tells_enter a then done.pid else 0)) s.settles.answer ∙ ap (λ n. sums.enters + n) (sym (enters-of (kernel_in b old) r)))
    (settled-numbers k r h.stands.counted.few s.settles.fine) (settled-few k r h.stands.counted.few s.settles.fine)
settled-core b old new sums later done (Err r) h s turns enters same =
    still-core b old new later (subst (λ (z : Sums). IsCore b old z) (sym same) h) s.stands (ap (λ (k : Kernel). k.history) s.settles.err)

-- a loan joins no history
pub lent-core : (b : Boot) (old new : Running) (sums : Sums) (quantum : ℕ) (result : Result (Option LoanOut) Refused) → IsCore b old sums → Represents b new
    → Lends (kernel_in b old) quantum (kernel_in b new) result → IsCore b new sums
lent-core b old new sums quantum (Ok None) h stands lends = still-core b old new sums h stands (ap (λ (k : Kernel). k.history) lends.1.1)
lent-core b old new sums quantum (Ok (Some loan)) h stands lends = still-core b old new sums h stands (ap (λ (k : Kernel). k.history) lends.1.noted)
lent-core b old new sums quantum (Err why) h stands lends = still-core b old new sums h stands (ap (λ (k : Kernel). k.history) lends.2)

pub again-core : (b : Boot) (old new : Running) (sums : Sums) (pid quantum : ℕ) (given : Option LoanOut) → IsCore b old sums → Represents b new
    → LendsAgain (kernel_in b old) pid quantum (kernel_in b new) given → IsCore b new sums
again-core b old new sums pid quantum None h stands lends = still-core b old new sums h stands (ap (λ (k : Kernel). k.history) lends)
again-core b old new sums pid quantum (Some loan) h stands lends = still-core b old new sums h stands (ap (λ (k : Kernel). k.history) lends.1.noted)

-- what the parts keep
pub core-keeps : (b : Boot) (r : Running) (sums : Sums) → IsCore b r sums → (ran : ℕ) → ran ≡ ran_by_turns (kernel_in b r) → ran ≤ 2 ^ 50
    → committed (now (kernel_in b r)) ≤ changes (now (kernel_in b r)) → KeepsLimits (kernel_in b r)
core-keeps b r sums h count ran few among = record {
  boot = h.booted;
  accepted = h.accepted;
  room = let out = out-lent r.tasks.items in let room = h.stands.parts.room in omega (arith, out, room);
  ran = omega (arith, ran, few);
  processes = h.stands.counted.few;
  numbers = h.numbers;
  sums = let turns = h.turns in let enters = h.enters in let few = h.few in omega (arith, turns, enters, few);
  committed = among;
}

-- ---- how many instructions its Turns ran
pub applied-ran : (old new : Kernel) (e : Event) (result : Result Answer Refused) → Applies old e new result
    → IfOk result (λ a. ran_by_turns new ≡ ran_by_turns old + ran_in a)
applied-ran old new e (Ok a) h = ap ran_by_turns h.2 ∙ ran-with_event old e ∙ ap (λ (x : Answer). ran_by_turns old + ran_in x) (sym h.1)
applied-ran old new e (Err why) h = tt
