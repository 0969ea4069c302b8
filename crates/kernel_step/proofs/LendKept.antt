-- A kernel whose next process is lent.
use Rattle.std.proofs.Common.{◌≡◌, ℕ, suc, ◌+◌, ◌-◌, ◌*◌, ◌^◌, ◌<◌, ◌≤◌, inl, inr, Bool, true, false, ◌&&◌, not, nat_lt, nat_le, cond, List, [], ◌++◌, length, take, drop, map, slice_get, slice_set, slice_index_or, Option, Some, None, is_some, IfSome, option_map, refl, sym, ap, subst, ◌∙◌, arith}
use Rattle.kernel_step.proofs.Lists.{get-set}
use Rattle.kernel_step.proofs.EnterFine.{none-some}
use Rattle.std.specs.Prelude.{find, if◌then◌else◌}
use Rattle.std.proofs.lemmas.Bool.{ltb-false, leb-true, and_parts, not-true}
use Rattle.std.proofs.lemmas.List.{map-set, length-map}
use Rattle.std.proofs.lemmas.List.Sums.{sum_by-set}
use Rattle.std.proofs.lemmas.Option.{slice_get_within, slice_get-get_or, slice_get-map}
use Rattle.std.proofs.Math.Seq.{map-set_same}
use Rattle.machine_model.specs.States.{State}
use Rattle.kernel_model.specs.Answers.{Kernel, Lending, Refuses, lending_at, quantum_out, process_of as process_in, is_lent, loans_out, now, limit, has_ended, count_at}
use Rattle.kernel_model.specs.Loans.{is_waiting, is_lendable, pick, is_full_for_loan, loan_count, loans_in, loan_refusal, put_lending, with_loan, numbers_to, IsNextLoan}
use Rattle.kernel_model.specs.State.{Process}
use Rattle.kernel_model.specs.World.{Boot, World, run_of}
use Rattle.kernel_model.specs.declared.answer.Refused.{Refused}
use Rattle.kernel_model.specs.declared.answer.Refused.TheVariants as refused
use Rattle.kernel_model.specs.declared.event.Event.{Event}
use Rattle.kernel_step.specs.Represents.{kernel_of, KeepsRun}
use Rattle.kernel_step.specs.Lending.{full_for_loan_of, is_fit, next_fit, IsLent, Lent}
use Rattle.kernel_step.specs.Loaned.{loan_out, LendsTo}
use Rattle.kernel_step.specs.Mirrors.{IsTask, AreTasks}
use Rattle.kernel_step.specs.Seen.{Withholds}
use Rattle.kernel_step.specs.Tasks.{machine_of, out_of, status_of, process_of, bare, lending_of, count_out, needed, unsettled}
use Rattle.kernel_step.specs.Waiting.{is_asleep}
use Rattle.kernel_step.specs.declared.loan.Loan.{Loan}
use Rattle.kernel_step.specs.declared.system.System.{System}
use Rattle.held_output.specs.Withheld.{Withheld, whats}
use Rattle.kernel_model.specs.Shown.{told, end_in}
use Rattle.kernel_model.specs.Entries.{Item}
use Rattle.kernel_step.specs.declared.task.Task.{Task}
use Rattle.kernel_step.proofs.FewLoans.{out-lent, few-put, few-here}
use Rattle.kernel_step.proofs.LendPick.{find-round}
use Rattle.kernel_step.proofs.Turning.{IsProcessOf, process-there}

-- one more is out
count_out-lent : (quantum : ℕ) (tasks : List Task) (place : ℕ) (t u : Task) → slice_get tasks place ≡ Some t → is_some (out_of t) ≡ false
    → out_of u ≡ Some quantum → count_out (slice_set tasks place u) ≡ count_out tasks + 1
count_out-lent quantum tasks place t u there here out =
    let weight : Task → ℕ = λ u. cond (is_some (out_of u)) 1 0 in
    let within : place < length tasks = slice_get_within tasks place t there in
    let at : slice_get tasks place ≡ Some (slice_index_or tasks place t) = slice_get-get_or tasks place t within in
    let same : slice_index_or tasks place t ≡ t = cc in
    let none : weight (slice_index_or tasks place t) ≡ 0 = ap weight same ∙ ap (λ b. cond b 1 0) here in
    let one : weight u ≡ 1 = ap (λ (o : Option ℕ). cond (is_some o) 1 0) out in
    let sums : count_out (slice_set tasks place u) + weight (slice_index_or tasks place t) ≡ count_out tasks + weight u =
    sum_by-set weight tasks place u t within in
    omega arith

pub loans_out-is : (b : Boot) (history : List Event) (tasks : List Task) (last : ℕ) → loans_out (kernel_of b history tasks last) ≡ count_out tasks
loans_out-is b history tasks last = out-lent tasks

-- the refusal is that of the tasks
pub full-is : (b : Boot) (history : List Event) (tasks : List Task) (last : ℕ)
    → is_full_for_loan (kernel_of b history tasks last) ≡ full_for_loan_of (length history) tasks
full-is b history tasks last = ap (λ n. nat_lt (2 ^ 40 - 2) (length history + 2 * n)) (loans_out-is b history tasks last)

-- ---- what a task that fits is
pub record IsFit (quantum : ℕ) (t : Task) : Type 0 where
  pub here : is_some (out_of t) ≡ false
  pub few : (machine_of t).count + (quantum + 1) ≤ 2 ^ 40
  pub runs : status_of t ≡ None

pub fits : (quantum served : ℕ) (t : Task) → is_fit quantum served t ≡ true → IsFit quantum t
fits quantum served t h =
    let ended : Bool = not (is_some (status_of t)) in
    let here : Bool = not (is_some (out_of t)) in
    let room : Bool = nat_le ((machine_of t).count + quantum + 1) (2 ^ 40) in
    let z = and_parts (ended && here && room) (not (is_asleep served t.waited)) h in
    let a = and_parts (ended && here) room z.0 in
    let b = and_parts ended here a.0 in
    let few : (machine_of t).count + quantum + 1 ≤ 2 ^ 40 = leb-true ((machine_of t).count + quantum + 1) (2 ^ 40) a.1 in
    record { here = not-true (is_some (out_of t)) b.1; few = omega arith; runs = none-some (status_of t) (not-true (is_some (status_of t)) b.0) }

-- ---- the invariant
lent-task : (w : World) (served place quantum : ℕ) (t u : Task) → IsTask w served place t → is_fit quantum served t ≡ true → IsLent quantum t u → IsTask w served place u
lent-task w served place quantum t u h fit lent = record {
  number = lent.pid ∙ h.number;
  trace = subst (λ (r : Withheld Item). Withholds w.storage.committed (told (place + 1) w.log) r) (sym lent.trace) h.trace;
  budget =
      let count : (machine_of u).count ≡ (machine_of t).count = ap (λ (s : State). s.count) lent.machine in
      let more : needed (out_of u) ≡ quantum + 1 = ap needed lent.out in
      let few = (fits quantum served t fit).few in
      omega (arith, count, more, few);
  waits = h.waits ∙ ap (λ (o : Option ℕ). is_asleep served o) (sym lent.waited);
  since = subst (λ (o : Option ℕ). IfSome o (λ before. before ≤ served)) (sym lent.waited) h.since;
  running = λ e. ap (λ (r : Withheld Item). end_in (whats r.items)) lent.trace ∙ (fits quantum served t fit).runs;
}

process-lent : (quantum : ℕ) (t u : Task) → IsLent quantum t u → process_of u ≡ process_of t
process-lent quantum t u lent =
    ap (λ (s : State). record { state = s; descriptors = []; children = []; status = status_of u }) lent.machine
    ∙ ap (λ (r : Withheld Item). record { state = machine_of t; descriptors = []; children = []; status = end_in (whats r.items) }) lent.trace

lent-tasks : (w : World) (served : ℕ) (tasks : List Task) (place quantum : ℕ) (t u : Task) → AreTasks w served tasks → slice_get tasks place ≡ Some t → is_fit quantum served t ≡ true
    → IsLent quantum t u → AreTasks w served (slice_set tasks place u)
lent-tasks w served tasks place quantum t u h there fit lent =
    let within : place < length tasks = slice_get_within tasks place t there in
    let at : slice_get tasks place ≡ Some (slice_index_or tasks place t) = slice_get-get_or tasks place t within in
    let same : slice_index_or tasks place t ≡ t = cc in
    record {
      processes = map-set_same process_of tasks place u t (process-lent quantum t u lent ∙ ap process_of (sym same)) ∙ h.processes;
      each = λ i x found. elim (get-set tasks place i u x found) [
        | inl s ↦ subst (λ (k : ℕ). IsTask w served k x) (sym s.0)
            (subst (λ (v : Task). IsTask w served place v) (sym s.1) (lent-task w served place quantum t u (h.each place t there) fit lent))
        | inr s ↦ h.each i x s.1
      ];
    }

-- one loan more is out
pub lent-more : (old new : List Task) (quantum served place : ℕ) (loan : Loan) → Lent quantum served place old new loan → count_out new ≡ count_out old + 1
lent-more old new quantum served place loan lent =
    ap (λ (ts : List Task). count_out ts) lent.after
    ∙ count_out-lent quantum old place lent.at.task lent.later lent.at.there (fits quantum served lent.at.task lent.at.fit).here lent.lent.out

pub lent-core : (b : Boot) (history : List Event) (old new : List Task) (system : System) (quantum place : ℕ) (loan : Loan)
    → KeepsRun b history old system → full_for_loan_of (length history) old ≡ false → Lent quantum system.served place old new loan → KeepsRun b history new system
lent-core b history old new system quantum place loan h room lent =
    let t : Task = lent.at.task in
    let u : Task = lent.later in
    let few : length history + 2 * count_out old ≤ 2 ^ 40 - 2 = ltb-false (2 ^ 40 - 2) (length history + 2 * count_out old) room in
    let more : count_out (slice_set old place u) ≡ count_out old + 1 =
    count_out-lent quantum old place t u lent.at.there (fits quantum system.served t lent.at.fit).here lent.lent.out in
    let had : t.loans ≤ length history = few-here (length history) old place t h.loans lent.at.there (fits quantum system.served t lent.at.fit).here in
    let loans : u.loans ≡ t.loans + 1 = lent.lent.loans in
    let one : unsettled (out_of u) ≡ 1 = ap unsettled lent.lent.out in
    subst (λ (ts : List Task). KeepsRun b history ts system) (sym lent.after) (record {
      mirrors = record {
        each = lent-tasks (run_of b history) system.served old place quantum t u h.mirrors.each lent.at.there lent.at.fit lent.lent;
        changes = h.mirrors.changes;
        tapes = h.mirrors.tapes;
        parts = h.mirrors.parts;
        pipes = h.mirrors.pipes;
        counted = h.mirrors.counted;
        kept = h.mirrors.kept;
        screens = h.mirrors.screens;
        committer = h.mirrors.committer;
      };
      footprints = h.footprints;
      room = omega arith;
      loans = few-put (length history) old place u (omega (arith, had, loans, one)) h.loans;
    })

-- ---- the process that is picked
abbrev pub lendable_by : Option Process → Bool → Bool → ℕ → Bool
lendable_by p lent waiting quantum =
    is_some p && not (has_ended p) && not lent && nat_le (count_at p + quantum + 1) limit && not waiting

process-at : (b : Boot) (history : List Event) (tasks : List Task) (system : System) (place : ℕ) (t : Task)
    → KeepsRun b history tasks system → slice_get tasks place ≡ Some t → IsProcessOf (run_of b history).sync.processes (suc place) t
process-at b history tasks system place t h there = process-there (run_of b history) system.served tasks (suc place) place t h.mirrors.each (omega arith) there

pub lending-there : (tasks : List Task) (place : ℕ) (t : Task) → slice_get tasks place ≡ Some t → lending_at (map lending_of tasks) (suc place) ≡ Some (lending_of t)
lending-there tasks place t there = slice_get-map lending_of tasks place ∙ ap (λ o. option_map lending_of o) there

lendable-is : (b : Boot) (history : List Event) (tasks : List Task) (system : System) (last quantum place : ℕ) (t : Task)
    → KeepsRun b history tasks system → slice_get tasks place ≡ Some t
    → is_lendable (kernel_of b history tasks last) quantum (suc place) ≡ is_fit quantum system.served t
lendable-is b history tasks system last quantum place t h there =
    let k : Kernel = kernel_of b history tasks last in
    let of : IsProcessOf (run_of b history).sync.processes (suc place) t = process-at b history tasks system place t h there in
    let next : place + 1 ≡ suc place = omega arith in
    let waits : is_waiting (suc place) (now k).log ≡ is_asleep system.served t.waited =
    ap (λ p. is_waiting p (run_of b history).log) (sym next) ∙ (h.mirrors.each.each place t there).waits in
    let lent : is_lent k (suc place) ≡ is_some (out_of t) = ap (λ (o : Option Lending). is_some (quantum_out o)) (lending-there tasks place t there) in
    ap (λ (o : Option Process). lendable_by o (is_lent k (suc place)) (is_waiting (suc place) (now k).log) quantum) of.there
    ∙ ap (λ (o : Option ℕ). not (is_some o) && not (is_lent k (suc place)) && nat_le (of.process.state.count + quantum + 1) limit && not (is_waiting (suc place) (now k).log)) of.status
    ∙ ap (λ (s : State). not (is_some (status_of t)) && not (is_lent k (suc place)) && nat_le (s.count + quantum + 1) limit && not (is_waiting (suc place) (now k).log)) of.state
    ∙ ap (λ v. lendable_by (Some (process_of t)) v (is_waiting (suc place) (now k).log) quantum) lent
    ∙ ap (λ v. lendable_by (Some (process_of t)) (is_some (out_of t)) v quantum) waits

pub pick-is : (b : Boot) (history : List Event) (tasks : List Task) (system : System) (last quantum : ℕ) → KeepsRun b history tasks system
    → pick (kernel_of b history tasks last) quantum ≡ option_map (λ i. suc i) (next_fit quantum system.served last tasks)
pick-is b history tasks system last quantum h =
    let k : Kernel = kernel_of b history tasks last in
    let count : length (now k).sync.processes ≡ length tasks =
    sym (length-map (now k).sync.processes bare) ∙ ap (λ (ps : List Process). length ps) (sym h.mirrors.each.processes) ∙ length-map tasks process_of in
    ap (λ n. find (is_lendable k quantum) (drop last (numbers_to n) ++ take last (numbers_to n))) count
    ∙ find-round (is_lendable k quantum) (is_fit quantum system.served) last tasks (λ i t there. lendable-is b history tasks system last quantum i t h there)

-- ---- the loan
lending-lent : (quantum : ℕ) (tasks : List Task) (place : ℕ) (t u : Task) → IsLent quantum t u
    → map lending_of (slice_set tasks place u) ≡ put_lending (map lending_of tasks) (suc place) (record { loans = t.loans + 1; out = Some quantum })
lending-lent quantum tasks place t u lent =
    map-set lending_of tasks place u
    ∙ ap (λ (n : ℕ). slice_set (map lending_of tasks) place (record { loans = n; out = out_of u })) lent.loans
    ∙ ap (λ (o : Option ℕ). slice_set (map lending_of tasks) place (record { loans = t.loans + 1; out = o })) lent.out

-- its number is the one after its place
pub lent-number : (b : Boot) (history : List Event) (old new : List Task) (system : System) (quantum place : ℕ) (loan : Loan)
    → KeepsRun b history old system → Lent quantum system.served place old new loan → loan.pid ≡ place + 1
lent-number b history old new system quantum place loan h lent =
    lent.given.process ∙ (h.mirrors.each.each place lent.at.task lent.at.there).number

unrefused : (b : Boot) (history : List Event) (old : List Task) (last : ℕ) → full_for_loan_of (length history) old ≡ false
    → loan_refusal (kernel_of b history old last) ≡ None
unrefused b history old last room = ap (λ v. if v then Some refused.Budget else None) (full-is b history old last ∙ room)

pub loan-is : (b : Boot) (history : List Event) (old new : List Task) (system : System) (last quantum place : ℕ) (loan : Loan)
    → KeepsRun b history old system → full_for_loan_of (length history) old ≡ false → Lent quantum system.served place old new loan
    → LendsTo (kernel_of b history old last) quantum (kernel_of b history new loan.pid) (loan_out loan)
loan-is b history old new system last quantum place loan h room lent =
    let k : Kernel = kernel_of b history old last in
    let t : Task = lent.at.task in
    let of : IsProcessOf (run_of b history).sync.processes (suc place) t = process-at b history old system place t h lent.at.there in
    let number : loan.pid ≡ suc place = let n : loan.pid ≡ place + 1 = lent-number b history old new system quantum place loan h lent in omega arith in
    let loans : loan_count k (suc place) ≡ t.loans = ap (λ (o : Option Lending). loans_in o) (lending-there old place t lent.at.there) in
    let put : ℕ → Kernel = λ n. record {
      boot = k.boot;
      history = history;
      last_lent = suc place;
      lendings = put_lending k.lendings (suc place) (record { loans = n + 1; out = Some quantum });
    } in
    let lends : List Lending → ℕ → Kernel = λ ls p. record { boot = k.boot; history = history; lendings = ls; last_lent = p } in
    record {
      room = unrefused b history old last room;
      lendable = ap (λ p. is_lendable k quantum p) number ∙ lendable-is b history old system last quantum place t h lent.at.there ∙ lent.at.fit;
      number = lent.given.number ∙ ap (λ n. n + 1) (sym loans) ∙ ap (λ p. loan_count k p + 1) (sym number);
      asked = lent.given.quantum;
      began = ap (λ p. option_map (λ (q : Process). q.state) (process_in k p)) number
          ∙ ap (λ o. option_map (λ (q : Process). q.state) o) of.there
          ∙ ap (λ (s : State). Some s) of.state
          ∙ ap (λ s. Some s) (sym lent.given.began);
      machine = loan.same;
      noted = ap (λ ts. lends (map lending_of ts) loan.pid) lent.after
          ∙ ap (λ ls. lends ls loan.pid) (lending-lent quantum old place t lent.later lent.lent)
          ∙ ap (λ p. lends (put_lending k.lendings (suc place) (record { loans = t.loans + 1; out = Some quantum })) p) number
          ∙ ap put (sym loans)
          ∙ ap (λ p. with_loan k p quantum) (sym number);
    }

-- ---- what a loan comes to, at the kernel k
pub lends-one : (b : Boot) (history : List Event) (old : List Task) (system : System) (last quantum place : ℕ) (loan : Loan) (k new : Kernel)
    → kernel_of b history old last ≡ k → KeepsRun b history old system → next_fit quantum system.served last old ≡ Some place → loan.pid ≡ place + 1
    → LendsTo k quantum new (loan_out loan) → (loan_refusal k ≡ None) × IsNextLoan k new quantum (loan_out loan)
lends-one b history old system last quantum place loan k new e h next number lent =
    let same : suc place ≡ loan.pid = omega arith in (
      lent.room,
      record {
        picked = ap (λ (v : Kernel). pick v quantum) (sym e) ∙ pick-is b history old system last quantum h ∙ ap (λ o. option_map (λ i. suc i) o) next ∙ ap (λ p. Some p) same;
        number = lent.number;
        asked = lent.asked;
        began = lent.began;
        machine = lent.machine;
        noted = lent.noted;
      },
    )

some-mapped : (o : Option ℕ) → is_some o ≡ true → is_some (option_map (λ i. suc i) o) ≡ true
some-mapped None some = cc
some-mapped (Some i) some = refl

-- where a task fits, a process is lendable
pub some-is-picked : (b : Boot) (history : List Event) (tasks : List Task) (system : System) (last quantum : ℕ) → KeepsRun b history tasks system
    → is_some (next_fit quantum system.served last tasks) ≡ true → is_some (pick (kernel_of b history tasks last) quantum) ≡ true
some-is-picked b history tasks system last quantum h some =
    ap (λ (o : Option ℕ). is_some o) (pick-is b history tasks system last quantum h) ∙ some-mapped (next_fit quantum system.served last tasks) some

pub lends-none : (b : Boot) (history : List Event) (old new : List Task) (system : System) (last quantum : ℕ) (k : Kernel)
    → kernel_of b history old last ≡ k → KeepsRun b history old system → full_for_loan_of (length history) old ≡ false
    → next_fit quantum system.served last old ≡ None → new ≡ old
    → (loan_refusal k ≡ None) × ((pick k quantum ≡ None) × (kernel_of b history new last ≡ k))
lends-none b history old new system last quantum k e h room none same =
    subst (λ (v : Kernel). (loan_refusal v ≡ None) × ((pick v quantum ≡ None) × (kernel_of b history new last ≡ v))) e (
      unrefused b history old last room,
      (
        pick-is b history old system last quantum h ∙ ap (λ o. option_map (λ i. suc i) o) none,
        ap (λ ts. kernel_of b history ts last) same,
      ),
    )

pub lends-wanting : (b : Boot) (history : List Event) (old : List Task) (system : System) (last quantum : ℕ) (k new : Kernel)
    → kernel_of b history old last ≡ k → KeepsRun b history old system → full_for_loan_of (length history) old ≡ false
    → is_some (next_fit quantum system.served last old) ≡ true → new ≡ k
    → Refuses (loan_refusal k) refused.OutOfMemory × (refused.OutOfMemory ≡ refused.OutOfMemory → is_some (pick k quantum) ≡ true) × (new ≡ k)
lends-wanting b history old system last quantum k new e h room some same =
    subst (λ (v : Kernel). Refuses (loan_refusal v) refused.OutOfMemory × (refused.OutOfMemory ≡ refused.OutOfMemory → is_some (pick v quantum) ≡ true) × (new ≡ v)) e (
      subst (λ (o : Option Refused). Refuses o refused.OutOfMemory) (sym (unrefused b history old last room)) refl,
      λ _. some-is-picked b history old system last quantum h some,
      same ∙ sym e,
    )
