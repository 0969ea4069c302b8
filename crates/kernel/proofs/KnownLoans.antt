-- What is known of a loan stays known.
use Rattle.std.proofs.Common.{◌≡◌, ℕ, zero, suc, ◌+◌, ◌<◌, ◌≤◌, Bool, true, false, List, [], ◌∷◌, ◌++◌, length, map, slice_get, slice_set, Option, Some, None, is_some, option_map, Result, Ok, Err, refl, sym, ap, subst, ◌∙◌, arith}
use Rattle.std.specs.Prelude.{IfOk, IfSome}
use Rattle.std.proofs.lemmas.List.{length-map}
use Rattle.machine_model.specs.States.{State}
use Rattle.kernel_model.specs.Answers.{Kernel, Lending, lending_at, quantum_out, is_lent, now, process_of, refusal, never_lent, with_child, with_event, with_events, AllAccepted, Applies}
use Rattle.kernel_model.specs.Loans.{LoanOut, IsNextLoan, Lends, loans_in, loan_count, put_lending, with_loan, returned, events_of}
use Rattle.kernel_model.specs.State.{Process, process_at}
use Rattle.kernel_model.specs.Steps.{step}
use Rattle.kernel_model.specs.declared.answer.Answer.{Answer}
use Rattle.kernel_model.specs.declared.answer.Refused.{Refused}
use Rattle.kernel_model.specs.declared.event.Event.{Event}
use Rattle.kernel_model.proofs.Limits.{at_below}
use Rattle.kernel_step.specs.Known.{IsKnownLoan}
use Rattle.kernel_step.specs.Loaned.{Settles, LendsAgain, loan_result}
use Rattle.kernel_step.specs.declared.loan.Done.{Done}
use Rattle.kernel_step.specs.declared.loan.Rejected.{Rejected}
use Rattle.kernel_step.specs.Tasks.{process_of as process_in, bare, lending_of}
use Rattle.kernel_step.specs.declared.task.Task.{Task}
use Rattle.kernel.specs.Known.{StaysKnown}

abbrev out_at : List Lending → ℕ → Bool
out_at ls p = is_some (quantum_out (lending_at ls p))

abbrev loans_at : List Lending → ℕ → ℕ
loans_at ls p = loans_in (lending_at ls p)

-- one core after another, where nothing that is known of a loan is lost: each process had no fewer loans, and one that is out on a
-- loan that there was before was out on it, and stands as it stood
record Keeps (old new : Kernel) : Type 0 where
  more : (p : ℕ) → loan_count old p ≤ loan_count new p
  same : (p n : ℕ) → n ≤ loan_count old p → is_lent new p ≡ true → loan_count new p ≡ n → (is_lent old p ≡ true) × (loan_count old p ≡ n)
  stays : (p : ℕ) (x : Process) → is_lent old p ≡ true → process_of old p ≡ Some x → process_of new p ≡ Some x

state-stays : (s : State) (o o' : Option Process) → ((x : Process) → o ≡ Some x → o' ≡ Some x) → option_map (λ (x : Process). x.state) o ≡ Some s → option_map (λ (x : Process). x.state) o' ≡ Some s
state-stays s None o' same is = cc
state-stays s (Some x) o' same is = ap (λ (o : Option Process). option_map (λ (y : Process). y.state) o) (same x refl) ∙ is

kept-known : (old new : Kernel) → Keeps old new → StaysKnown old new
kept-known old new k p n s h = record {
  given = let had = h.given in let more = k.more p in omega (arith, had, more);
  began = λ lent number. let was = k.same p n h.given lent number in
      state-stays s (process_of old p) (process_of new p) (λ x at. k.stays p x was.0 at) (h.began was.0 was.1);
}

stays-refl : (k : Kernel) → StaysKnown k k
stays-refl k p n s h = h

stays-trans : (a b c : Kernel) → StaysKnown a b → StaysKnown b c → StaysKnown a c
stays-trans a b c f g p n s h = g p n s (f p n s h)

-- ---- an event: a process that it makes was never lent
child-get : (ls : List Lending) (m : ℕ) → (loans_in (slice_get (ls ++ never_lent ∷ []) m) ≡ loans_in (slice_get ls m)) × (quantum_out (slice_get (ls ++ never_lent ∷ []) m) ≡ quantum_out (slice_get ls m))
child-get [] zero = (refl, refl)
child-get [] (suc m) = (refl, refl)
child-get (l ∷ ls) zero = (refl, refl)
child-get (l ∷ ls) (suc m) = child-get ls m

child-at : (ls : List Lending) (o : Option ℕ) (p : ℕ) → (loans_at (with_child ls o) p ≡ loans_at ls p) × (quantum_out (lending_at (with_child ls o) p) ≡ quantum_out (lending_at ls p))
child-at ls None p = (refl, refl)
child-at ls (Some c) zero = (refl, refl)
child-at ls (Some c) (suc m) = child-get ls m

abbrev pub LentStay : Type 0
LentStay = (k : Kernel) (e : Event) (p : ℕ) (x : Process) → refusal k e ≡ None → is_lent k p ≡ true → process_of k p ≡ Some x → process_of (with_event k e) p ≡ Some x

event-keeps : LentStay → (k : Kernel) (e : Event) → refusal k e ≡ None → Keeps k (with_event k e)
event-keeps law k e fine =
    let child = (step (now k).sync e).entry.child in record {
      more = λ p. let same = (child-at k.lendings child p).0 in omega (arith, same);
      same = λ p n had lent number. (
        sym (ap (λ (o : Option ℕ). is_some o) (child-at k.lendings child p).1) ∙ lent,
        sym (child-at k.lendings child p).0 ∙ number,
      );
      stays = λ p x lent at. law k e p x fine lent at;
    }

events-stay : LentStay → (k : Kernel) (es : List Event) → AllAccepted k es → StaysKnown k (with_events k es)
events-stay law k [] fine = stays-refl k
events-stay law k (e ∷ es) fine = stays-trans k (with_event k e) (with_events (with_event k e) es) (kept-known k (with_event k e) (event-keeps law k e fine.0)) (events-stay law (with_event k e) es fine.1)

-- ---- a process that comes back
back-get : (ls : List Lending) (n m : ℕ) →
    (loans_in (slice_get (slice_set ls n (record { loans = loans_in (slice_get ls n); out = None })) m) ≡ loans_in (slice_get ls m))
    × (is_some (quantum_out (slice_get (slice_set ls n (record { loans = loans_in (slice_get ls n); out = None })) m)) ≡ true → is_some (quantum_out (slice_get ls m)) ≡ true)
back-get [] n m = (refl, λ h. h)
back-get (l ∷ ls) zero zero = (refl, λ h. cc)
back-get (l ∷ ls) zero (suc m) = (refl, λ h. h)
back-get (l ∷ ls) (suc n) zero = (refl, λ h. h)
back-get (l ∷ ls) (suc n) (suc m) = back-get ls n m

back-at : (k : Kernel) (q p : ℕ) → (loan_count (returned k q) p ≡ loan_count k p) × (is_lent (returned k q) p ≡ true → is_lent k p ≡ true)
back-at k zero p = (refl, λ h. h)
back-at k (suc n) zero = (refl, λ h. h)
back-at k (suc n) (suc m) = back-get k.lendings n m

back-keeps : (k : Kernel) (q : ℕ) → Keeps k (returned k q)
back-keeps k q = record {
  more = λ p. let same = (back-at k q p).0 in omega (arith, same);
  same = λ p n had lent number. ((back-at k q p).1 lent, sym (back-at k q p).0 ∙ number);
  stays = λ p x lent at. at;
}

-- ---- a loan more
more-get : (ls : List Lending) (n m : ℕ) (o : Option ℕ) →
    (loans_in (slice_get ls m) ≤ loans_in (slice_get (slice_set ls n (record { loans = loans_in (slice_get ls n) + 1; out = o })) m))
    × ((k : ℕ) → k ≤ loans_in (slice_get ls m) → loans_in (slice_get (slice_set ls n (record { loans = loans_in (slice_get ls n) + 1; out = o })) m) ≡ k
    → slice_get (slice_set ls n (record { loans = loans_in (slice_get ls n) + 1; out = o })) m ≡ slice_get ls m)
more-get [] n m o = (omega arith, λ k had is. refl)
more-get (l ∷ ls) zero zero o = (omega arith, λ k had is. absurd (omega (arith, had, is)))
more-get (l ∷ ls) zero (suc m) o = (omega arith, λ k had is. refl)
more-get (l ∷ ls) (suc n) zero o = (omega arith, λ k had is. refl)
more-get (l ∷ ls) (suc n) (suc m) o = more-get ls n m o

more-at : (k : Kernel) (q p quantum : ℕ) → (loan_count k p ≤ loan_count (with_loan k q quantum) p)
    × ((n : ℕ) → n ≤ loan_count k p → loan_count (with_loan k q quantum) p ≡ n → lending_at (with_loan k q quantum).lendings p ≡ lending_at k.lendings p)
more-at k zero p quantum = (omega arith, λ n had is. refl)
more-at k (suc i) zero quantum = (omega arith, λ n had is. refl)
more-at k (suc i) (suc m) quantum = more-get k.lendings i m (Some quantum)

loan-keeps : (k : Kernel) (q quantum : ℕ) → Keeps k (with_loan k q quantum)
loan-keeps k q quantum = record {
  more = λ p. (more-at k q p quantum).0;
  same = λ p n had lent number.
      let as_was = (more-at k q p quantum).1 n had number in (
        sym (ap (λ (o : Option Lending). is_some (quantum_out o)) as_was) ∙ lent,
        sym (ap loans_in as_was) ∙ number,
      );
  stays = λ p x lent at. at;
}

put-get : (ls : List Lending) (n : ℕ) (l : Lending) → n < length ls → slice_get (slice_set ls n l) n ≡ Some l
put-get [] n l less = absurd (omega arith)
put-get (x ∷ xs) zero l less = refl
put-get (x ∷ xs) (suc n) l less = put-get xs n l (omega arith)

-- the process of a loan is there, and so is its lending
counted-loan : (k : Kernel) (q quantum : ℕ) (x : Process) → length k.lendings ≡ length (now k).sync.processes → process_of k q ≡ Some x → loan_count (with_loan k q quantum) q ≡ loan_count k q + 1
counted-loan k zero quantum x each at = cc
counted-loan k (suc n) quantum x each at =
    let below : suc n ≤ length (now k).sync.processes = at_below (now k).sync.processes (suc n) x at in
    ap loans_in (put-get k.lendings n (record { loans = loan_count k (suc n) + 1; out = Some quantum }) (omega (arith, each, below)))

given-loan : (k : Kernel) (quantum : ℕ) (l : LoanOut) (o : Option Process) → length k.lendings ≡ length (now k).sync.processes → o ≡ process_of k l.process
    → option_map (λ (x : Process). x.state) o ≡ Some l.began → l.number ≡ loan_count k l.process + 1 → IsKnownLoan (with_loan k l.process quantum) l.process l.number l.began
given-loan k quantum l None each is began number = absurd (let no : ⊥ = cc in no)
given-loan k quantum l (Some x) each is began number =
    let counted = counted-loan k l.process quantum x each (sym is) in record {
      given = omega (arith, counted, number);
      began = λ lent same. ap (λ (o : Option Process). option_map (λ (y : Process). y.state) o) (sym is) ∙ began;
    }

pub given-known : (old new : Kernel) (quantum : ℕ) (result : Result (Option LoanOut) Refused) → length old.lendings ≡ length (now old).sync.processes
    → Lends old quantum new result → IfOk result (λ given. IfSome given (λ l. IsKnownLoan new l.process l.number l.began))
given-known old new quantum (Ok None) each h = tt
given-known old new quantum (Ok (Some l)) each h =
    let next = h.1 in
    subst (λ (k : Kernel). IsKnownLoan k l.process l.number l.began) (sym next.noted) (given-loan old quantum l (process_of old l.process) each refl next.began next.number)
given-known old new quantum (Err why) each h = tt

pub again-known : (old new : Kernel) (pid quantum : ℕ) (given : Option LoanOut) → length old.lendings ≡ length (now old).sync.processes
    → LendsAgain old pid quantum new given → IfSome given (λ l. IsKnownLoan new l.process l.number l.began)
again-known old new pid quantum None each h = tt
again-known old new pid quantum (Some l) each h =
    let lends = h.1 in
    subst (λ (k : Kernel). IsKnownLoan k l.process l.number l.began) (sym lends.noted) (given-loan old quantum l (process_of old l.process) each refl lends.began lends.number)

-- ---- what a core does
stays-at : (old k new : Kernel) → new ≡ k → StaysKnown old k → StaysKnown old new
stays-at old k new same h = subst (λ (x : Kernel). StaysKnown old x) (sym same) h

pub lends-stay : (old new : Kernel) (quantum : ℕ) (result : Result (Option LoanOut) Refused) → Lends old quantum new result → StaysKnown old new
lends-stay old new quantum (Ok None) h = stays-at old old new h.1.1 (stays-refl old)
lends-stay old new quantum (Ok (Some l)) h = stays-at old (with_loan old l.process quantum) new h.1.noted (kept-known old (with_loan old l.process quantum) (loan-keeps old l.process quantum))
lends-stay old new quantum (Err why) h = stays-at old old new h.2 (stays-refl old)

pub again-stays : (old new : Kernel) (pid quantum : ℕ) (given : Option LoanOut) → LendsAgain old pid quantum new given → StaysKnown old new
again-stays old new pid quantum None h = stays-at old old new h (stays-refl old)
again-stays old new pid quantum (Some l) h = stays-at old (with_loan old l.process quantum) new h.1.noted (kept-known old (with_loan old l.process quantum) (loan-keeps old l.process quantum))

pub applies-stay : LentStay → (old new : Kernel) (e : Event) (result : Result Answer Refused) → Applies old e new result → StaysKnown old new
applies-stay law old new e (Ok a) h = stays-at old (with_event old e) new h.2 (kept-known old (with_event old e) (event-keeps law old e h.0))
applies-stay law old new e (Err why) h = stays-at old old new h.1 (stays-refl old)

pub settles-stay : LentStay → (old new : Kernel) (done : Done) (result : Result Answer Rejected) → Settles old done new result → StaysKnown old new
settles-stay law old new done (Ok a) h =
    let k : Kernel = returned old done.pid in
    let es : List Event = events_of (loan_result done) in
    stays-at old (with_events k es) new h.events (stays-trans old k (with_events k es) (kept-known old k (back-keeps old done.pid)) (events-stay law k es h.fine))
settles-stay law old new done (Err r) h = stays-at old old new h.err (stays-refl old)

-- how each process stands with its loans is kept by its task
pub lendings-each : (tasks : List Task) (ps : List Process) → map process_in tasks ≡ map bare ps → length (map lending_of tasks) ≡ length ps
lendings-each tasks ps same =
    length-map tasks lending_of ∙ sym (length-map tasks process_in) ∙ ap (λ (xs : List Process). length xs) same ∙ length-map ps bare
