-- How many loans a core gave, and which one it has out.
use Rattle.std.proofs.Common.{◌≡◌, ℕ, zero, suc, ◌+◌, ◌<◌, ◌≤◌, Bool, true, false, cond, ◌==◌, ◌&&◌, List, [], ◌∷◌, ◌++◌, length, slice_get, slice_set, Option, Some, None, is_some, is_none, option_map, Result, Ok, Err, IfOk, IfSome, count_by, refl, sym, ap, ◌∙◌, arith, eqb-true}
use Rattle.std.proofs.lemmas.List.Sums.{sum_by-cons}
use Rattle.machine_model.specs.States.{State}
use Rattle.kernel_model.specs.Answers.{Kernel, Lending, is_lent, lending_at, loans_out, never_lent, now, process_of, quantum_out, with_child, with_event, with_events}
use Rattle.kernel_model.specs.Drains.{IsDrained}
use Rattle.kernel_model.specs.Loans.{IsNextLoan, IsOfLoan, Lends, LoanOut, LoanResult, events_of, loan_count, loans_in, pick, put_lending, returned, settled, with_loan}
use Rattle.kernel_model.specs.State.{Process, process_at}
use Rattle.kernel_model.specs.Steps.{step}
use Rattle.kernel_model.specs.declared.answer.Answer.{Answer}
use Rattle.kernel_model.specs.declared.answer.Refused.{Refused}
use Rattle.kernel_model.specs.declared.event.Event.{Event}
use Rattle.kernel_model.proofs.Limits.{at_below}
use Rattle.kernel_step.specs.Loaned.{Settles, lent_out, loan_out, loan_result}
use Rattle.kernel_step.specs.declared.loan.Done.{Done}
use Rattle.kernel_step.specs.declared.loan.Loan.{Loan}
use Rattle.kernel_step.specs.declared.loan.Rejected.{Rejected}
use Rattle.recorder.specs.Recording.{IsOut, Rests, loans_among, loans_given, quantum}
use Rattle.recorder.proofs.Growing.{drains-events}

-- ---- how many loans
put-get : (ls : List Lending) (n : ℕ) (l : Lending) → loans_among (slice_set ls n l) + loans_in (slice_get ls n) ≤ loans_among ls + l.loans
put-get [] n l = omega arith
put-get (x ∷ xs) zero l =
    let all : (l.loans + loans_among xs) + x.loans ≤ (x.loans + loans_among xs) + l.loans = omega arith in all
put-get (x ∷ xs) (suc n) l =
    let rest : loans_among (slice_set xs n l) + loans_in (slice_get xs n) ≤ loans_among xs + l.loans = put-get xs n l in
    let all : (x.loans + loans_among (slice_set xs n l)) + loans_in (slice_get xs n) ≤ (x.loans + loans_among xs) + l.loans = omega (arith, rest) in
    all

put-at : (ls : List Lending) (p : ℕ) (l : Lending) → loans_among (put_lending ls p l) + loans_in (lending_at ls p) ≤ loans_among ls + l.loans
put-at ls zero l = omega arith
put-at ls (suc n) l = put-get ls n l

-- a process that is made had none
one-more : (ls : List Lending) → loans_among (ls ++ never_lent ∷ []) ≡ loans_among ls
one-more [] = refl
one-more (l ∷ ls) = ap (λ n. l.loans + n) (one-more ls)

with-child : (ls : List Lending) (child : Option ℕ) → loans_among (with_child ls child) ≡ loans_among ls
with-child ls None = refl
with-child ls (Some child) = one-more ls

pub given-events : (es : List Event) (k : Kernel) → loans_given (with_events k es) ≡ loans_given k
given-events [] k = refl
given-events (e ∷ es) k = given-events es (with_event k e) ∙ with-child k.lendings (step (now k).sync e).entry.child

given-next : (old new : Kernel) (n : ℕ) (loan : LoanOut) → IsNextLoan old new n loan → loans_given new ≤ loans_given old + 1
given-next old new n loan next =
    let same : loans_given new ≡ loans_given (with_loan old loan.process n) = ap (λ (k : Kernel). loans_given k) next.noted in
    let more : loans_given (with_loan old loan.process n) + loan_count old loan.process ≤ loans_given old + (loan_count old loan.process + 1) =
    put-at old.lendings loan.process (record { loans = loan_count old loan.process + 1; out = Some n }) in
    omega (arith, same, more)

same-given : (old new : Kernel) → new ≡ old → loans_given new ≡ loans_given old
same-given old new same = ap (λ (k : Kernel). loans_given k) same

-- by a loan there is one more at most
pub given-lent : (old new : Kernel) (n : ℕ) (given : Result (Option LoanOut) Refused) → Lends old n new given → loans_given new ≤ loans_given old + 1
given-lent old new n (Ok None) h = let same = same-given old new h.1.1 in omega (arith, same)
given-lent old new n (Ok (Some loan)) h = given-next old new n loan h.1
given-lent old new n (Err why) h = let same = same-given old new h.2 in omega (arith, same)

given-settled : (old new : Kernel) (r : LoanResult) → new ≡ settled old r → loans_given new ≤ loans_given old
given-settled old new r is =
    let same : loans_given new ≡ loans_given (settled old r) = ap (λ (k : Kernel). loans_given k) is in
    let events : loans_given (settled old r) ≡ loans_given (returned old r.process) = given-events (events_of r) (returned old r.process) in
    let back : loans_given (returned old r.process) + loan_count old r.process ≤ loans_given old + loan_count old r.process =
    put-at old.lendings r.process (record { loans = loan_count old r.process; out = None }) in
    omega (arith, same, events, back)

-- by a loan's result, and by a drain, there is none more
pub given-settles : (old new : Kernel) (done : Done) (result : Result Answer Rejected) → Settles old done new result → loans_given new ≤ loans_given old
given-settles old new done (Ok a) h = given-settled old new (loan_result done) h.events
given-settles old new done (Err r) h = let same = same-given old new h.err in omega (arith, same)

pub given-drained : (old new : Kernel) (result : Result (Unit {0}) Refused) → IsDrained old new result → loans_given new ≤ loans_given old
given-drained old new result h =
    let same : loans_given new ≡ loans_given (with_events old h.events) = same-given (with_events old h.events) new (drains-events h.events old new h.drains) in
    let events = given-events h.events old in
    omega (arith, same, events)

-- ---- which loan is out
get-put : (ls : List Lending) (n : ℕ) (l : Lending) → n < length ls → slice_get (slice_set ls n l) n ≡ Some l
get-put [] n l less = absurd (omega arith)
get-put (x ∷ xs) zero l less = refl
get-put (x ∷ xs) (suc n) l less = get-put xs n l (omega arith)

at-put : (ls : List Lending) (ps : List Process) (p : ℕ) (x : Process) (l : Lending) → length ls ≡ length ps → process_at ps p ≡ Some x
    → lending_at (put_lending ls p l) p ≡ Some l
at-put ls ps zero x l each at = cc
at-put ls ps (suc n) x l each at = let below : suc n ≤ length ps = at_below ps (suc n) x at in get-put ls n l (omega (arith, each, below))

out-of : (old new : Kernel) (n : ℕ) (loan : LoanOut) (x : Process) → length old.lendings ≡ length (now old).sync.processes → IsNextLoan old new n loan
    → process_of old loan.process ≡ Some x → IsOut new loan
out-of old new n loan x each next there =
    let lending : Lending = record { loans = loan_count old loan.process + 1; out = Some n } in
    let put : lending_at (put_lending old.lendings loan.process lending) loan.process ≡ Some lending =
    at-put old.lendings (now old).sync.processes loan.process x lending each there in
    let here : lending_at new.lendings loan.process ≡ Some lending = ap (λ (k : Kernel). lending_at k.lendings loan.process) next.noted ∙ put in
    record {
      lent = ap quantum_out here ∙ ap (λ (m : ℕ). Some m) (sym next.asked);
      number = next.number ∙ sym (ap loans_in here);
      began = ap (λ (k : Kernel). option_map (λ (p : Process). p.state) (process_of k loan.process)) next.noted ∙ next.began;
    }

-- a process with a state is there
with-state : (o : Option Process) (s : State) → option_map (λ (p : Process). p.state) o ≡ Some s → (x : Process) × (o ≡ Some x)
with-state None s is = absurd (let no : ⊥ = cc in no)
with-state (Some x) s is = (x, refl)

out-next : (old new : Kernel) (n : ℕ) (loan : LoanOut) → length old.lendings ≡ length (now old).sync.processes → IsNextLoan old new n loan → IsOut new loan
out-next old new n loan each next =
    let there = with-state (process_of old loan.process) loan.began next.began in
    out-of old new n loan there.0 each next there.1

-- the loan that is given is out
pub out-lent : (old new : Kernel) (n : ℕ) (given : Result (Option Loan) Refused) → length old.lendings ≡ length (now old).sync.processes
    → Lends old n new (lent_out given) → IfOk given (λ o. IfSome o (λ (l : Loan). IsOut new (loan_out l)))
out-lent old new n (Ok None) each h = tt
out-lent old new n (Ok (Some l)) each h = out-next old new n (loan_out l) each h.1
out-lent old new n (Err why) each h = tt

-- where none is given nothing changes
pub none-lent : (old new : Kernel) (given : Result (Option Loan) Refused) → Lends old quantum new (lent_out given)
    → IfOk given (λ o. o ≡ None → (pick old quantum ≡ None) × (new ≡ old))
none-lent old new (Ok None) h = λ is. h.1
none-lent old new (Ok (Some l)) h = λ is. absurd (let no : ⊥ = cc in no)
none-lent old new (Err why) h = tt

-- what comes of a loan that is out is a result of it
pub result-of : (k : Kernel) (l : Loan) (d : Done) → d.pid ≡ l.pid → d.number ≡ l.number → d.quantum ≡ l.quantum → d.began.value ≡ l.began.value
    → IsOut k (loan_out l) → IsOfLoan k (loan_result d)
result-of k l d pid number quantum began out = record {
  lent = ap (λ (p : ℕ). quantum_out (lending_at k.lendings p)) pid ∙ out.lent ∙ ap (λ (n : ℕ). Some n) (sym quantum);
  number = number ∙ out.number ∙ ap (λ (p : ℕ). loan_count k p) (sym pid);
  began = ap (λ (p : ℕ). option_map (λ (x : Process). x.state) (process_of k p)) pid ∙ out.began ∙ ap (λ (s : State). Some s) (sym began);
}

-- ---- where none is out, no process is lent
abbrev counted : Bool → ℕ
counted b = cond b 1 0

abbrev count-out : List Lending → ℕ
count-out ls = count_by (λ (l : Lending). is_some l.out) ls

count-next : (l : Lending) (ls : List Lending) → count-out (l ∷ ls) ≡ counted (is_some l.out) + count-out ls
count-next l ls = sum_by-cons (λ (m : Lending). counted (is_some m.out)) l ls

none-at : (ls : List Lending) (n : ℕ) → count-out ls ≡ 0 → is_some (quantum_out (slice_get ls n)) ≡ false
none-at [] n none = refl
none-at (l ∷ ls) zero none = by (is_some l.out) (count-next l ls)
  where
    by : (b : Bool) → count-out (l ∷ ls) ≡ counted b + count-out ls → b ≡ false
    by false whole = refl
    by true whole = absurd (omega (arith, whole, none))
none-at (l ∷ ls) (suc n) none = let whole = count-next l ls in none-at ls n (omega (arith, whole, none))

not-lent : (k : Kernel) (p : ℕ) → loans_out k ≡ 0 → is_lent k p ≡ false
not-lent k zero none = refl
not-lent k (suc n) none = none-at k.lendings n none

first-holds : (a b : Bool) → (a && b) ≡ true → a ≡ true
first-holds true b is = refl
first-holds false b is = is

pub rests-not-lent : (k : Kernel) (p : ℕ) → Rests k → is_lent k p ≡ false
rests-not-lent k p rests = not-lent k p (eqb-true (loans_out k) 0 (first-holds (loans_out k == 0) (is_none (pick k quantum)) rests))
