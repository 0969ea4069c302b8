-- Machines that are lent out, and taken back.
use Rattle.std.specs.Prelude.{◌≡◌, ℕ, suc, zero, ◌+◌, ◌-◌, ◌==◌, ◌&&◌, not, nat_lt, nat_le, Bool, true, false, if◌then◌else◌, List, [], ◌∷◌, ◌++◌, length, take, drop, find, slice_set, ◌*◌, Option, Some, None, is_some, is_none, option_map, Result, MatchResult, MatchOption}
use Rattle.std.specs.List.{fold}
use Rattle.disk_model.specs.Storage.{is_empty}
use Rattle.machine_model.specs.States.{State, Ran, stopped_at}
use Rattle.kernel_model.specs.Entries.{Entry}
use Rattle.kernel_model.specs.State.{Process}
use Rattle.kernel_model.specs.Steps.{step}
use Rattle.kernel_model.specs.Answers.{Kernel, Lending, lending_at, quantum_out, now, process_of, is_lent, loans_out, limit, Refuses, with_event, with_events, count_at, has_ended, outcome_of}
use Rattle.kernel_model.specs.declared.answer.Answer.{Answer}
use Rattle.kernel_model.specs.declared.answer.Answer.TheVariants as answer_of
use Rattle.kernel_model.specs.declared.answer.Outcome.{Outcome}
use Rattle.kernel_model.specs.declared.answer.Refused.{Refused}
use Rattle.kernel_model.specs.declared.answer.Refused.TheVariants as refused
use Rattle.kernel_model.specs.declared.event.Event.{Event}
use Rattle.kernel_model.specs.declared.event.Event.TheVariants.{Turn, Enter}
use Rattle.kernel_model.specs.declared.standing.Standing.{Standing}
use Rattle.kernel_model.specs.declared.standing.Standing.TheVariants as standing

-- whether process p waits after an entry, where it waited before so: an event that told a process something ends all
-- waiting, and one of p that wrote nothing begins it
abbrev pub waits_after : ℕ → Bool → Entry → Bool
waits_after p before e = if is_some e.item then false else if (e.process == p) && is_empty e.writes then true else before

-- the last Enter of process p had to wait, and no Enter was replied to since
abbrev pub is_waiting : ℕ → List Entry → Bool
is_waiting p log = fold (waits_after p) false log

-- process p may be lent for a quantum: it is there, has not ended, is not lent, has room for the quantum and one more
-- instruction, and does not wait
abbrev pub is_lendable : Kernel → ℕ → ℕ → Bool
is_lendable k quantum p =
    is_some (process_of k p) && not (has_ended (process_of k p)) && not (is_lent k p)
    && nat_le (count_at (process_of k p) + quantum + 1) limit && not (is_waiting p (now k).log)

-- 1 to n
abbrev pub numbers_to : ℕ → List ℕ
numbers_to zero = []
numbers_to (suc n) = numbers_to n ++ suc n ∷ []

-- the first process that is lendable after the one last lent, by rising number and round again
abbrev pub pick : Kernel → ℕ → Option ℕ
pick k quantum =
    let all = numbers_to (length (now k).sync.processes) in
    find (is_lendable k quantum) (drop k.last_lent all ++ take k.last_lent all)

-- nothing is lent, and no process is lendable for a quantum
abbrev pub is_over : Kernel → ℕ → Bool
is_over k quantum = loans_out k == 0 && is_none (pick k quantum)

-- how process p stands, if it is there: the first of these that holds
abbrev pub standing_of : Kernel → ℕ → Standing
standing_of k p =
    if has_ended (process_of k p) then standing.Ended
    else if is_lent k p then standing.Lent
    else if is_waiting p (now k).log then standing.Waits
    else standing.Free

-- there is no room for the two events of one more loan
abbrev pub is_full_for_loan : Kernel → Bool
is_full_for_loan k = nat_lt (limit - 2) (length k.history + 2 * loans_out k)

-- how many loans a process had, if it is there
abbrev pub loans_in : Option Lending → ℕ
loans_in None = 0
loans_in (Some lending) = lending.loans

-- how many loans of process p there were
abbrev pub loan_count : Kernel → ℕ → ℕ
loan_count k p = loans_in (lending_at k.lendings p)

-- process p now stands so with its loans
abbrev pub put_lending : List Lending → ℕ → Lending → List Lending
put_lending lendings zero lending = lendings
put_lending lendings (suc n) lending = slice_set lendings n lending

-- a loan as it is handed out: `number` is its number among the loans of the process, from 1
pub record LoanOut : Type 0 where
  pub process : ℕ
  pub number : ℕ
  pub quantum : ℕ
  pub began : State  -- the state from which it runs
  pub machine : State  -- the machine to be run

-- the core after one more loan
abbrev pub with_loan : Kernel → ℕ → ℕ → Kernel
with_loan k p quantum = record k {
  lendings = put_lending k.lendings p (record { loans = loan_count k p + 1; out = Some quantum });
  last_lent = p;
}

-- the loan is the next one: of the process picked, of its state as it now stands
pub record IsNextLoan (old new : Kernel) (quantum : ℕ) (loan : LoanOut) : Type 0 where
  pub picked : pick old quantum ≡ Some loan.process
  pub number : loan.number ≡ loan_count old loan.process + 1
  pub asked : loan.quantum ≡ quantum
  pub began : option_map (λ (p : Process). p.state) (process_of old loan.process) ≡ Some loan.began
  pub machine : loan.machine ≡ loan.began
  pub noted : new ≡ with_loan old loan.process quantum

-- why no loan is given, memory aside
abbrev pub loan_refusal : Kernel → Option Refused
loan_refusal k = if is_full_for_loan k then Some refused.Budget else None

-- A loan is given where a process is lendable, and None where there is none; nothing joins the history. Memory can be wanting only
-- where a process is lendable.
abbrev pub Lends : Kernel → ℕ → Kernel → Result (Option LoanOut) Refused → Type 0
Lends old quantum new result = MatchResult result
    (λ given. (loan_refusal old ≡ None) × MatchOption given ((pick old quantum ≡ None) × (new ≡ old)) (λ loan. IsNextLoan old new quantum loan))
    (λ why. Refuses (loan_refusal old) why × (why ≡ refused.OutOfMemory → is_some (pick old quantum) ≡ true) × (new ≡ old))

-- a loan's result as it is handed in: how far the run of its quantum came, from the state it began from
pub record LoanResult : Type 0 where
  pub process : ℕ
  pub number : ℕ
  pub quantum : ℕ
  pub began : State
  pub reached : Ran

-- the result is of the loan that its process is out on
pub record IsOfLoan (k : Kernel) (r : LoanResult) : Type 0 where
  pub lent : quantum_out (lending_at k.lendings r.process) ≡ Some r.quantum
  pub number : r.number ≡ loan_count k r.process
  pub began : option_map (λ (p : Process). p.state) (process_of k r.process) ≡ Some r.began

-- the core once process p is back
abbrev pub returned : Kernel → ℕ → Kernel
returned k p = record k { lendings = put_lending k.lendings p (record { loans = loan_count k p; out = None }) }

-- the events that a result becomes: a Turn, and an Enter where the state reached stands at a call or a trap
abbrev pub events_of : LoanResult → List Event
events_of r = Turn r.process r.reached.count ∷ (if is_some (stopped_at r.reached.state) then Enter r.process ∷ [] else [])

-- the core once the result is taken back
abbrev pub settled : Kernel → LoanResult → Kernel
settled k r = with_events (returned k r.process) (events_of r)

-- what the Enter of process p came to, which follows a Turn of n instructions
abbrev pub outcome_after : Kernel → ℕ → ℕ → Outcome
outcome_after k p n = outcome_of (step (now (with_event k (Turn p n))).sync (Enter p)).entry.item

-- what the result's Enter came to, if it has one
abbrev pub settled_outcome : Kernel → LoanResult → Option Outcome
settled_outcome k r = if is_some (stopped_at r.reached.state) then Some (outcome_after k r.process r.reached.count) else None

-- the answer to a result that is taken back
abbrev pub settled_answer : Kernel → LoanResult → Answer
settled_answer k r = answer_of.Settled r.reached.count r.reached.stop (settled_outcome k r)
