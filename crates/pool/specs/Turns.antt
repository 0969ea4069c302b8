-- What a turn at a seat comes to.
use Rattle.std.specs.Prelude.{◌≡◌, ◌⊎◌, ◌≤◌, ◌<◌, ℕ, ◌+◌, List, [], ◌∷◌, ◌++◌, length, Bool, None, Some, Ok, Err, Result, IfSome, MatchResult}
use Rattle.kernel_step.specs.declared.loan.Rejected.{Rejected}
use Rattle.bursts.specs.Holdings.{grown}
use Rattle.bursts.specs.declared.fault.WorkFault.{WorkFault}
use Rattle.bursts.specs.declared.fault.WorkFault.TheVariants as fault
use Rattle.bursts.specs.declared.loan_id.LoanId.{LoanId}
use Rattle.pool.specs.declared.settling.Settling.{Settling}
use Rattle.pool.specs.declared.told.Told.TheVariants as told
use Rattle.pool.specs.declared.turning.Pooled.{Pooled}
use Rattle.pool.specs.declared.turning.Pooled.TheVariants as pooled
use Rattle.pool.specs.Lending.{IsLoanRefusal, IsNothingLendable}
use Rattle.pool.specs.Fetching.{Fetched, FindsNothing}
use Rattle.pool.specs.Settled.{SomeCoreRejects, Settlement, loans_in, count_entered, sum_of_entered, totals_in, rejected_in, sum_of_processes}
use Rattle.pool.specs.Seats.{Seated, with_settled, told_so}

-- These results were put into the queue, and as many as were settled were taken from it, of these process numbers, with the one
-- rejected, if there was one. The events are a Turn of each and the Enters that came after them. The share grew by what was
-- settled. Nothing else changed at the seat but how often it found the queue full and empty. Some core rejects the one rejected so.
pub record Advances (old new : Seated) (xs : List LoanId) (s : Settling) : Type 0 where
  pub done : List Settlement
  pub put : new.results.hand.put ≡ old.results.hand.put ++ xs
  pub taken : new.results.hand.taken ≡ old.results.hand.taken ++ (loans_in done ++ rejected_in s.rejected)
  pub settled : length done ≡ s.settled
  pub turns : sum_of_processes (loans_in done) ≡ s.turns
  pub events : s.settled ≤ s.events
  pub entered : s.settled + count_entered done ≡ s.events
  pub enters : sum_of_entered done ≡ s.enters
  pub share : new.share ≡ grown old.share (totals_in s)
  pub refused : IfSome s.rejected SomeCoreRejects
  pub looks : old.results.empty ≤ new.results.empty
  pub rest : new ≡ with_settled old new.results new.share

-- the same, and none was rejected
abbrev pub AllAccepted : Seated → Seated → List LoanId → Settling → Type 0
AllAccepted old new xs s = Advances old new xs s × (s.rejected ≡ None)

-- the same of some settling, which ended with this result
abbrev pub Rejects : Seated → Seated → List LoanId → Rejected → Type 0
Rejects old new xs r = (s : Settling) × Advances old new xs s × (s.rejected ≡ Some r)

-- the same, where this result was put in or was not
abbrev pub RejectsSoon : Seated → Seated → LoanId → Rejected → Type 0
RejectsSoon old new x r = Rejects old new [] r ⊎ Rejects old new (x ∷ []) r

-- the queue was found empty since, or 1,024 results were settled
abbrev pub IsCleared : Seated → Seated → Settling → Type 0
IsCleared old new s = (old.results.empty < new.results.empty) ⊎ (1024 ≤ s.settled)

-- these results were put in, all were accepted, and it ended so
abbrev pub Clears : Seated → Seated → List LoanId → Settling → Type 0
Clears old new xs s = AllAccepted old new xs s × IsCleared old new s

-- A loan was fetched, and P of it and of the seat after that.
abbrev pub AfterFetch : Seated → ℕ → (LoanId → Seated → Type 0) → Type 0
AfterFetch old q P = (x : LoanId) × (m : Seated) × Fetched old q m x × P x m

-- Idle: nothing was fetched, since the bench lent nothing. Worked: the gate was held with the process of the loan fetched, and the
-- loan's result, and no other, was put into the queue, which was settled until it was empty, or 1,024 results were.
abbrev pub TurnedOut : Seated → ℕ → (ℕ → Type 0) → Seated → Pooled → Type 0
TurnedOut old q held new pooled.Idle = FindsNothing old told.Idle new × IsNothingLendable q
TurnedOut old q held new (pooled.Worked s) = AfterFetch old q (λ x m. held x.pid × Clears m new (x ∷ []) s)

-- Lend: the lending was refused, and nothing was fetched. Settle: a result, of whichever worker, was not taken back.
abbrev pub FaultedOut : Seated → ℕ → (ℕ → Type 0) → Seated → WorkFault → Type 0
FaultedOut old q held new (fault.Lend why) = FindsNothing old (told.Refused why) new × IsLoanRefusal why
FaultedOut old q held new (fault.Settle rejected) = AfterFetch old q (λ x m. held x.pid × RejectsSoon m new x rejected)

-- What a turn comes to; `held` says of a process that the gate was held once, with it.
abbrev pub TurnsOut : Seated → ℕ → (ℕ → Type 0) → Seated → Result Pooled WorkFault → Type 0
TurnsOut old q held new result = MatchResult result (TurnedOut old q held new) (FaultedOut old q held new)

-- no loan was fetched in the turn
abbrev pub HadNoLoan : Result Pooled WorkFault → Type 0
HadNoLoan (Ok pooled.Idle) = Unit {0}
HadNoLoan (Ok (pooled.Worked s)) = ⊥
HadNoLoan (Err (fault.Lend why)) = Unit {0}
HadNoLoan (Err (fault.Settle rejected)) = ⊥

-- What was in the queue was settled, and then the bench answered whether the work is over; or a result was not taken back.
abbrev pub Asks : Seated → Seated → Result Bool Rejected → Type 0
Asks old new result = MatchResult result (λ over. (m : Seated) × (s : Settling) × Clears old m [] s × (new ≡ told_so m (told.Over over))) (Rejects old new [])
