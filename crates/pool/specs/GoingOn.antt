-- A worker that goes on with the process of its loan, without the queue of results.
use Rattle.std.specs.Prelude.{◌≡◌, ℕ, zero, suc, ◌+◌, ◌≤◌, [], ◌∷◌, Bool, true, false, Option, None, Some, Result, Ok, Err, MatchOption, MatchResult}
use Rattle.kernel_step.specs.declared.loan.Rejected.{Rejected}
use Rattle.bursts.specs.Holdings.{Holding, grown, lent_to}
use Rattle.bursts.specs.LoanIds.{id_of_result}
use Rattle.bursts.specs.declared.fault.WorkFault.{WorkFault}
use Rattle.bursts.specs.declared.fault.WorkFault.TheVariants as fault
use Rattle.bursts.specs.declared.loan_id.LoanId.{LoanId}
use Rattle.bursts.specs.declared.totals.Totals.{Totals}
use Rattle.pool.specs.declared.told.Told.TheVariants as told
use Rattle.pool.specs.Lending.{IsLoanRefusal, IsNothingLendable}
use Rattle.pool.specs.Fetching.{FindsNothing}
use Rattle.pool.specs.Seats.{Seated}
use Rattle.pool.specs.Settled.{IsOfOne, SomeCoreRejects}
use Rattle.pool.specs.Turns.{AfterFetch}

-- from one gate to the other it was held so many times, each time with this process
abbrev pub HeldTimes : {G : Type 0} → (G → ℕ → G → Type 0) → G → G → ℕ → ℕ → Type 0
HeldTimes holds old new pid zero = new ≡ old
HeldTimes {G} holds old new pid (suc times) = (m : G) × HeldTimes holds old m pid times × holds m pid new

-- The result of loan x was taken back: the share grew by its Turn alone, or by an Enter of the same process too. Its process was lent
-- again as loan y, for what is left of the quantum, and the share notes that. Or it was not.
abbrev pub GoesOnce : Holding → LoanId → Holding → Option LoanId → Type 0
GoesOnce old x new given =
    (t : Totals)
    × IsOfOne t
    × (t.turns ≡ x.pid)
    × MatchOption given (new ≡ grown old t) (λ y. (y.pid ≡ x.pid) × (t.ran + y.quantum ≡ x.quantum) × (new ≡ lent_to (grown old t) (y ∷ [])))

-- the result of loan x was not taken back: it comes back, with a reason for which some core rejects it
abbrev pub ComesBack : Holding → LoanId → Holding → Rejected → Type 0
ComesBack old x new r = (new ≡ old) × (id_of_result r.done ≡ x) × SomeCoreRejects r

-- from loan x on, so many times the result was taken back and its process lent again; the last such loan is y
abbrev pub WentOnTo : ℕ → Holding → LoanId → Holding → LoanId → Type 0
WentOnTo zero old x new y = (new ≡ old) × (y ≡ x)
WentOnTo (suc n) old x new y = (h : Holding) × (z : LoanId) × WentOnTo n old x h z × GoesOnce h z new (Some y)

-- the result of this loan was taken back and nothing was lent, or it was not taken back
abbrev pub EndsAt : {T : Type 0} → Holding → LoanId → Holding → Result T Rejected → Type 0
EndsAt old y new result = MatchResult result (λ _. GoesOnce old y new None) (ComesBack old y new)

-- From loan x on its process was lent again at most 64 times, and then no more. For each of these loans the gate was held once;
-- `held` says of a process that the gate was held so many times, with it.
abbrev pub RunsOn : {T : Type 0} → Holding → LoanId → (ℕ → ℕ → Type 0) → Holding → Result T Rejected → Type 0
RunsOn old x held new result = (n : ℕ) × (n ≤ 64) × held x.pid (suc n) × (h : Holding) × (y : LoanId) × WentOnTo n old x h y × EndsAt h y new result

-- the same seat but for its share
abbrev pub with_share : Seated → Holding → Seated
with_share s h = record s { share = h }

-- the gate was not held
abbrev pub IsNotHeld : (ℕ → ℕ → Type 0) → Type 0
IsNotHeld held = (pid : ℕ) → held pid 0

-- whether there was a loan: it was fetched, and then its process went on
abbrev pub TurnedOn : Seated → ℕ → (ℕ → ℕ → Type 0) → Seated → Bool → Type 0
TurnedOn old q held new false = FindsNothing old told.Idle new × IsNothingLendable q × IsNotHeld held
TurnedOn old q held new true = AfterFetch old q (λ x m. RunsOn {T = Bool} m.share x held new.share (Ok true) × (new ≡ with_share m new.share))

-- Lend: the lending was refused, and nothing was fetched. Settle: a result was not taken back.
abbrev pub FaultedOn : Seated → ℕ → (ℕ → ℕ → Type 0) → Seated → WorkFault → Type 0
FaultedOn old q held new (fault.Lend why) = FindsNothing old (told.Refused why) new × IsLoanRefusal why × IsNotHeld held
FaultedOn old q held new (fault.Settle rejected) = AfterFetch old q (λ x m. RunsOn {T = Bool} m.share x held new.share (Err rejected) × (new ≡ with_share m new.share))

-- what a turn comes to in which the process of a loan goes on
abbrev pub TurnsOn : Seated → ℕ → (ℕ → ℕ → Type 0) → Seated → Result Bool WorkFault → Type 0
TurnsOn old q held new result = MatchResult result (TurnedOn old q held new) (FaultedOn old q held new)
