-- What a worker's turn comes to.
use Rattle.std.specs.Prelude.{◌≡◌, ℕ, [], ◌∷◌, ◌++◌, Result, Ok, Err, MatchResult}
use Rattle.bursts.specs.declared.loan_id.LoanId.{LoanId}
use Rattle.bursts.specs.LoanIds.{id_of_result}
use Rattle.bursts.specs.Totals.{settled_totals}
use Rattle.bursts.specs.Holdings.{Holding, grown, lent_to}
use Rattle.bursts.specs.declared.fault.WorkFault.{WorkFault}
use Rattle.bursts.specs.declared.fault.WorkFault.TheVariants as fault
use Rattle.run_threads.specs.declared.note.Note.{Note}
use Rattle.run_threads.specs.declared.note.Note.TheVariants as note
use Rattle.run_threads.specs.declared.worker.Turned.{Turned}
use Rattle.run_threads.specs.declared.worker.Turned.TheVariants as turned
use Rattle.run_threads.specs.Records.{Record, noted}

-- A loan of the quantum that was asked for was given, the gate was held once, with its process, and its result was handed in, with
-- this note. No more was asked of the desk, and its share came to this.
pub record Worked (r : Record) (quantum : ℕ) (held : ℕ → Type 0) (s : Record) (loan : LoanId) (handed : Note) (share : Holding) : Type 0 where
  pub asked : loan.quantum ≡ quantum
  pub gate : held loan.pid
  pub notes : s.notes ≡ r.notes ++ note.Given loan ∷ handed ∷ []
  pub share_is : s.share ≡ share

-- Idle: there was no loan, and no more was asked. Settled: the result was taken back, with this answer of the desk's.
abbrev pub TurnedOut : Record → ℕ → (ℕ → Type 0) → Record → Turned → Type 0
TurnedOut r quantum held s turned.Idle = s ≡ noted r note.Idle
TurnedOut r quantum held s (turned.Settled a) = (loan : LoanId)
    × Worked r quantum held s loan (note.Accepted loan a) (grown (lent_to r.share (loan ∷ [])) (settled_totals loan.pid a))

-- Lend: the loan was refused for this reason, and no more was asked. Settle: the result was not taken back for this reason, and it
-- is that of the loan given.
abbrev pub FaultedOut : Record → ℕ → (ℕ → Type 0) → Record → WorkFault → Type 0
FaultedOut r quantum held s (fault.Lend why) = s ≡ noted r (note.Refused why)
FaultedOut r quantum held s (fault.Settle kept) =
    let loan = id_of_result kept.done in
    Worked r quantum held s loan (note.Rejected loan kept.why) (lent_to r.share (loan ∷ []))

-- A worker's turn at a desk with the first record leaves it with the second; `held` says of a process that the gate was held once,
-- with it.
abbrev pub TurnsOut : Record → ℕ → (ℕ → Type 0) → Record → Result Turned WorkFault → Type 0
TurnsOut r quantum held s result = MatchResult result (TurnedOut r quantum held s) (FaultedOut r quantum held s)

-- no loan was given in the turn
abbrev pub HadNoLoan : Result Turned WorkFault → Type 0
HadNoLoan (Ok turned.Idle) = Unit {0}
HadNoLoan (Ok (turned.Settled a)) = ⊥
HadNoLoan (Err (fault.Lend why)) = Unit {0}
HadNoLoan (Err (fault.Settle kept)) = ⊥
