-- What a desk's record says, and what its calls answer.
use Rattle.std.specs.Prelude.{◌≡◌, ◌||◌, ℕ, Bool, List, [], ◌∷◌, ◌++◌, Option, Some, None, Result, Ok, Err}
use Rattle.disk_model.specs.declared.change.Piece.{Piece}
use Rattle.kernel_model.specs.Answers.{Kernel, Applies, now, in_flight, wants_cut}
use Rattle.kernel_model.specs.Loans.{Lends, is_over}
use Rattle.kernel_model.specs.declared.answer.Answer.{Answer}
use Rattle.kernel_model.specs.declared.answer.Refused.{Refused}
use Rattle.kernel_model.specs.declared.event.Event.{Event}
use Rattle.kernel_step.specs.Loaned.{lent_out, Settles}
use Rattle.kernel_step.specs.declared.loan.Loan.{Loan}
use Rattle.kernel_step.specs.declared.loan.Done.{Done}
use Rattle.kernel_step.specs.declared.loan.Rejected.{Rejected}
use Rattle.bursts.specs.declared.loan_id.LoanId.{LoanId}
use Rattle.bursts.specs.LoanIds.{id_of_loan}
use Rattle.bursts.specs.Benches.{OnBench}
use Rattle.bursts.specs.Holdings.{Holding}
use Rattle.run_threads.specs.declared.note.Note.{Note}
use Rattle.run_threads.specs.declared.note.Note.TheVariants as note

-- what was asked of a desk and what it answered, in order, and its share
pub record Record : Type 0 where
  pub notes : List Note
  pub share : Holding

-- the record with one note more
abbrev pub noted : Record → Note → Record
noted r n = record { notes = r.notes ++ n ∷ []; share = r.share }

-- the note of a loan that was asked for, by what the desk gave
abbrev pub lend_note : Result (Option Loan) Refused → Note
lend_note (Ok (Some l)) = note.Given (id_of_loan l)
lend_note (Ok None) = note.Idle
lend_note (Err why) = note.Refused why

-- the note of a loan's result that was handed in, by what the desk answered
abbrev pub result_note : LoanId → Result Answer Rejected → Note
result_note id (Ok a) = note.Accepted id a
result_note id (Err kept) = note.Rejected id kept.why

-- Which bench stood under the lock no clause of a desk can name. So these say that there is one which answers so. Stop is not said
-- there.

-- some bench gives this for a quantum
pub record SomeBenchLends (quantum : ℕ) (result : Result (Option Loan) Refused) : Type 0 where
  pub old : OnBench
  pub new : OnBench
  pub lends : Lends old.core quantum new.core (lent_out result)
  pub stopped : new.stopped ≡ old.stopped

-- some bench answers this to the result of a loan
pub record SomeBenchSettles (done : Done) (result : Result Answer Rejected) : Type 0 where
  pub old : OnBench
  pub new : OnBench
  pub settles : Settles old.core done new.core result
  pub stopped : new.stopped ≡ old.stopped

-- some bench answers this to an event
pub record SomeBenchApplies (event : Event) (result : Result Answer Refused) : Type 0 where
  pub old : OnBench
  pub new : OnBench
  pub applies : Applies old.core event new.core result
  pub stopped : new.stopped ≡ old.stopped

-- at some bench the work is over for a quantum, or is not: stop was said there, or its core is over
pub record SomeBenchIsOver (quantum : ℕ) (over : Bool) : Type 0 where
  pub bench : OnBench
  pub is : over ≡ (bench.stopped || is_over bench.core quantum)

-- of some core this is the write in flight that begins first, if there is one
pub record SomeCoreHasFirst (at : Option ℕ) : Type 0 where
  pub core : Kernel
  pub first : at ≡ in_flight (now core)

-- these are the writes in flight at some core
pub record SomeCoreHasInFlight (pieces : List Piece) : Type 0 where
  pub core : Kernel
  pub in_flight : pieces ≡ (now core).storage.device.in_flight

-- some core wants a Cut, or does not
pub record SomeCoreWantsCut (wanted : Bool) : Type 0 where
  pub core : Kernel
  pub is : wanted ≡ wants_cut (now core)
