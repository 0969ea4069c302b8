-- What comes of a question to a bench under its lock: b is the bench and r the desk's record before it, c and s are those after it.
use Rattle.std.specs.Prelude.{◌≡◌, ◌||◌, ℕ, Bool, true, [], ◌∷◌, ◌++◌, length, Option, Result, MatchResult}
use Rattle.std.specs.Global.{Vec}
use Rattle.disk_model.specs.declared.change.Piece.{Piece}
use Rattle.kernel_model.specs.Answers.{Applies, now, in_flight, wants_cut}
use Rattle.kernel_model.specs.Loans.{Lends, is_over}
use Rattle.kernel_model.specs.declared.answer.Answer.{Answer}
use Rattle.kernel_model.specs.declared.answer.Refused.{Refused}
use Rattle.kernel_model.specs.declared.event.Event.{Event}
use Rattle.kernel_step.specs.Loaned.{lent_out, Settles}
use Rattle.kernel_step.specs.declared.loan.Loan.{Loan}
use Rattle.kernel_step.specs.declared.loan.Done.{Done}
use Rattle.kernel_step.specs.declared.loan.Rejected.{Rejected}
use Rattle.bursts.specs.LoanIds.{id_of_result}
use Rattle.bursts.specs.Benches.{OnBench}
use Rattle.bursts.specs.Holdings.{GrowsByLend, GrowsBySettle, GrowsByEvent}
use Rattle.run_threads.specs.declared.note.Note.TheVariants as note
use Rattle.run_threads.specs.Records.{Record, noted, lend_note, result_note}

-- it is so of something before a question and of something after it
abbrev pub AtSome : {T : Type 0} → (T → T → Type 0) → Type 0
AtSome {T} P = (before : T) × (after : T) × P before after

-- a loan was asked for
abbrev pub Lent : ℕ → OnBench → Record → OnBench → Record → Result (Option Loan) Refused → Type 0
Lent quantum b r c s result = Lends b.core quantum c.core (lent_out result) × (c.stopped ≡ b.stopped)
    × (s.notes ≡ r.notes ++ lend_note result ∷ []) × GrowsByLend r.share s.share result

-- a result was handed in
abbrev pub Settled : Done → OnBench → Record → OnBench → Record → Result Answer Rejected → Type 0
Settled done b r c s result = Settles b.core done c.core result × (c.stopped ≡ b.stopped)
    × (s.notes ≡ r.notes ++ result_note (id_of_result done) result ∷ []) × GrowsBySettle done.pid r.share s.share result

-- an event was to happen
abbrev pub Applied : Event → OnBench → Record → OnBench → Record → Result Answer Refused → Type 0
Applied event b r c s result = Applies b.core event c.core result × (c.stopped ≡ b.stopped)
    × (s.notes ≡ r.notes ++ note.Applied event result ∷ []) × GrowsByEvent event r.share s.share result

-- It was asked where the first write in flight begins, which are in flight, whether a Cut is wanted, and whether the work is over.
-- The bench stays as it is.
abbrev pub SawFirst : OnBench → Record → OnBench → Record → Option ℕ → Type 0
SawFirst b r c s first = (c ≡ b) × (first ≡ in_flight (now b.core)) × (s ≡ noted r (note.First first))

abbrev pub SawInFlight : {E : Type 0} → OnBench → Record → OnBench → Record → Result (Vec Piece) E → Type 0
SawInFlight b r c s result = (c ≡ b) × MatchResult result
    (λ pieces. (pieces.items ≡ (now b.core).storage.device.in_flight) × (s ≡ noted r (note.InFlight (length pieces.items))))
    (λ _. s ≡ r)

abbrev pub SawWant : OnBench → Record → OnBench → Record → Bool → Type 0
SawWant b r c s wanted = (c ≡ b) × (wanted ≡ wants_cut (now b.core)) × (s ≡ noted r (note.WantsCut wanted))

abbrev pub SawOver : ℕ → OnBench → Record → OnBench → Record → Bool → Type 0
SawOver quantum b r c s over = (c ≡ b) × (over ≡ (b.stopped || is_over b.core quantum)) × (s ≡ noted r (note.Over quantum over))

-- stop was said, and nothing else was done
abbrev pub SaidStop : OnBench → Record → OnBench → Record → Type 0
SaidStop b r c s = (c ≡ record { core = b.core; stopped = true }) × (s ≡ noted r note.Stopped)
