-- What a recorder is to its callers, and what it finds.
use Rattle.std.specs.Prelude.{◌≡◌, ◌≢◌, ◌⊎◌, ℕ, ◌+◌, ◌^◌, true, false, List, [], ◌∷◌, ◌++◌, length, drop, Some, None, is_some, option_map, refl}
use Rattle.std.specs.Coded.{Coded, code_by, coded×, coded_ℕ}
use Rattle.machine_model.specs.declared.reply.Reply.{Reply}
use Rattle.kernel_model.specs.Answers.{Kernel, Lending, is_full, lending_at, now, process_of, quantum_out}
use Rattle.kernel_model.specs.Codes.{kernel_code}
use Rattle.kernel_model.specs.Drains.{HasNoFailure}
use Rattle.kernel_model.specs.Loans.{LoanOut, is_full_for_loan, is_over, loan_count, pick, standing_of}
use Rattle.kernel_model.specs.Shown.{handed, replies_in, end_in}
use Rattle.kernel_model.specs.State.{Process}
use Rattle.kernel_model.specs.declared.answer.Refused.{Refused}
use Rattle.kernel_model.specs.declared.answer.Refused.TheVariants as refused
use Rattle.kernel_model.specs.declared.event.Event.{Event}
use Rattle.kernel_model.specs.declared.standing.Standing.TheVariants as standing
use Rattle.recorder.specs.declared.recorded.Recorded.{Recorded}
use Rattle.recorder.specs.declared.recorded.Recorded.TheVariants as recorded

-- a core, the process whose replies are recorded, and how many of them were taken
pub record Recording : Type 0 where
  pub kernel : Kernel
  pub process : ℕ
  pub taken : ℕ

-- by this code a proof tells recordings apart
abbrev pub recording_code : Coded Recording
recording_code = code_by (Kernel × (ℕ × ℕ)) (coded× kernel_code (coded× coded_ℕ coded_ℕ)) (λ r. (r.kernel, (r.process, r.taken))) (λ p. record { kernel = p.0; process = p.1.0; taken = p.1.1 }) (λ _. refl)

-- the most instructions that a process runs at a time
abbrev pub quantum : ℕ
quantum = 2 ^ 16

-- the trace of a process: the replies that it was handed
abbrev pub trace_of : Kernel → ℕ → List Reply
trace_of k process = replies_in (handed (now k) process)

-- the trace of the process that is recorded
abbrev pub trace : Recording → List Reply
trace r = trace_of r.kernel r.process

-- those of its trace that were not taken
abbrev pub untaken : Recording → List Reply
untaken r = drop r.taken (trace r)

-- One core is another one after more events. It comes from the same boot.
pub record Grows (old new : Kernel) : Type 0 where
  pub boot : new.boot ≡ old.boot
  pub more : List Event
  pub history : new.history ≡ old.history ++ more

-- no process runs on: none is lendable, and none is out on loan
abbrev pub Rests : Kernel → Type 0
Rests k = is_over k quantum ≡ true

-- The trace of a process that is there begins in the other core with what it is in this one.
abbrev pub Lengthens : Kernel → Kernel → ℕ → Type 0
Lengthens old new process =
    is_some (process_of old process) ≡ true → (more : List Reply) × (trace_of new process ≡ trace_of old process ++ more)

-- no process is lendable, and one is out on loan: else the core would rest
abbrev pub AwaitsLoans : Kernel → Type 0
AwaitsLoans k = (pick k quantum ≡ None) × (is_over k quantum ≡ false)

-- What a recorder finds that was one and is now another, by how many replies were taken before. The replies are exactly those of the
-- trace that were not taken, and at least one. An end or a wait is found only where each reply was taken.
abbrev pub Finds : ℕ → Recording → Recorded → Type 0
Finds before new (recorded.Replies replies) =
    (replies.items ≡ drop before (trace new)) × (replies.items ≢ []) × (new.taken ≡ length (trace new))
Finds before new (recorded.Ended status) =
    (untaken new ≡ []) × (standing_of new.kernel new.process ≡ standing.Ended) × (end_in (handed (now new.kernel) new.process) ≡ Some status) × (new.taken ≡ before)
Finds before new recorded.Waits =
    (untaken new ≡ []) × (standing_of new.kernel new.process ≡ standing.Waits) × Rests new.kernel × (new.taken ≡ before)
Finds before new recorded.Going = new.taken ≡ before

-- each reply of the process was taken and no end of it is handed out, if there is such a process
abbrev pub HasNone : Recording → Type 0
HasNone r =
    is_some (process_of r.kernel r.process) ≡ true → (untaken r ≡ []) × (end_in (handed (now r.kernel) r.process) ≡ None)

-- what is found is something of the process's: replies, or its end
abbrev pub Tells : Recorded → Type 0
Tells (recorded.Replies replies) = Unit {0}
Tells (recorded.Ended status) = Unit {0}
Tells recorded.Waits = ⊥
Tells recorded.Going = ⊥

-- how many loans these processes had
abbrev pub loans_among : List Lending → ℕ
loans_among [] = 0
loans_among (l ∷ ls) = l.loans + loans_among ls

-- how many loans a core gave
abbrev pub loans_given : Kernel → ℕ
loans_given k = loans_among k.lendings

-- the core has this loan out
pub record IsOut (k : Kernel) (l : LoanOut) : Type 0 where
  pub lent : quantum_out (lending_at k.lendings l.process) ≡ Some l.quantum
  pub number : l.number ≡ loan_count k l.process
  pub began : option_map (λ (p : Process). p.state) (process_of k l.process) ≡ Some l.began

-- the history has no room for an event, or for a loan
abbrev pub IsFull : Kernel → Type 0
IsFull k = (is_full k ≡ true) ⊎ (is_full_for_loan k ≡ true)

-- why a core may refuse to go on: its history is full, a write of its disk has failed, or memory runs out
abbrev pub MayRefuse : Kernel → Refused → Type 0
MayRefuse k refused.Budget = IsFull k
MayRefuse k refused.DiskFailed = HasNoFailure (now k) → ⊥
MayRefuse k refused.OutOfMemory = Unit {0}
MayRefuse k refused.NoProcess = ⊥
MayRefuse k refused.Ended = ⊥
MayRefuse k refused.Lent = ⊥
MayRefuse k refused.NotStopped = ⊥
MayRefuse k refused.GroupInFlight = ⊥
MayRefuse k refused.NothingToCut = ⊥
MayRefuse k refused.NoSuchWrite = ⊥
MayRefuse k refused.Stranger = ⊥

-- Why a recorder goes no further: one of these, or what its processes are at. Where none runs on, there is no such process, or it is
-- free, so that it has no room for as many instructions. Else one is out on loan.
abbrev pub GoesNoFurther : Recording → Refused → Type 0
GoesNoFurther r refused.Budget = (Rests r.kernel × (standing_of r.kernel r.process ≡ standing.Free)) ⊎ IsFull r.kernel
GoesNoFurther r refused.DiskFailed = HasNoFailure (now r.kernel) → ⊥
GoesNoFurther r refused.OutOfMemory = Unit {0}
GoesNoFurther r refused.NoProcess = (process_of r.kernel r.process ≡ None) × Rests r.kernel
GoesNoFurther r refused.Lent = AwaitsLoans r.kernel
GoesNoFurther r refused.Ended = ⊥
GoesNoFurther r refused.NotStopped = ⊥
GoesNoFurther r refused.GroupInFlight = ⊥
GoesNoFurther r refused.NothingToCut = ⊥
GoesNoFurther r refused.NoSuchWrite = ⊥
GoesNoFurther r refused.Stranger = ⊥
