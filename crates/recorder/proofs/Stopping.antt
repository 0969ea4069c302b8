-- Why a core, or a recorder, goes no further.
use Rattle.std.proofs.Common.{◌≡◌, ℕ, not, Bool, true, false, if◌then◌else◌, [], ◌∷◌, Option, Some, None, is_some, Result, Ok, Err, IfErr, IfSome, refl, sym, ap, subst, ◌∙◌, inl, inr, true≢false}
use Rattle.disk_model.specs.Storage.{is_empty}
use Rattle.kernel_model.specs.Answers.{Kernel, Refuses, ◌⇒◌, first_of, has_ended, is_full, is_lent, now, process_of}
use Rattle.kernel_model.specs.Drains.{IsDrained}
use Rattle.kernel_model.specs.Loans.{IsOfLoan, Lends, is_full_for_loan, is_waiting, standing_of}
use Rattle.kernel_model.specs.Shown.{end_in, handed}
use Rattle.kernel_model.specs.declared.answer.Answer.{Answer}
use Rattle.kernel_model.specs.declared.answer.Refused.{Refused}
use Rattle.kernel_model.specs.declared.answer.Refused.TheVariants as refused
use Rattle.kernel_model.specs.declared.standing.Standing.{Standing}
use Rattle.kernel_model.specs.declared.standing.Standing.TheVariants as standing
use Rattle.kernel_step.specs.Loaned.{Settles, lent_out, loan_result}
use Rattle.kernel_step.specs.declared.loan.Done.{Done}
use Rattle.kernel_step.specs.declared.loan.Loan.{Loan}
use Rattle.kernel_step.specs.declared.loan.Rejected.{Rejected}
use Rattle.recorder.specs.Recording.{GoesNoFurther, MayRefuse, Recording, Rests}
use Rattle.recorder.proofs.Lending.{rests-not-lent}

at-why : (k : Kernel) (why given : Refused) → given ≡ why → MayRefuse k why → MayRefuse k given
at-why k why given is h = subst (λ (w : Refused). MayRefuse k w) (sym is) h

-- a drain is refused where a write has failed, the history is full, or memory runs out
drain-refuses : (k : Kernel) (why : Refused) (fine full : Bool) → is_empty (now k).storage.device.failed ≡ fine → is_full k ≡ full
    → Refuses (first_of ((not fine ⇒ refused.DiskFailed) ∷ (full ⇒ refused.Budget) ∷ [])) why → MayRefuse k why
drain-refuses k why false full empty filled h = at-why k refused.DiskFailed why h (λ none. true≢false (sym none ∙ empty))
drain-refuses k why true true empty filled h = at-why k refused.Budget why h (inl filled)
drain-refuses k why true false empty filled h = at-why k refused.OutOfMemory why h tt

pub drained-refuses : (old new : Kernel) (result : Result (Unit {0}) Refused) → IsDrained old new result → IfErr result (λ why. MayRefuse new why)
drained-refuses old new (Ok done) h = tt
drained-refuses old new (Err why) h = drain-refuses new why (is_empty (now new).storage.device.failed) (is_full new) refl refl h.outcome.1

-- a loan is refused where the history has no room for one, or memory runs out
lend-refuses : (k : Kernel) (why : Refused) (full : Bool) → is_full_for_loan k ≡ full → Refuses (if full then Some refused.Budget else None) why → MayRefuse k why
lend-refuses k why true filled h = at-why k refused.Budget why h (inr filled)
lend-refuses k why false filled h = at-why k refused.OutOfMemory why h tt

pub lent-refuses : (old new : Kernel) (n : ℕ) (given : Result (Option Loan) Refused) → Lends old n new (lent_out given) → IfErr given (λ why. MayRefuse new why)
lent-refuses old new n (Ok given) h = tt
lent-refuses old new n (Err why) h =
    subst (λ (k : Kernel). MayRefuse k why) (sym h.2) (lend-refuses old why (is_full_for_loan old) refl h.0)

-- a result of a loan that is out is refused for want of memory alone
pub settled-refuses : (old new : Kernel) (done : Done) (result : Result Answer Rejected) → Settles old done new result → IsOfLoan old (loan_result done)
    → IfErr result (λ (r : Rejected). MayRefuse new r.why)
settled-refuses old new done (Ok a) h own = tt
settled-refuses old new done (Err r) h own =
    let only = h.own_only (λ stranger. h.stranger stranger own) in
    at-why new refused.OutOfMemory r.why only.0 tt

-- where a core may refuse to go on, a recorder goes no further
pub goes-no-further : (r : Recording) (why : Refused) → MayRefuse r.kernel why → GoesNoFurther r why
goes-no-further r refused.Budget h = inr h
goes-no-further r refused.DiskFailed h = h
goes-no-further r refused.OutOfMemory h = tt
goes-no-further r refused.NoProcess h = absurd h
goes-no-further r refused.Ended h = h
goes-no-further r refused.Lent h = absurd h
goes-no-further r refused.NotStopped h = h
goes-no-further r refused.GroupInFlight h = h
goes-no-further r refused.NothingToCut h = h
goes-no-further r refused.NoSuchWrite h = h
goes-no-further r refused.Stranger h = h

-- where none runs on, and there is no such process
pub no-process : (r : Recording) (why : Refused) → why ≡ refused.NoProcess → process_of r.kernel r.process ≡ None → Rests r.kernel → GoesNoFurther r why
no-process r why is none rests = subst (λ (w : Refused). GoesNoFurther r w) (sym is) (none, rests)

-- where memory runs out
pub no-memory : (r : Recording) (why : Refused) → why ≡ refused.OutOfMemory → GoesNoFurther r why
no-memory r why is = subst (λ (w : Refused). GoesNoFurther r w) (sym is) tt

-- ---- how a process stands
abbrev stands : Bool → Bool → Bool → Standing
stands ended lent waits = if ended then standing.Ended else if lent then standing.Lent else if waits then standing.Waits else standing.Free

-- a process has ended where its end is handed out
stands-ended : (k : Kernel) (p status : ℕ) → has_ended (process_of k p) ≡ is_some (end_in (handed (now k) p)) → end_in (handed (now k) p) ≡ Some status
    → standing_of k p ≡ standing.Ended
stands-ended k p status told ended =
    ap (λ (b : Bool). stands b (is_lent k p) (is_waiting p (now k).log)) (told ∙ ap (λ (o : Option ℕ). is_some o) ended)

pub told-ended : (k : Kernel) (p : ℕ) (o : Option ℕ) → has_ended (process_of k p) ≡ is_some (end_in (handed (now k) p)) → o ≡ end_in (handed (now k) p)
    → IfSome o (λ status. standing_of k p ≡ standing.Ended)
told-ended k p None told is = tt
told-ended k p (Some status) told is = stands-ended k p status told (sym is)

-- where none runs on, a process of which no end is handed out, and that does not wait, is free
pub stands-free : (k : Kernel) (p : ℕ) → has_ended (process_of k p) ≡ is_some (end_in (handed (now k) p)) → end_in (handed (now k) p) ≡ None → Rests k
    → (standing_of k p ≡ standing.Waits → ⊥) → standing_of k p ≡ standing.Free
stands-free k p told none rests waits_not = by (is_waiting p (now k).log) refl
  where
    all : (b : Bool) → is_waiting p (now k).log ≡ b → standing_of k p ≡ stands false false b
    all b waits =
        ap (λ (e : Bool). stands e (is_lent k p) (is_waiting p (now k).log)) (told ∙ ap (λ (o : Option ℕ). is_some o) none)
        ∙ ap (λ (l : Bool). stands false l (is_waiting p (now k).log)) (rests-not-lent k p rests)
        ∙ ap (λ (w : Bool). stands false false w) waits

    by : (b : Bool) → is_waiting p (now k).log ≡ b → standing_of k p ≡ standing.Free
    by true waits = absurd (waits_not (all true waits))
    by false waits = all false waits
