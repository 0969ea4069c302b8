-- Cores that events make another one of.
use Rattle.std.proofs.Common.{◌≡◌, ℕ, ◌<◌, ◌≤◌, List, [], ◌∷◌, ◌++◌, length, length-append, Option, Some, None, Result, Ok, Err, refl, sym, ap, subst, ◌∙◌, append_assoc, arith}
use Rattle.std.proofs.lemmas.List.{append-nil}
use Rattle.kernel_model.specs.Answers.{Kernel, with_event, with_events}
use Rattle.kernel_model.specs.Drains.{Drains, IsDrained}
use Rattle.kernel_model.specs.Loans.{LoanOut, LoanResult, Lends, returned, events_of, settled}
use Rattle.kernel_model.specs.declared.answer.Answer.{Answer}
use Rattle.kernel_model.specs.declared.answer.Refused.{Refused}
use Rattle.kernel_model.specs.declared.event.Event.{Event}
use Rattle.kernel_model.proofs.Runs.{history-with_events}
use Rattle.kernel_step.specs.Loaned.{Settles, loan_result}
use Rattle.kernel_step.specs.declared.loan.Done.{Done}
use Rattle.kernel_step.specs.declared.loan.Rejected.{Rejected}
use Rattle.recorder.specs.Recording.{Grows}

pub grows-none : (k : Kernel) → Grows k k
grows-none k = record { boot = refl; more = []; history = sym (append-nil k.history) }

pub grows-same : (j k : Kernel) → k ≡ j → Grows j k
grows-same j k e = subst (λ (x : Kernel). Grows j x) (sym e) (grows-none j)

pub grows-then : (i j k : Kernel) → Grows i j → Grows j k → Grows i k
grows-then i j k g h = record {
  boot = h.boot ∙ g.boot;
  more = g.more ++ h.more;
  history = h.history ∙ ap (λ (es : List Event). es ++ h.more) g.history ∙ append_assoc i.history g.more h.more;
}

pub boot-with_events : (k : Kernel) (es : List Event) → (with_events k es).boot ≡ k.boot
boot-with_events k [] = refl
boot-with_events k (e ∷ es) = boot-with_events (with_event k e) es

pub grows-events : (k : Kernel) (es : List Event) → Grows k (with_events k es)
grows-events k es = record { boot = boot-with_events k es; more = es; history = history-with_events k es }

-- by a loan
pub grows-lent : (old new : Kernel) (n : ℕ) (given : Result (Option LoanOut) Refused) → Lends old n new given → Grows old new
grows-lent old new n (Ok None) h = grows-same old new h.1.1
grows-lent old new n (Ok (Some loan)) h =
    subst (λ (k : Kernel). Grows old k) (sym h.1.noted) (record { boot = refl; more = []; history = sym (append-nil old.history) })
grows-lent old new n (Err why) h = grows-same old new h.2

pub lent-history : (old new : Kernel) (n : ℕ) (given : Result (Option LoanOut) Refused) → Lends old n new given → new.history ≡ old.history
lent-history old new n (Ok None) h = ap (λ (k : Kernel). k.history) h.1.1
lent-history old new n (Ok (Some loan)) h = ap (λ (k : Kernel). k.history) h.1.noted
lent-history old new n (Err why) h = ap (λ (k : Kernel). k.history) h.2

-- by a loan's result
pub grows-settled : (old new : Kernel) (r : LoanResult) → new ≡ settled old r → Grows old new
grows-settled old new r e =
    let g : Grows (returned old r.process) (settled old r) = grows-events (returned old r.process) (events_of r) in
    subst (λ (k : Kernel). Grows old k) (sym e) (record { boot = g.boot; more = g.more; history = g.history })

-- whatever came of a loan's result
pub grows-settles : (old new : Kernel) (done : Done) (result : Result Answer Rejected) → Settles old done new result → Grows old new
grows-settles old new done (Ok a) h = grows-settled old new (loan_result done) h.events
grows-settles old new done (Err r) h = grows-same old new h.err

pub drains-events : (es : List Event) (k new : Kernel) → Drains k es new → new ≡ with_events k es
drains-events [] k new h = h
drains-events (e ∷ es) k new h = drains-events es (with_event k e) new h.4

-- by a drain
pub grows-drained : (old new : Kernel) (result : Result (Unit {0}) Refused) → IsDrained old new result → Grows old new
grows-drained old new result h = subst (λ (k : Kernel). Grows old k) (sym (drains-events h.events old new h.drains)) (grows-events old h.events)

-- ---- how long the history is
pub grows-longer : (old new : Kernel) → Grows old new → length old.history ≤ length new.history
grows-longer old new g =
    let all : length new.history ≡ length (old.history ++ g.more) = ap (λ (es : List Event). length es) g.history in
    let parts = length-append old.history g.more in
    omega (arith, all, parts)

-- a loan adds nothing to it
pub lent-length : (old new : Kernel) (n : ℕ) (given : Result (Option LoanOut) Refused) → Lends old n new given → length new.history ≡ length old.history
lent-length old new n given h = ap (λ (es : List Event). length es) (lent-history old new n given h)

-- a loan's result is an event at least
pub settled-longer : (old new : Kernel) (r : LoanResult) → new ≡ settled old r → length old.history < length new.history
settled-longer old new r e =
    let history = history-with_events (returned old r.process) (events_of r) in
    let all : length new.history ≡ length (old.history ++ events_of r) = ap (λ (k : Kernel). length k.history) e ∙ ap (λ (es : List Event). length es) history in
    let parts = length-append old.history (events_of r) in
    omega (arith, all, parts)

pub settles-longer : (old new : Kernel) (done : Done) (result : Result Answer Rejected) (a : Answer) → Settles old done new result → result ≡ Ok a
    → length old.history < length new.history
settles-longer old new done (Ok b) a h is = settled-longer old new (loan_result done) h.events
settles-longer old new done (Err r) a h is = absurd (let no : ⊥ = cc in no)
