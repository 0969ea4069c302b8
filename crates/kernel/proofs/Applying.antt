-- Events applied in turn.
use Rattle.std.proofs.Common.{◌≡◌, ℕ, zero, suc, ◌+◌, true, false, List, [], ◌∷◌, ◌++◌, length, take, slice_get, Option, Some, None, Result, Ok, Err, is_err, MatchOption, ◌≤◌, refl, sym, ap, subst, ◌∙◌, arith}
use Rattle.std.proofs.lemmas.Option.{slice_get_past}
use Rattle.kernel_model.specs.Answers.{Kernel, Applies, AllAccepted, refusal, with_event, with_events}
use Rattle.kernel_model.specs.declared.answer.Answer.{Answer}
use Rattle.kernel_model.specs.declared.answer.Refused.{Refused}
use Rattle.kernel_model.specs.declared.event.Event.{Event}
use Rattle.kernel.specs.Applying.{Accepts, AnsweredByRefusal, AppliedUpTo}
use Rattle.kernel.specs.Applying.Accepts.{none, more}

take-snoc : {A : Type 0} (xs : List A) (i : ℕ) (x : A) → slice_get xs i ≡ Some x → take (i + 1) xs ≡ take i xs ++ x ∷ []
take-snoc [] i x e = cc
take-snoc (y ∷ ys) zero x e =
    let same : y ≡ x = cc in
    let one : zero + 1 ≡ suc zero = omega arith in
    ap (λ n. take n (y ∷ ys)) one ∙ ap (λ z. z ∷ []) same
take-snoc (y ∷ ys) (suc i) x e =
    let more : suc i + 1 ≡ suc (i + 1) = omega arith in
    ap (λ n. take n (y ∷ ys)) more ∙ ap (λ zs. y ∷ zs) (take-snoc ys i x e)

one-last : (k : Kernel) (es : List Event) (e : Event) → with_event (with_events k es) e ≡ with_events k (es ++ e ∷ [])
one-last k [] e = refl
one-last k (x ∷ es) e = one-last (with_event k x) es e

pub accepted-more : (k : Kernel) (es : List Event) (e : Event) → AllAccepted k es → refusal (with_events k es) e ≡ None → AllAccepted k (es ++ e ∷ [])
accepted-more k [] e h r = (r, tt)
accepted-more k (x ∷ es) e h r = (h.0, accepted-more (with_event k x) es e h.1 r)

-- one event more is accepted
pub accepts-more : {S : Type 0} (answers : S → Event → Result Answer Refused → S → Type 0) (s t u : S) (events : List Event) (i : ℕ) (e : Event) (r : Result Answer Refused)
    → slice_get events i ≡ Some e → Accepts answers s (take i events) t → answers t e r u → is_err r ≡ false → Accepts answers s (take (i + 1) events) u
accepts-more answers s t u events i e (Ok a) there h answered fine = subst (λ es. Accepts answers s es u) (sym (take-snoc events i e there)) (more e a h answered)
accepts-more answers s t u events i e (Err why) there h answered fine = cc

-- the next one is refused
pub stops-early : {S : Type 0} (answers : S → Event → Result Answer Refused → S → Type 0) (s t u : S) (events : List Event) (i : ℕ) (e : Event) (r : Result Answer Refused)
    → slice_get events i ≡ Some e → Accepts answers s (take i events) t → answers t e r u → is_err r ≡ true → AppliedUpTo answers s events i u
stops-early answers s t u events i e (Ok a) there h answered fault = cc
stops-early answers s t u events i e (Err why) there h answered fault = record {
  before = t;
  accepted = h;
  last = subst (λ (o : Option Event). MatchOption o (u ≡ t) (λ e. AnsweredByRefusal answers t e u)) (sym there) (record { why = why; answered = answered });
}

-- there is none
pub stops-late : {S : Type 0} (answers : S → Event → Result Answer Refused → S → Type 0) (s t : S) (events : List Event) (i : ℕ) → length events ≤ i
    → Accepts answers s (take i events) t → AppliedUpTo answers s events i t
stops-late answers s t events i end h = record {
  before = t;
  accepted = h;
  last = subst (λ (o : Option Event). MatchOption o (t ≡ t) (λ e. AnsweredByRefusal answers t e t)) (sym (slice_get_past events i end)) refl;
}

-- ---- a core's answers
abbrev applies : Kernel → Event → Result Answer Refused → Kernel → Type 0
applies old event result new = Applies old event new result

-- a core after a script
pub record Scripted (first now : Kernel) (events : List Event) : Type 0 where
  pub grown : now ≡ with_events first events
  pub accepted : AllAccepted first events

accepts-scripted : (first now : Kernel) (events : List Event) → Accepts applies first events now → Scripted first now events
accepts-scripted first now events none = record { grown = refl; accepted = tt }
accepts-scripted first now events' (more {es} {t} {u} e a before h) =
    let was = accepts-scripted first t es before in
    record {
      grown = h.2 ∙ ap (λ (k : Kernel). with_event k e) was.grown ∙ one-last first es e;
      accepted = accepted-more first es e was.accepted (subst (λ (k : Kernel). refusal k e ≡ None) was.grown h.0);
    }

-- a core that stops stays as it was before the refused event
last-stays : (before now : Kernel) (o : Option Event) → MatchOption o (now ≡ before) (λ e. AnsweredByRefusal applies before e now) → now ≡ before
last-stays before now None h = h
last-stays before now (Some e) h = h.answered.1

pub stops-scripted : (first now : Kernel) (events : List Event) (count : ℕ) → AppliedUpTo applies first events count now → Scripted first now (take count events)
stops-scripted first now events count h =
    subst (λ (k : Kernel). Scripted first k (take count events)) (sym (last-stays h.before now (slice_get events count) h.last))
    (accepts-scripted first h.before (take count events) h.accepted)
