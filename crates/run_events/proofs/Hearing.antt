-- An observer that is told one event after the other.
use Rattle.std.proofs.Common.{◌≡◌, ℕ, zero, suc, ◌+◌, ◌^◌, ◌≤◌, true, false, List, [], ◌∷◌, ◌++◌, length, take, slice_get, Option, Some, None, Result, Ok, Err, is_err, refl, sym, ap, subst, ◌∙◌, arith, append_assoc, append-nil}
use Rattle.std.specs.Prelude.{flat_map}
use Rattle.std.proofs.lemmas.List.{length-append}
use Rattle.kernel.specs.Keeping.{KeepsLimits}
use Rattle.kernel_model.specs.Answers.{Kernel, with_event, with_events, refusal, Refuses}
use Rattle.kernel_model.specs.declared.answer.Answer.{Answer}
use Rattle.kernel_model.specs.declared.answer.Refused.{Refused}
use Rattle.kernel_model.specs.declared.event.Event.{Event}
use Rattle.kernel_model.proofs.Runs.{history-with_events}
use Rattle.run_events.specs.Records.{RunEvent, record_of, records_of}
use Rattle.run_events.specs.Observing.{Heard, WentOn, Played, Given, Ran}

take-snoc : {A : Type 0} (xs : List A) (i : ℕ) (x : A) → slice_get xs i ≡ Some x → take (i + 1) xs ≡ take i xs ++ x ∷ []
take-snoc [] i x e = cc
take-snoc (y ∷ ys) zero x e =
    let same : y ≡ x = cc in
    let one : zero + 1 ≡ suc zero = omega arith in
    ap (λ n. take n (y ∷ ys)) one ∙ ap (λ z. z ∷ []) same
take-snoc (y ∷ ys) (suc i) x e =
    let more : suc i + 1 ≡ suc (i + 1) = omega arith in
    ap (λ n. take n (y ∷ ys)) more ∙ ap (λ zs. y ∷ zs) (take-snoc ys i x e)

one-last : (k : Kernel) (es : List Event) (e : Event) → with_event (with_events k es) e ≡ with_events k (es ++ e ∷ [])
one-last k [] e = refl
one-last k (x ∷ es) e = one-last (with_event k x) es e

records-last : (k : Kernel) (es : List Event) (e : Event) → records_of k (es ++ e ∷ []) ≡ records_of k es ++ record_of (with_events k es) e ∷ []
records-last k [] e = refl
records-last k (x ∷ es) e = ap (λ (rs : List RunEvent). record_of k x ∷ rs) (records-last (with_event k x) es e)

heard-last : {S : Type 0} (hears : S → RunEvent → S → Type 0) (rs : List RunEvent) (r : RunEvent) (s t u : S) → Heard hears s rs t → hears t r u
    → Heard hears s (rs ++ r ∷ []) u
heard-last {S} hears [] r s t u h g = (u, subst (λ (x : S). hears x r u) (sym h) g, refl)
heard-last {S} hears (q ∷ rs) r s t u h g = (h.0, h.1, heard-last hears rs r h.0 t u h.2 g)

-- ---- a run so far
pub played-more : {S : Type 0} (hears : S → RunEvent → S → Type 0) (k mid new : Kernel) (events : List Event) (i : ℕ) (e : Event) (s t u : S) (went : Result Answer Refused)
    → slice_get events i ≡ Some e → Played hears k mid (take i events) s t → WentOn hears e mid new t u went → is_err went ≡ false
    → Played hears k new (take (i + 1) events) s u
played-more {S} hears k mid new events i e s t u (Ok a) there h on is =
    let es : List Event = take i events in
    subst (λ (ds : List Event). Played hears k new ds s u) (sym (take-snoc events i e there))
    (record {
      grown = on.1 ∙ ap (λ (c : Kernel). with_event c e) h.grown ∙ one-last k es e;
      heard = subst (λ (rs : List RunEvent). Heard hears s rs u) (sym (records-last k es e))
          (heard-last hears (records_of k es) (record_of (with_events k es) e) s t u h.heard (subst (λ (c : Kernel). hears t (record_of c e) u) h.grown on.2));
    })
played-more hears k mid new events i e s t u (Err why) there h on is = absurd (let no : ⊥ = cc in no)

pub played-less : {S : Type 0} (hears : S → RunEvent → S → Type 0) (k mid new : Kernel) (es : List Event) (e : Event) (s t u : S) (went : Result Answer Refused)
    → Played hears k mid es s t → WentOn hears e mid new t u went → is_err went ≡ true → Played hears k new es s u
played-less hears k mid new es e s t u (Ok a) h on is = absurd (let no : ⊥ = cc in no)
played-less {S} hears k mid new es e s t u (Err why) h on is = record {
  grown = on.1 ∙ h.grown;
  heard = subst (λ (x : S). Heard hears s (records_of k es) x) on.2 h.heard;
}

-- ---- a run by a source
given-last : {T : Type 0} (gives : T → Kernel → Option Event → T → Type 0) (k : Kernel) (es : List Event) (e : Event) (u v w : T) → Given gives k u es v
    → gives v (with_events k es) (Some e) w → Given gives k u (es ++ e ∷ []) w
given-last {T} gives k [] e u v w h g = (w, subst (λ (x : T). gives x k (Some e) w) (sym h) g, refl)
given-last gives k (d ∷ es) e u v w h g = (h.0, h.1, given-last gives (with_event k d) es e h.0 v w h.2 g)

-- so many events were given, accepted and told
pub record SoFar {S T : Type 0} (hears : S → RunEvent → S → Type 0) (gives : T → Kernel → Option Event → T → Type 0) (k new : Kernel) (s t : S) (u v : T) (count : ℕ)
    : Type 0 where
  pub events : List Event
  pub long : length events ≡ count
  pub played : Played hears k new events s t
  pub given : Given gives k u events v

pub none-so-far : {S T : Type 0} (hears : S → RunEvent → S → Type 0) (gives : T → Kernel → Option Event → T → Type 0) (k : Kernel) (s : S) (u : T)
    → SoFar hears gives k k s s u u 0
none-so-far hears gives k s u = record { events = []; long = refl; played = record { grown = refl; heard = refl }; given = refl }

pub one-more : {S T : Type 0} (hears : S → RunEvent → S → Type 0) (gives : T → Kernel → Option Event → T → Type 0) (k mid new : Kernel) (e : Event) (a : Answer)
    (s t t2 : S) (u v w : T) (count : ℕ) → SoFar hears gives k mid s t u v count → gives v mid (Some e) w → WentOn hears e mid new t t2 (Ok a)
    → SoFar hears gives k new s t2 u w (count + 1)
one-more {S} {T} hears gives k mid new e a s t t2 u v w count h g on =
    let es : List Event = h.events in
    record {
      events = es ++ e ∷ [];
      long = omega (arith, h.long, length-append es (e ∷ []));
      played = record {
        grown = on.1 ∙ ap (λ (c : Kernel). with_event c e) h.played.grown ∙ one-last k es e;
        heard = subst (λ (rs : List RunEvent). Heard hears s rs t2) (sym (records-last k es e))
            (heard-last hears (records_of k es) (record_of (with_events k es) e) s t t2 h.played.heard (subst (λ (c : Kernel). hears t (record_of c e) t2) h.played.grown on.2));
      };
      given = given-last gives k es e u v w h.given (subst (λ (c : Kernel). gives v c (Some e) w) h.played.grown g);
    }

pub ran-out : {S T : Type 0} (hears : S → RunEvent → S → Type 0) (gives : T → Kernel → Option Event → T → Type 0) (k new : Kernel) (s t : S) (u v w : T) (count : ℕ)
    → SoFar hears gives k new s t u v count → gives v new None w → Ran hears gives k new s t u w None
ran-out hears gives k new s t u v w count h g = record { events = h.events; played = h.played; asked = v; given = h.given; over = g }

pub ran-refused : {S T : Type 0} (hears : S → RunEvent → S → Type 0) (gives : T → Kernel → Option Event → T → Type 0) (k mid new : Kernel) (e : Event) (why : Refused)
    (s t t2 : S) (u v w : T) (count : ℕ) → SoFar hears gives k mid s t u v count → gives v mid (Some e) w → WentOn hears e mid new t t2 (Err why)
    → Ran hears gives k new s t2 u w (Some why)
ran-refused {S} {T} hears gives k mid new e why s t t2 u v w count h g on = record {
  events = h.events;
  played = record {
    grown = on.1 ∙ h.played.grown;
    heard = subst (λ (x : S). Heard hears s (records_of k h.events) x) on.2 h.played.heard;
  };
  asked = v;
  given = h.given;
  over = (e, subst (λ (c : Kernel). gives v c (Some e) w) (sym on.1) g, subst (λ (c : Kernel). Refuses (refusal c e) why) (sym on.1) on.0);
}

-- a core has accepted fewer events than that
pub ran-never : {S T : Type 0} (hears : S → RunEvent → S → Type 0) (gives : T → Kernel → Option Event → T → Type 0) (k new : Kernel) (s t : S) (u v : T) (count : ℕ) (P : Type 0)
    → SoFar hears gives k new s t u v count → 2 ^ 41 ≤ count → KeepsLimits new → P
ran-never hears gives k new s t u v count P h many keeps =
    let all : new.history ≡ k.history ++ h.events = ap (λ (c : Kernel). c.history) h.played.grown ∙ history-with_events k h.events in
    let long : length new.history ≡ length k.history + length h.events = ap (λ (es : List Event). length es) all ∙ length-append k.history h.events in
    absurd (let no : ⊥ = omega (arith, long, h.long, many, keeps.room) in no)

-- ---- who adds something for each record
-- has what all of them come to
pub heard-all : {S A : Type 0} (f : S → List A) (g : RunEvent → List A) (rs : List RunEvent) (s t : S) → Heard (λ old r new. f new ≡ f old ++ g r) s rs t
    → f t ≡ f s ++ flat_map g rs
heard-all f g [] s t h = ap f (sym h) ∙ sym (append-nil (f s))
heard-all {A = A} f g (r ∷ rs) s t h =
    heard-all f g rs h.0 t h.2 ∙ ap (λ (ls : List A). ls ++ flat_map g rs) h.1 ∙ append_assoc (f s) (g r) (flat_map g rs)
