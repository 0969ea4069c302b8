-- Events applied one after the other. What applies them is a relation: what it is before, the event, what it responds, an answer
-- or a refusal, and what it is then.
use Rattle.std.specs.Prelude.{◌≡◌, ℕ, List, [], ◌∷◌, ◌++◌, take, slice_get, MatchOption, Result, Ok, Err}
use Rattle.kernel_model.specs.declared.answer.Answer.{Answer}
use Rattle.kernel_model.specs.declared.answer.Refused.{Refused}
use Rattle.kernel_model.specs.declared.event.Event.{Event}

-- these events were accepted, each where the one before it left
pub data Accepts {S : Type 0} (responds : S → Event → Result Answer Refused → S → Type 0) (s : S) : List Event → S → Type 0 where
  none : Accepts responds s [] s
  more : {es : List Event} {t u : S} (e : Event) (a : Answer) → Accepts responds s es t → responds t e (Ok a) u → Accepts responds s (es ++ e ∷ []) u

-- the response to this event was a refusal; what that leaves is for what applies events to say
pub record AnsweredByRefusal {S : Type 0} (responds : S → Event → Result Answer Refused → S → Type 0) (s : S) (e : Event) (t : S) : Type 0 where
  pub why : Refused
  pub answered : responds s e (Err why) t

-- the first `count` of the events were accepted, and then there was none, or the next one was refused
pub record AppliedUpTo {S : Type 0} (responds : S → Event → Result Answer Refused → S → Type 0) (s : S) (events : List Event) (count : ℕ) (t : S) : Type 0 where
  pub before : S
  pub accepted : Accepts responds s (take count events) before
  pub last : MatchOption (slice_get events count) (t ≡ before) (λ e. AnsweredByRefusal responds before e t)
