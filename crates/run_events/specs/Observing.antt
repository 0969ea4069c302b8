-- What an observer is told of a run.
use Rattle.std.specs.Prelude.{◌≡◌, List, [], ◌∷◌, Option, Some, None, Result, Ok, Err}
use Rattle.kernel_model.specs.Answers.{Kernel, with_event, with_events, answer, refusal, Refuses}
use Rattle.kernel_model.specs.declared.answer.Answer.{Answer}
use Rattle.kernel_model.specs.declared.answer.Refused.{Refused}
use Rattle.kernel_model.specs.declared.event.Event.{Event}
use Rattle.run_events.specs.Records.{RunEvent, record_of, records_of}

-- an observer that was s may be t once it was told these records, in order; `hears` says what one record makes of it
abbrev pub Heard : {S : Type 0} → (S → RunEvent → S → Type 0) → S → List RunEvent → S → Type 0
Heard hears s [] t = s ≡ t
Heard {S} hears s (r ∷ rs) t = (u : S) × hears s r u × Heard hears u rs t

-- an event was accepted, and the observer was told what it did; or it was refused, and the observer was told nothing
abbrev pub WentOn : {S : Type 0} → (S → RunEvent → S → Type 0) → Event → Kernel → Kernel → S → S → Result Answer Refused → Type 0
WentOn hears e k new s t (Ok a) = (a ≡ answer k e) × (new ≡ with_event k e) × hears s (record_of k e) t
WentOn hears e k new s t (Err why) = Refuses (refusal k e) why × (new ≡ k) × (s ≡ t)

-- the core accepted these events, and the observer was told what each of them did, in order, and nothing else
pub record Played {S : Type 0} (hears : S → RunEvent → S → Type 0) (k new : Kernel) (es : List Event) (s t : S) : Type 0 where
  pub grown : new ≡ with_events k es
  pub heard : Heard hears s (records_of k es) t

-- a source that was s may be t once it gave these events, each for the core that accepted those before; `gives` says what one asking
-- makes of it
abbrev pub Given : {S : Type 0} → (S → Kernel → Option Event → S → Type 0) → Kernel → S → List Event → S → Type 0
Given gives k s [] t = s ≡ t
Given {S} gives k s (e ∷ es) t = (u : S) × gives s k (Some e) u × Given gives (with_event k e) u es t

-- a run by a source is over: the source gave no event, or one that the core refused
abbrev pub IsOver : {S : Type 0} → (S → Kernel → Option Event → S → Type 0) → Kernel → S → S → Option Refused → Type 0
IsOver gives k s t None = gives s k None t
IsOver gives k s t (Some why) = (e : Event) × gives s k (Some e) t × Refuses (refusal k e) why

-- The core accepted the events that a source gave, the observer was told what each of them did, in order, and nothing else; and then
-- the run was over.
pub record Ran {S T : Type 0} (hears : S → RunEvent → S → Type 0) (gives : T → Kernel → Option Event → T → Type 0) (k new : Kernel) (s t : S) (u v : T) (why : Option Refused)
    : Type 0 where
  pub events : List Event
  pub played : Played hears k new events s t
  pub asked : T
  pub given : Given gives k u events asked
  pub over : IsOver gives new asked v why
