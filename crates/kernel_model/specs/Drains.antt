-- A drain: groups are cut and their writes completed until every change is committed.
use Rattle.std.specs.Prelude.{◌≡◌, ℕ, nat_lt, if◌then◌else◌, not, true, List, [], ◌∷◌, Option, Some, None, Result, MatchResult}
use Rattle.disk_model.specs.Storage.{is_empty}
use Rattle.kernel_model.specs.Answers.{Kernel, now, committed, changes, in_flight, is_full, refusal, with_event, first_of, Refuses, ◌⇒◌}
use Rattle.kernel_model.specs.World.{World}
use Rattle.kernel_model.specs.declared.answer.Refused.{Refused}
use Rattle.kernel_model.specs.declared.answer.Refused.TheVariants as refused
use Rattle.kernel_model.specs.declared.event.Event.{Event}
use Rattle.kernel_model.specs.declared.event.Event.TheVariants.{Cut, Complete}

-- every change is committed
abbrev pub IsAllCommitted : World → Type 0
IsAllCommitted w = committed w ≡ changes w

-- no write has failed
abbrev pub HasNoFailure : World → Type 0
HasNoFailure w = is_empty w.storage.device.failed ≡ true

-- nothing is left for a drain to do: no write has failed, and every change is committed
abbrev pub IsFinished : World → Type 0
IsFinished w = HasNoFailure w × IsAllCommitted w

-- the completion of the write in flight that begins at this least place; where none is in flight, a Cut
abbrev pub completion_or_cut : Option ℕ → Event
completion_or_cut None = Cut
completion_or_cut (Some at) = Complete at

-- the event with which a drain goes on; none where every change is committed
abbrev pub next_of_drain : World → Option Event
next_of_drain w = if nat_lt (committed w) (changes w) then Some (completion_or_cut (in_flight w)) else None

-- These are events of a drain, from this core to that one: each comes while no write has failed and some change is
-- uncommitted, completes the write in flight that begins first, or is a Cut where none is in flight, and is accepted.
abbrev pub Drains : Kernel → List Event → Kernel → Type 0
Drains k [] new = new ≡ k
Drains k (e ∷ es) new =
    HasNoFailure (now k)
    × (IsAllCommitted (now k) → ⊥)
    × (e ≡ completion_or_cut (in_flight (now k)))
    × (refusal k e ≡ None)
    × Drains (with_event k e) es new

-- why a drain goes no further, memory aside: a write has failed, or the history is full
abbrev pub drain_refusal : Kernel → Option Refused
drain_refusal k = first_of (
    (not (is_empty (now k).storage.device.failed) ⇒ refused.DiskFailed)
    ∷ (is_full k ⇒ refused.Budget)
    ∷ [])

-- A drain from the old core to the new one: by such events, until nothing is left to do, or until it is refused before that, for
-- the first reason that holds then, or for want of memory. The events before a refusal stay.
pub record IsDrained (old new : Kernel) (result : Result (Unit {0}) Refused) : Type 0 where
  pub events : List Event
  pub drains : Drains old events new
  pub outcome : MatchResult result (λ _. IsFinished (now new))
      (λ why. (IsFinished (now new) → ⊥) × Refuses (drain_refusal new) why)
