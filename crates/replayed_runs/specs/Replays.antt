-- A core whose calls are replayed, as a run that is seen.
use Rattle.std.specs.Prelude.{◌≡◌, ℕ, Bool, true, false, IfSome, List}
use Rattle.kernel_model.specs.Answers.{Kernel}
use Rattle.kernel_model.specs.World.{Boot}
use Rattle.kernel_model.specs.declared.answer.Answer.{Answer}
use Rattle.kernel_model.specs.declared.answer.Answer.TheVariants as answer
use Rattle.kernel_model.specs.declared.answer.Refused.{Refused}
use Rattle.kernel_model.specs.declared.answer.Refused.TheVariants as refused
use Rattle.kernel_model.specs.declared.event.Event.TheVariants.{Enter}
use Rattle.order_laws.specs.Moves.{Seen, calls, events, first_seen, label_in}
use Rattle.order_laws.specs.Orders.{reached}
use Rattle.order_laws.specs.Outcomes.{settled}
use Rattle.order_laws.specs.Privacy.{IsPrivate}
use Rattle.replayed_runs.specs.declared.replay.Called.{Called}
use Rattle.replayed_runs.specs.declared.replay.Called.TheVariants.{Idle, Made, MadePrivately}

-- what is seen of the run of a core
abbrev pub seen_of : Kernel → Seen
seen_of k = reached events (first_seen k.boot) k.history

-- where each process of the boot first stops
abbrev pub start : ℕ → Boot → Seen
start n b = settled n (first_seen b)

-- the run of a boot where each process has run on, and then these calls were made
abbrev pub seen_after_calls : ℕ → Boot → List ℕ → Seen
seen_after_calls n b ps = reached (calls n) (start n b) ps

-- a process cannot have an event that is refused so
abbrev pub is_gone : Refused → Bool
is_gone refused.NoProcess = true
is_gone refused.Ended = true
is_gone refused.NotStopped = true
is_gone _ = false

-- something came of an Enter that is answered so
abbrev pub was_made : Answer → Bool
was_made answer.Entered = true
was_made answer.Ended = true
was_made _ = false

-- the same of a call
abbrev pub does_something : Called → Bool
does_something Idle = false
does_something Made = true
does_something MadePrivately = true

-- a call that is taken as private prints nothing on terminal 0
abbrev pub PromisesNothing : Called → Seen → ℕ → Type 0
PromisesNothing Idle s p = Unit {0}
PromisesNothing Made s p = Unit {0}
PromisesNothing MadePrivately s p = IfSome (label_in s (Enter p)).output (λ o. o.terminal ≡ 0 → ⊥)

-- a call that is taken as private is so
abbrev pub IsRightly : Called → Seen → ℕ → Type 0
IsRightly Idle s p = Unit {0}
IsRightly Made s p = Unit {0}
IsRightly MadePrivately s p = IsPrivate s p
