-- What a crew keeps, and what its workers do.
use Rattle.std.specs.Prelude.{◌≡◌, ◌⊎◌, ℕ, zero, suc, nat_lt, if◌then◌else◌, Bool, true, false, Option, Some, None, Result, Ok, Err}
use Rattle.kernel_step.specs.declared.loan.Rejected.{Rejected}
use Rattle.bursts.specs.declared.fault.WorkFault.{WorkFault}
use Rattle.bursts.specs.declared.fault.WorkFault.TheVariants as fault
use Rattle.pool.specs.declared.crewing.Next.{Next}
use Rattle.pool.specs.declared.crewing.Next.TheVariants as next
use Rattle.pool.specs.GoingOn.{HeldTimes, TurnsOn}
use Rattle.pool.specs.Seats.{Seated}
use Rattle.pool.specs.Turns.{Asks}

-- of the fault that is kept, with its place, and one of this place: that of the earlier place
abbrev pub earlier : Option (ℕ × WorkFault) → ℕ → WorkFault → Option (ℕ × WorkFault)
earlier None place fault = Some (place, fault)
earlier (Some kept) place fault = if nat_lt place kept.0 then Some (place, fault) else Some kept

-- what a worker does once it has asked whether the work is over: it ends where it is, or where a result was not taken back
abbrev pub next_after : Result Bool Rejected → Next
next_after (Ok true) = next.End None
next_after (Ok false) = next.Rest
next_after (Err rejected) = next.End (Some (fault.Settle rejected))

-- a worker asks whether the work is over, and does this next
abbrev pub AsksThen : Seated → Seated → Next → Type 0
AsksThen old new does = (over : Result Bool Rejected) × Asks old new over × (does ≡ next_after over)

-- After a turn that worked it asks for a loan again. After an idle one it asks whether the work is over. After one that failed it
-- ends with the fault.
abbrev pub ThenDoes : Result Bool WorkFault → Seated → Seated → Next → Type 0
ThenDoes (Ok true) old new does = (new ≡ old) × (does ≡ next.Ask)
ThenDoes (Ok false) old new does = AsksThen old new does
ThenDoes (Err failed) old new does = (new ≡ old) × (does ≡ next.End (Some failed))

-- A worker with a seat and a gate takes a turn, and does this next.
abbrev pub TakesTurn : {G : Type 0} → (G → ℕ → G → Type 0) → ℕ → Seated × G → Seated × G → Next → Type 0
TakesTurn holds q old new does = (turned : Result Bool WorkFault) × (m : Seated) × TurnsOn old.0 q (HeldTimes holds old.1 new.1) m turned × ThenDoes turned m new.0 does

-- it took so many turns, and went on after each
abbrev pub WentOn : {G : Type 0} → (G → ℕ → G → Type 0) → ℕ → Seated × G → Seated × G → ℕ → Type 0
WentOn holds q old new zero = new ≡ old
WentOn {G} holds q old new (suc n) = (m : Seated × G) × WentOn holds q old m n × (TakesTurn holds q m new next.Ask ⊎ TakesTurn holds q m new next.Rest)

-- It took turns until one, after which it ended so. Beside them its gate was not held.
abbrev pub WorksUntil : {G : Type 0} → (G → ℕ → G → Type 0) → ℕ → Seated × G → Seated × G → Option WorkFault → Type 0
WorksUntil {G} holds q old new ended = (turns : ℕ) × (m : Seated × G) × WentOn holds q old m turns × TakesTurn holds q m new (next.End ended)
