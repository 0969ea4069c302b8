-- Steps and stops of a state as relations, and runs as steps one after the other.
use Rattle.std.specs.Prelude.{◌≡◌, ℕ, zero, suc, ◌+◌, ◌<◌, ◌↔◌, ◌≢◌, Some, Ok, Err}
use Rattle.formats.specs.declared.instr.Instr.{Instr}
use Rattle.formats.specs.Meaning.{Means}
use Rattle.memory_model.specs.Access.{fetched}
use Rattle.machine_model.specs.Effects.{Becomes, Stops, effect}
use Rattle.machine_model.specs.States.{State, next, run, stopped_at, Goes, Halts}
use Rattle.memory_model.specs.declared.access.BusFault.{BusFault}
use Rattle.machine_model.specs.declared.stop.Cause.TheVariants as cause
use Rattle.machine_model.specs.declared.stop.Stop.{Stop}
use Rattle.machine_model.specs.declared.stop.Stop.TheVariants.{Limit, Trap}

-- One step: the word at the program counter means an instruction, whose effect is the next architectural state, and it counts.
pub record Step (s t : State) : Type 0 where
  pub word : ℕ
  pub instruction : Instr
  pub fetch : fetched s.architectural.memory s.architectural.pc ≡ Ok word
  pub means : Means word instruction
  pub does : effect instruction s.architectural ≡ Becomes t.architectural
  pub counts : t.count ≡ s.count + 1

-- the word at the program counter may not be fetched
pub record FetchFails (s : State) : Type 0 where
  pub fault : BusFault
  pub fetch : fetched s.architectural.memory s.architectural.pc ≡ Err fault

-- the word at the program counter means no instruction
pub record IsIllegal (s : State) : Type 0 where
  pub word : ℕ
  pub fetch : fetched s.architectural.memory s.architectural.pc ≡ Ok word
  pub means_none : (i : Instr) → Means word i → ⊥

-- the word at the program counter means an instruction that stands there, at a call or a trap of its own
pub record InstructionStands (s : State) (stop : Stop) : Type 0 where
  pub word : ℕ
  pub instruction : Instr
  pub fetch : fetched s.architectural.memory s.architectural.pc ≡ Ok word
  pub means : Means word instruction
  pub does : effect instruction s.architectural ≡ Stops stop

-- A state stands at a stop, by one of three rules.
pub data StandsAt (s : State) (stop : Stop) : Type 0 where
  ByFetch : stop ≡ Trap cause.FetchFault → FetchFails s → StandsAt s stop
  ByWord : stop ≡ Trap cause.Illegal → IsIllegal s → StandsAt s stop
  ByInstruction : InstructionStands s stop → StandsAt s stop

-- n steps one after the other
abbrev pub Runs : ℕ → State → State → Type 0
Runs zero s t = t ≡ s
Runs (suc n) s t = (u : State) × Step s u × Runs n u t

-- Each state goes on by a step, or stands at a stop, and not both.
abbrev pub NextIsStep : Type 0
NextIsStep = (s : State) → ((t : State) → (next s ≡ Goes t) ↔ Step s t) × ((stop : Stop) → (next s ≡ Halts stop) ↔ StandsAt s stop)

-- A run takes so many steps, and stops at its limit where it took as many as it might, and else where it stands.
abbrev pub RunIsSteps : Type 0
RunIsSteps = (max : ℕ) (s : State) →
    Runs (run max s).count s (run max s).state
    × (((run max s).stop ≡ Limit) ↔ ((run max s).count ≡ max))
    × ((run max s).stop ≢ Limit → ((run max s).count < max) × (stopped_at (run max s).state ≡ Some (run max s).stop))
