-- No step stands at the limit.
use Rattle.std.proofs.Common.{◌≡◌, ℕ, ap}
use Rattle.std.specs.Prelude.{◌≢◌, Option, Some, None, Result, Ok, Err}
use Rattle.formats.specs.declared.instr.Instr.{Instr}
use Rattle.formats.specs.Table.{instr_of}
use Rattle.memory_model.specs.Access.{fetched}
use Rattle.machine_model.specs.Effects.{ArchitecturalState, InstructionEffect, Becomes, Stops, effect, store_effect}
use Rattle.memory_model.specs.Memory.{Memory}
use Rattle.machine_model.specs.States.{State, Halts, counted, by_instr, by_fetch, next}
use Rattle.memory_model.specs.declared.access.BusFault.{BusFault}
use Rattle.machine_model.specs.declared.stop.Stop.{Stop}
use Rattle.machine_model.specs.declared.stop.Stop.TheVariants.{Limit, Trap}
use Rattle.machine_model.proofs.Cases.{of_each}

pub same_stop : (a b : Stop) → Halts a ≡ Halts b → a ≡ b
same_stop a b e = cc

becomes_not : (h : ArchitecturalState) → Becomes h ≡ Stops Limit → ⊥
becomes_not h e = cc

stands_not : (stop : Stop) → (stop ≡ Limit → ⊥) → Stops stop ≡ Stops Limit → ⊥
stands_not stop apart e = apart (inner stop e)
  where
    inner : (stop : Stop) → Stops stop ≡ Stops Limit → stop ≡ Limit
    inner stop e = cc

store_not : (h : ArchitecturalState) (m : Memory) (f : Option BusFault) → store_effect h m f ≡ Stops Limit → ⊥
store_not h m None e = becomes_not _ e
store_not h m (Some fault) e = stands_not (Trap _) (λ e. cc) e

-- no instruction stands at the limit
pub effect_not : (i : Instr) (h : ArchitecturalState) → effect i h ≡ Stops Limit → ⊥
effect_not = of_each (λ i h e. e ≡ Stops Limit → ⊥) (record {
  becomes = λ i h registers pc. becomes_not _;
  stops = λ i h stop apart. stands_not stop apart;
  stored = λ width rs1 rs2 imm h. store_not h _ _;
})

pub next-not_limit : (s : State) → next s ≢ Halts Limit
unfolding next
next-not_limit s = by-fetch (fetched s.architectural.memory s.architectural.pc)
  where
    by-effect : (e : InstructionEffect) → (e ≡ Stops Limit → ⊥) → counted s.count e ≢ Halts Limit
    by-effect (Becomes h) apart e = cc
    by-effect (Stops why) apart e = apart (ap (λ (x : Stop). Stops x) (same_stop why Limit e))

    by-instruction : (x : Option Instr) → by_instr s x ≢ Halts Limit
    by-instruction None e = cc
    by-instruction (Some i) e = by-effect (effect i s.architectural) (effect_not i s.architectural) e

    by-fetch : (r : Result ℕ BusFault) → by_fetch s r ≢ Halts Limit
    by-fetch (Err fault) e = cc
    by-fetch (Ok word) e = by-instruction (instr_of word) e
