-- A memory that holds bytes holds bytes after each instruction, and after a reply whose bytes, and those of its image, are bytes.
use Rattle.std.proofs.Common.{◌≡◌, ℕ, zero, suc, ◌+◌, ◌-◌, ◌/◌, ◌%◌, ◌^◌, ◌<◌, ◌==◌, ◌&&◌, Bool, true, false, cond, nat_le, nat_lt, List, [], ◌∷◌, Option, Some, None, IfSome, refl, sym, subst, arith}
use Rattle.std.specs.Prelude.{if◌then◌else◌, slice_index, Result, Ok, Err}
use Rattle.std.specs.List.{AllByRecursion}
use Rattle.std.specs.FinMap.{get}
use Rattle.formats.specs.Table.{instr_of}
use Rattle.formats.specs.declared.instr.Instr.{Instr}
use Rattle.memory_model.specs.Memory.{Memory, Cell}
use Rattle.memory_model.specs.Access.{HoldsBytes, byte_of, fetched, low_bytes, put_bytes, size, stored, to_write, access_fault, with_byte}
use Rattle.machine_model.specs.Effects.{ArchitecturalState, InstructionEffect, Becomes, Stops, effect, store_effect, stores}
use Rattle.machine_model.specs.States.{State, Stepped, Goes, Halts, Ran, counted, by_instr, by_fetch, next, run}
use Rattle.machine_model.specs.First.{byte_at, has_page, stack_cell, first_cell, first_state}
use Rattle.machine_model.specs.Images.{Program}
use Rattle.machine_model.specs.Replies.{replied, replied_by}
use Rattle.memory_model.specs.declared.access.BusFault.{BusFault}
use Rattle.memory_model.specs.declared.access.Width.{Width}
use Rattle.machine_model.specs.declared.image.Segment.{Segment}
use Rattle.machine_model.specs.declared.reply.Reply.{Reply}
use Rattle.memory_model.proofs.Memories.{get-insert, get-memory_of}
use Rattle.machine_model.proofs.Cases.{of_each}
use Rattle.machine_model.proofs.Running.{run-zero, run-goes, run-halts}

abbrev pub AreBytes : List ℕ → Type 0
AreBytes bytes = AllByRecursion (λ b. b < 256) bytes

-- a byte is put
put_one : (m : Memory) (at b : ℕ) (c : Option Cell) → b < 256 → HoldsBytes m → HoldsBytes (with_byte m at b c)
put_one m at b None small h q = h q
put_one m at b (Some cell) small h q =
    let new : Cell = record { byte = b; rights = cell.rights } in
    subst (λ (o : Option Cell). byte_of o < 256) (sym (get-insert m at new q)) (by (q == at))
  where
    by : (t : Bool) → byte_of (cond t (Some (record { byte = b; rights = cell.rights })) (get m q)) < 256
    by true = small
    by false = h q

pub put_bytes-holds : (bytes : List ℕ) (m : Memory) (at : ℕ) → AreBytes bytes → HoldsBytes m → HoldsBytes (put_bytes m at bytes)
put_bytes-holds [] m at small h = h
put_bytes-holds (b ∷ bytes) m at small h = put_bytes-holds bytes (with_byte m at b (get m at)) (at + 1) small.1 (put_one m at b (get m at) small.0 h)

low_bytes-small : (n value : ℕ) → AreBytes (low_bytes n value)
low_bytes-small zero value = tt
low_bytes-small (suc n) value = (omega arith, low_bytes-small n (value / 2 ^ 8))

stored-holds : (m : Memory) (at : ℕ) (width : Width) (value : ℕ) → HoldsBytes m → HoldsBytes (stored m at width value)
stored-holds m at width value h = put_bytes-holds (low_bytes (size width) value) m at (low_bytes-small (size width) value) h

-- the memory of the architectural state that an instruction makes, if it makes one, holds bytes
abbrev MakesBytes : InstructionEffect → Type 0
MakesBytes (Becomes h) = HoldsBytes h.memory
MakesBytes (Stops stop) = Unit {0}

store_makes : (h : ArchitecturalState) (at : ℕ) (width : Width) (value : ℕ) → HoldsBytes h.memory → MakesBytes (stores h at width value)
store_makes h at width value m = by (access_fault to_write h.memory at width)
  where
    by : (f : Option BusFault) → MakesBytes (store_effect h (stored h.memory at width value) f)
    by None = stored-holds h.memory at width value m
    by (Some fault) = tt

effect_makes : (i : Instr) (h : ArchitecturalState) → HoldsBytes h.memory → MakesBytes (effect i h)
effect_makes = of_each (λ i h e. HoldsBytes h.memory → MakesBytes e) (record {
  becomes = λ i h registers pc m. m;
  stops = λ i h stop apart m. tt;
  stored = λ width rs1 rs2 imm h. store_makes h _ width _;
})

-- so does the memory of the state that comes next
abbrev GoesToBytes : Stepped → Type 0
GoesToBytes (Goes t) = HoldsBytes t.architectural.memory
GoesToBytes (Halts stop) = Unit {0}

counted_goes : (count : ℕ) (e : InstructionEffect) → MakesBytes e → GoesToBytes (counted count e)
counted_goes count (Becomes h) m = m
counted_goes count (Stops stop) m = tt

instr_goes : (s : State) (o : Option Instr) → HoldsBytes s.architectural.memory → GoesToBytes (by_instr s o)
instr_goes s None m = tt
instr_goes s (Some i) m = counted_goes s.count (effect i s.architectural) (effect_makes i s.architectural m)

fetch_goes : (s : State) (r : Result ℕ BusFault) → HoldsBytes s.architectural.memory → GoesToBytes (by_fetch s r)
fetch_goes s (Err fault) m = tt
fetch_goes s (Ok word) m = instr_goes s (instr_of word) m

next_goes : (s : State) → HoldsBytes s.architectural.memory → GoesToBytes (next s)
unfolding next
next_goes s m = fetch_goes s (fetched s.architectural.memory s.architectural.pc) m

-- and of each that a run comes to
pub run_holds : (n : ℕ) (s : State) → HoldsBytes s.architectural.memory → HoldsBytes (run n s).state.architectural.memory
run_holds zero s m = subst (λ (r : Ran). HoldsBytes r.state.architectural.memory) (sym (run-zero s)) m
run_holds (suc n) s m = elim (next s) as (λ o. next s ≡ o → GoesToBytes o → HoldsBytes (run (suc n) s).state.architectural.memory) [
  | Goes t ↦ λ e k. subst (λ (r : Ran). HoldsBytes r.state.architectural.memory) (sym (run-goes n s t e)) (run_holds n t k)
  | Halts stop ↦ λ e k. subst (λ (r : Ran). HoldsBytes r.state.architectural.memory) (sym (run-halts n s stop e)) m
] refl (next_goes s m)

-- ---- replies

-- the segments of a program hold bytes
abbrev pub ProgramHoldsBytes : Program → Type 0
ProgramHoldsBytes p = AllByRecursion (λ (s : Segment). AreBytes s.bytes) p.segments

index_small : (bytes : List ℕ) (k : ℕ) → AreBytes bytes → slice_index bytes k < 256
index_small [] k small = omega arith
index_small (b ∷ bytes) zero small = small.0
index_small (b ∷ bytes) (suc k) small = index_small bytes k small.1

-- the byte at an address of a segment's pages
segment_small : (s : Segment) (a : ℕ) → AreBytes s.bytes → byte_at s a < 256
segment_small s a small = by (nat_le s.vaddr a)
  where
    by : (t : Bool) → (if t then slice_index s.bytes (a - s.vaddr) else 0) < 256
    by true = index_small s.bytes (a - s.vaddr) small
    by false = omega arith

-- of two cells that hold bytes either does
either_small : (t : Bool) (c : Cell) (o : Option Cell) → c.byte < 256 → byte_of o < 256 → byte_of (if t then Some c else o) < 256
either_small true c o small rest = small
either_small false c o small rest = rest

stack_small : (a : ℕ) → byte_of (stack_cell a) < 256
stack_small a = either_small (nat_le 0x7FFFC000 a && nat_lt a 0x80000000) _ None (omega arith) (omega arith)

cell_small : (segments : List Segment) (a : ℕ) → AllByRecursion (λ (s : Segment). AreBytes s.bytes) segments → byte_of (first_cell segments a) < 256
cell_small [] a small = stack_small a
cell_small (s ∷ segments) a small = either_small (has_page s (a / 4096)) _ _ (segment_small s a small.0) (cell_small segments a small.1)

-- the first state of a program whose segments hold bytes does
pub first_holds : (p : Program) → ProgramHoldsBytes p → HoldsBytes (first_state p).architectural.memory
first_holds p small q = subst (λ (o : Option Cell). byte_of o < 256) (sym (get-memory_of (first_cell p.segments) q)) (by (nat_lt q (2 ^ 32)))
  where
    by : (t : Bool) → byte_of (cond t (first_cell p.segments q) None) < 256
    by true = cell_small p.segments q small
    by false = omega arith

-- The bytes of a reply are bytes, and so are those of its image, if it has one.
pub record CarriesBytes (r : Reply) : Type 0 where
  pub bytes : AreBytes r.bytes
  pub image : IfSome r.image ProgramHoldsBytes

pub replied_holds : (s : State) (r : Reply) → CarriesBytes r → HoldsBytes s.architectural.memory → HoldsBytes (replied s r).architectural.memory
replied_holds s r carries m = by r.image carries.image
  where
    by : (o : Option Program) → IfSome o ProgramHoldsBytes → HoldsBytes (replied_by s r o).architectural.memory
    by None image = put_bytes-holds r.bytes s.architectural.memory r.at carries.bytes m
    by (Some p) image = first_holds p image
