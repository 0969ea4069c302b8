-- What comes next leaves each byte outside of what it stores.
use Rattle.std.proofs.Common.{◌≡◌, ℕ, ◌+◌, ◌%◌, ◌^◌, ◌<◌, ◌≤◌, Bool, true, false, cond, List, [], ◌∷◌, length, Some, None, refl, sym, ap, subst, ◌∙◌, arith, inl, inr}
use Rattle.std.specs.Prelude.{◌⊎◌, ◌≢◌, ◌==◌, Option, Result, Ok, Err}
use Rattle.std.proofs.lemmas.Bool.Decides.{eqb_tells}
use Rattle.std.specs.FinMap.{get}
use Rattle.formats.specs.Table.{instr_of}
use Rattle.formats.specs.declared.instr.Instr.{Instr}
use Rattle.memory_model.specs.Memory.{Memory, Cell}
use Rattle.memory_model.specs.Access.{access_fault, fetched, is_writable, low_bytes, put_bytes, size, stored, to_write, with_byte}
use Rattle.memory_model.specs.declared.access.BusFault.{BusFault}
use Rattle.memory_model.specs.declared.access.Width.{Width}
use Rattle.memory_model.proofs.Memories.{get-insert}
use Rattle.machine_model.specs.Effects.{ArchitecturalState, InstructionEffect, Becomes, Stops, effect, store_effect, stores}
use Rattle.machine_model.specs.Images.{Program}
use Rattle.machine_model.specs.Replies.{replied, replied_by}
use Rattle.machine_model.specs.States.{State, Stepped, Goes, Halts, by_fetch, by_instr, by_step, counted, next, stopped_at}
use Rattle.machine_model.specs.declared.reply.Reply.{Reply}
use Rattle.machine_model.specs.declared.stop.Cause.TheVariants as cause
use Rattle.machine_model.specs.declared.stop.Stop.{Stop}
use Rattle.machine_model.specs.declared.stop.Stop.TheVariants.{Limit, Call, Trap}
use Rattle.machine_model.proofs.Cases.{of_each}
use Rattle.machine_model.proofs.Words.{length-low_bytes}
use Rattle.debugger.specs.Traces.{Traced, traced, Moves, Rests, halt_of, next_at_call, next_by, next_of}
use Rattle.debugger.specs.Accesses.{IsOutside, LeavesOutside, access_by_fetch, access_by_instr, access_of, access_standing, access_unless, accessed, fetched_access, next_access_of, stored_by, stored_by_next, stored_bytes, stored_with}
use Rattle.debugger.specs.declared.access.Access.{Access}
use Rattle.debugger.specs.declared.access.AccessKind.TheVariants.{Store}
use Rattle.debugger.specs.declared.halt.Halt.{Halt}
use Rattle.debugger.specs.declared.halt.Halt.TheVariants as halt
use Rattle.debugger.proofs.Along.{same_move, rests_not}

with_byte-apart : (m : Memory) (at b q : ℕ) (c : Option Cell) → q ≢ at → get (with_byte m at b c) q ≡ get m q
with_byte-apart m at b q None ne = refl
with_byte-apart m at b q (Some c) ne =
    get-insert m at (record { byte = b; rights = c.rights }) q
    ∙ elim (eqb_tells q at) [
      | inl f ↦ absurd (ne f.1)
      | inr f ↦ rw f.0 refl
    ]

put_bytes-apart : (bs : List ℕ) (m : Memory) (at q : ℕ) → (q < at) ⊎ (at + length bs ≤ q) → get (put_bytes m at bs) q ≡ get m q
put_bytes-apart [] m at q out = refl
put_bytes-apart (b ∷ bs) m at q out =
    put_bytes-apart bs (with_byte m at b (get m at)) (at + 1) q (elim out [ inl f ↦ inl (omega (arith, f)) | inr f ↦ inr (omega (arith, f)) ])
    ∙ with_byte-apart m at b q (get m at) (λ e. elim out [ inl f ↦ omega (arith, f, e) | inr f ↦ omega (arith, f, e) ])

stored-apart : (m : Memory) (at : ℕ) (w : Width) (value q : ℕ) → (q < at) ⊎ (at + size w ≤ q) → get (stored m at w value) q ≡ get m q
stored-apart m at w value q out =
    put_bytes-apart (low_bytes (size w) value) m at q (subst (λ (n : ℕ). (q < at) ⊎ (at + n ≤ q)) (sym (length-low_bytes (size w) value)) out)

abbrev memory_after : InstructionEffect → Memory → Memory
memory_after (Becomes h) m = h.memory
memory_after (Stops why) m = m

-- an effect leaves each byte outside of an access
record Leaves (h : ArchitecturalState) (access : Option Access) (e : InstructionEffect) : Type 0 where
  apart : (a : ℕ) → IsOutside a access → get (memory_after e h.memory) a ≡ get h.memory a

goes-leaves : (h : ArchitecturalState) (access : Option Access) (registers : List ℕ) (pc : ℕ) → Leaves h access (Becomes (record { registers = registers; pc = pc; memory = h.memory }))
goes-leaves h access registers pc = record { apart = λ a out. refl }

stands-leaves : (h : ArchitecturalState) (access : Option Access) (why : Stop) → Leaves h access (Stops why)
stands-leaves h access why = record { apart = λ a out. refl }

store-leaves : (h : ArchitecturalState) (at : ℕ) (w : Width) (value : ℕ) → Leaves h (accessed Store at w) (stores h at w value)
store-leaves h at w value = by (access_fault to_write h.memory at w)
  where
    by : (f : Option BusFault) → Leaves h (accessed Store at w) (store_effect h (stored h.memory at w value) f)
    by None = record { apart = λ a out. stored-apart h.memory at w value a (out refl) }
    by (Some fault) = stands-leaves h (accessed Store at w) _

effect-leaves : (i : Instr) (h : ArchitecturalState) → Leaves h (access_of i h) (effect i h)
effect-leaves = of_each (λ i h e. Leaves h (access_of i h) e) (record {
  becomes = λ i h registers pc. goes-leaves h _ registers pc;
  stops = λ i h stop apart. stands-leaves h _ stop;
  stored = λ width rs1 rs2 imm h. store-leaves h _ width _;
})

same_state : (s t : State) → Goes s ≡ Goes t → s ≡ t
same_state s t e = cc

halts_not : (stop : Stop) (t : State) → Halts stop ≡ Goes t → ⊥
halts_not stop t e = cc

-- an instruction leaves what it does not store to
state-leaves : (s t : State) (a : ℕ) → next s ≡ Goes t → IsOutside a (fetched_access s) → get t.architectural.memory a ≡ get s.architectural.memory a
unfolding next
state-leaves s t a = by-fetch (fetched s.architectural.memory s.architectural.pc)
  where
    by-effect : (x : InstructionEffect) (access : Option Access) → Leaves s.architectural access x → counted s.count x ≡ Goes t → IsOutside a access → get t.architectural.memory a ≡ get s.architectural.memory a
    by-effect (Becomes h) access leaves e out = ap (λ (u : State). get u.architectural.memory a) (sym (same_state (record { architectural = h; count = s.count + 1 }) t e)) ∙ leaves.apart a out
    by-effect (Stops stop) access leaves e out = absurd (halts_not stop t e)

    by-instr : (o : Option Instr) → by_instr s o ≡ Goes t → IsOutside a (access_by_instr s.architectural o) → get t.architectural.memory a ≡ get s.architectural.memory a
    by-instr None e out = absurd (halts_not (Trap cause.Illegal) t e)
    by-instr (Some i) e out = by-effect (effect i s.architectural) (access_of i s.architectural) (effect-leaves i s.architectural) e out

    by-fetch : (r : Result ℕ BusFault) → by_fetch s r ≡ Goes t → IsOutside a (access_by_fetch s.architectural r) → get t.architectural.memory a ≡ get s.architectural.memory a
    by-fetch (Err fault) e out = absurd (halts_not (Trap cause.FetchFault) t e)
    by-fetch (Ok word) e out = by-instr (instr_of word) e out

-- and so does a reply
bytes-leave : (m : Memory) (at a : ℕ) (bs : List ℕ) → IsOutside a (stored_bytes at bs) → get (put_bytes m at bs) a ≡ get m a
bytes-leave m at a [] out = refl
bytes-leave m at a (b ∷ bs) out = put_bytes-apart (b ∷ bs) m at a (out refl)

reply-leaves : (s : State) (r : Reply) (a : ℕ) → a < 2 ^ 32 → IsOutside a (stored_by r) → get (replied s r).architectural.memory a ≡ get s.architectural.memory a
reply-leaves s r a there = by r.image
  where
    by : (o : Option Program) → IsOutside a (stored_with r o) → get (replied_by s r o).architectural.memory a ≡ get s.architectural.memory a
    by None out = bytes-leave s.architectural.memory r.at a r.bytes out
    by (Some p) out = absurd (elim (out refl) [ inl f ↦ omega (arith, f) | inr f ↦ omega (arith, f, there) ])

call-leaves : (s : State) (left : List Reply) (u : Traced) (a : ℕ) → a < 2 ^ 32 → next_at_call s left ≡ Moves u → IsOutside a (stored_by_next left) → get u.state.architectural.memory a ≡ get s.architectural.memory a
call-leaves s [] u a there e out = absurd (rests_not halt.EndOfTrace u e)
call-leaves s (r ∷ rs) u a there e out = by (is_writable s.architectural.memory r.at (length r.bytes)) e
  where
    by : (b : Bool) → cond b (Moves (traced (replied s r) rs)) (Rests halt.EndOfTrace) ≡ Moves u → get u.state.architectural.memory a ≡ get s.architectural.memory a
    by true e = ap (λ (v : Traced). get v.state.architectural.memory a) (sym (same_move (traced (replied s r) rs) u e)) ∙ reply-leaves s r a there out
    by false e = absurd (rests_not halt.EndOfTrace u e)

next-leaves : (t u : Traced) (a : ℕ) → a < 2 ^ 32 → next_of t ≡ Moves u → IsOutside a (access_standing t (stopped_at t.state)) → get u.state.architectural.memory a ≡ get t.state.architectural.memory a
unfolding next_of
next-leaves t u a there = by (next t.state) refl
  where
    by : (x : Stepped) → next t.state ≡ x → next_by t x ≡ Moves u → IsOutside a (access_standing t (by_step {A = Option Stop} x (λ s. None) (λ stop. Some stop))) → get u.state.architectural.memory a ≡ get t.state.architectural.memory a
    by (Goes s) is e out = ap (λ (v : Traced). get v.state.architectural.memory a) (sym (same_move (traced s t.left) u e)) ∙ state-leaves t.state s a is out
    by (Halts (Trap why)) is e out = absurd (rests_not (halt.Trap why) u e)
    by (Halts Call) is e out = call-leaves t.state t.left u a there e out
    by (Halts Limit) is e out = absurd (rests_not halt.EndOfTrace u e)

-- what comes next leaves what it does not store to
pub leaves-outside : (t : Traced) (access : Option Access) → access ≡ next_access_of t → LeavesOutside t access
leaves-outside t access is u a there moves out =
    next-leaves t u a there moves
    (subst (λ (o : Option Halt). IsOutside a (access_unless o (access_standing t (stopped_at t.state)))) (ap halt_of moves) (subst (λ (o : Option Access). IsOutside a o) is out))
