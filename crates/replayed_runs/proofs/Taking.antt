-- What is taken as private of the call that a core has just made.
use Rattle.std.proofs.Common.{◌≡◌, ◌∙◌, ◌++◌, ◌∷◌, [], ℕ, zero, suc, List, map, length, slice_index, Option, Some, None, true, refl, sym, ap, subst}
use Rattle.std.specs.Prelude.{option_map, IsSomeAnd}
use Rattle.std.proofs.lemmas.List.{length-map}
use Rattle.std.proofs.lemmas.Option.{slice_get-map}
use Rattle.machine_model.specs.States.{State}
use Rattle.kernel_model.specs.Answers.{Kernel, now, process_of, with_event}
use Rattle.kernel_model.specs.Entries.{Entry}
use Rattle.kernel_model.specs.Rows.{descriptor_at}
use Rattle.kernel_model.specs.State.{SyncState, Process, process_at}
use Rattle.kernel_model.specs.Steps.{after_enter, step}
use Rattle.kernel_model.specs.World.{World, happens, sync_log}
use Rattle.kernel_model.specs.declared.carrier.Carrier.{Carrier}
use Rattle.kernel_model.specs.declared.carrier.Carrier.TheVariants.{Proc}
use Rattle.kernel_model.specs.declared.event.Event.{Event}
use Rattle.kernel_model.specs.declared.event.Event.TheVariants.{Enter}
use Rattle.kernel_model.proofs.Runs.{after_log, now-with_event}
use Rattle.pipes.specs.Seen.{seen_of as pipe_seen}
use Rattle.processes.specs.Parts.{Part, descriptors_in, part_at, part_of}
use Rattle.calls.specs.Sights.{Sight}
use Rattle.kernel_step.specs.Entering.{IsSightOf}
use Rattle.footprints.specs.Footprints.{AreFootprints}
use Rattle.order_laws.specs.Moves.{label_in, writes_some}
use Rattle.order_laws.specs.Privacy.{IsPrivate}
use Rattle.replayed_runs.specs.Owning.{GoesTo, IsTaken, written_by}
use Rattle.replayed_runs.specs.Replays.{seen_of}
use Rattle.replayed_runs.proofs.Outputs.{none_goes, output_goes}
use Rattle.replayed_runs.proofs.Owning.{taken_is_private}
use Rattle.replayed_runs.proofs.Replaying.{numbered, seen_sync}

-- ---- the terminal to which a call may write
-- what a process has beside its machine
part_there : (ps : List Process) (p : ℕ) (z : Process) → process_at ps p ≡ Some z → part_at (map part_of ps) p ≡ Some (part_of z)
part_there ps zero z at = let no : ⊥ = cc in absurd no
part_there ps (suc k) z at = slice_get-map part_of ps k ∙ ap (option_map part_of) at

named_by : (terminal : Option ℕ) (s : SyncState) (p : ℕ) (m : State) (o : Option Process) → process_at s.processes p ≡ o → IsSomeAnd o (λ (z : Process). m ≡ z.state)
    → terminal ≡ written_by (slice_index m.architectural.registers 17) (descriptor_at (descriptors_in (part_at (map part_of s.processes) p)) (slice_index m.architectural.registers 10))
    → GoesTo terminal (after_enter s p (process_at s.processes p)).entry.output
named_by terminal s p m None at none is = absurd none
named_by terminal s p m (Some z) at same is =
    output_goes terminal s p z at (
    is
    ∙ ap (λ (part : Option Part). written_by (slice_index m.architectural.registers 17) (descriptor_at (descriptors_in part) (slice_index m.architectural.registers 10))) (part_there s.processes p z at)
    ∙ ap (λ (st : State). written_by (slice_index st.architectural.registers 17) (descriptor_at z.descriptors (slice_index st.architectural.registers 10))) same)

pub call_goes : (k : Kernel) (p : ℕ) (m : State) (parts : List Part) (terminal : Option ℕ) → IsSomeAnd (process_of k p) (λ (z : Process). m ≡ z.state)
    → parts ≡ map part_of (now k).sync.processes
    → terminal ≡ written_by (slice_index m.architectural.registers 17) (descriptor_at (descriptors_in (part_at parts p)) (slice_index m.architectural.registers 10))
    → GoesTo terminal (label_in (seen_of k) (Enter p)).output
call_goes k p m parts terminal there are is =
    subst (λ (s : SyncState). GoesTo terminal (step s (Enter p)).entry.output) (sym (seen_sync k))
    (named_by terminal (now k).sync p m (process_of k p) refl there
    (is ∙ ap (λ (ps : List Part). written_by (slice_index m.architectural.registers 17) (descriptor_at (descriptors_in (part_at ps p)) (slice_index m.architectural.registers 10))) are))

pub no_call_goes : (k : Kernel) (p : ℕ) (terminal : Option ℕ) → process_of k p ≡ None → GoesTo terminal (label_in (seen_of k) (Enter p)).output
no_call_goes k p terminal none =
    subst (λ (s : SyncState). GoesTo terminal (step s (Enter p)).entry.output) (sym (seen_sync k)) (none_goes terminal (now k).sync p none)

-- ---- the call that was just made
as_long : (es : List Event) (s : SyncState) → length (sync_log s es) ≡ length es
as_long [] s = refl
as_long (e ∷ es) s = ap suc (as_long es (step s e).state)

module _ (k : Kernel) (p : ℕ) where
  log_long : length (now k).log ≡ length k.history
  log_long = ap (λ (l : List Entry). length l) (after_log k.history _) ∙ as_long k.history _

  -- a footprint is of the Enter after these events
  abbrev pub ReadLast : List Carrier → List Entry → Type 0
  ReadLast reads kept = (es : List Event) (q : ℕ) (log : List Entry) (e : Entry) → length log ≡ length es → AreFootprints (es ++ Enter q ∷ []) (log ++ e ∷ []) kept
      → e.reads ≡ Proc q ∷ reads

  pub is_private_call : (core : Kernel) (reads : List Carrier) (terminal : Option ℕ) (t : Sight) (kept : List Entry) → core ≡ with_event k (Enter p)
      → writes_some (label_in (seen_of k) (Enter p)) ≡ true → GoesTo terminal (label_in (seen_of k) (Enter p)).output
      → IsSightOf (now core).sync t → AreFootprints core.history (now core).log kept → ReadLast reads kept → IsTaken p reads terminal t.parts (length t.pipes)
      → IsPrivate (seen_of k) p
  is_private_call core reads terminal t kept is works goes sight feet read taken =
      let e : Entry = (step (now k).sync (Enter p)).entry in
      let now_is : now core ≡ happens (now k) (Enter p) = ap now is ∙ now-with_event k (Enter p) in
      let at_world : AreFootprints core.history ((now k).log ++ e ∷ []) kept = subst (λ (w : World). AreFootprints core.history w.log kept) now_is feet in
      let at_all : AreFootprints (k.history ++ Enter p ∷ []) ((now k).log ++ e ∷ []) kept =
      subst (λ (c : Kernel). AreFootprints c.history ((now k).log ++ e ∷ []) kept) is at_world in
      let reads_are : (label_in (seen_of k) (Enter p)).reads ≡ Proc p ∷ reads =
      ap (λ (s : SyncState). (step s (Enter p)).entry.reads) (seen_sync k) ∙ read k.history p (now k).log e log_long at_all in
      let state_is : (now core).sync ≡ (step (seen_of k).sync (Enter p)).state =
      ap (λ (w : World). w.sync) now_is ∙ ap (λ (s : SyncState). (step s (Enter p)).state) (sym (seen_sync k)) in
      let parts_are : t.parts ≡ map part_of (step (seen_of k).sync (Enter p)).state.processes =
      sight.parts ∙ ap (λ (s : SyncState). map part_of s.processes) state_is in
      let pipes_are : length t.pipes ≡ length (step (seen_of k).sync (Enter p)).state.pipes =
      ap length sight.pipes.shown ∙ length-map (now core).sync.pipes pipe_seen ∙ ap (λ (s : SyncState). length s.pipes) state_is in
      let with_parts : IsTaken p reads terminal (map part_of (step (seen_of k).sync (Enter p)).state.processes) (length t.pipes) =
      subst (λ (ps : List Part). IsTaken p reads terminal ps (length t.pipes)) parts_are taken in
      taken_is_private (seen_of k) p (numbered k) reads terminal works reads_are goes
      (subst (λ (n : ℕ). IsTaken p reads terminal (map part_of (step (seen_of k).sync (Enter p)).state.processes) n) pipes_are with_parts)
