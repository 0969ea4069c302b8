-- A Turn is its single instructions, one after the other.
use Rattle.std.proofs.Common.{append-nil, ◌≡◌, ℕ, zero, suc, ◌+◌, Bool, true, false, if◌then◌else◌, List, [], ◌∷◌, ◌++◌, replicate, Option, Some, None, is_some, refl, sym, ap, subst, ◌∙◌, arith}
use Rattle.machine_model.specs.States.{State, Stepped, Goes, Halts, Ran, reached_at, next, by_step, run, stopped_at}
use Rattle.machine_model.specs.declared.stop.Stop.{Stop}
use Rattle.kernel_model.specs.Entries.{Entry}
use Rattle.kernel_model.specs.State.{SyncState, Process, process_at, with_process}
use Rattle.kernel_model.specs.Steps.{Transition, own_entry, impossible, after_run, after_turn, step}
use Rattle.kernel_model.specs.World.{World, happens, after}
use Rattle.kernel_model.specs.Fine.{Fine, Instruction, Other, event_of, may_go, IsFine, after_fine, turn_length, written_out, unfolded}
use Rattle.kernel_model.specs.declared.event.Event.{Event}
use Rattle.kernel_model.specs.declared.event.Event.TheVariants.{Turn, Enter, Cut, Complete, Fail}
use Rattle.machine_model.proofs.Running.{run-zero, run-goes, run-halts}
use Rattle.kernel_model.proofs.Limits.{put_same}
use Rattle.kernel_laws.proofs.Machines.{run_goes, run_zero}
use Rattle.kernel_laws.proofs.Processes.{at_same}
use Rattle.kernel_laws.proofs.Quiet.{is_quiet, own_quiet, telling, telling-append}
use Rattle.kernel_laws.proofs.Swap.{Alike, alike_same, alike_sym, alike_trans, alike_happens, turn_is, merge}

-- a Turn tells nothing, also where it is impossible
turn_quiet : (s : SyncState) (p n : ℕ) (o : Option Process) → is_quiet (after_turn s p n o).entry ≡ true
turn_quiet s p n None = refl
turn_quiet s p n (Some y) = elim (is_some y.status) as (λ b.
    is_quiet (if b then impossible p s else record { state = with_process s p (after_run n y); entry = own_entry p }).entry ≡ true) [
      | true ↦ refl
      | false ↦ own_quiet p
    ]

quiet_untold : (xs : List Entry) (d : Entry) → is_quiet d ≡ true → telling (xs ++ d ∷ []) ≡ telling xs
quiet_untold xs d h = telling-append xs (d ∷ []) ∙ ap (λ (b : Bool). telling xs ++ (if b then [] else d ∷ [])) h ∙ append-nil (telling xs)

-- a Turn that leaves the state as it is leaves all but the log as it is
idle : (w : World) (p n : ℕ) → (step w.sync (Turn p n)).state ≡ w.sync → Alike w (happens w (Turn p n))
idle w p n same = record {
  sync = sym same;
  storage = refl;
  log = sym (quiet_untold w.log (step w.sync (Turn p n)).entry (turn_quiet w.sync p n (process_at w.sync.processes p)));
}

-- so many instructions of p can be done, and are what the Turn is
abbrev IsWritten : World → ℕ → ℕ → ℕ → Type 0
IsWritten w p n count = IsFine w (replicate count (Instruction p)) × Alike (after_fine w (replicate count (Instruction p))) (happens w (Turn p n))

-- no instruction is done
none_written : (w : World) (p n : ℕ) (y : Process) (stop : Stop) → process_at w.sync.processes p ≡ Some y → is_some y.status ≡ false
    → run n y.state ≡ reached_at 0 y.state stop → IsWritten w p n (run n y.state).count
none_written w p n y stop at running h =
    let stays : after_run n y ≡ y = ap (λ (r : Ran). record y { state = r.state }) h in
    let same : (step w.sync (Turn p n)).state ≡ w.sync =
    ap (λ (d : Transition). d.state) (turn_is w.sync p n y at running)
    ∙ ap (λ (z : Process). with_process w.sync p z) stays
    ∙ ap (λ (ps : List Process). record w.sync { processes = ps }) (put_same w.sync.processes p y at) in
    subst (λ (r : Ran). IsWritten w p n r.count) (sym h) (tt, idle w p n same)

-- the first instruction is done, and the rest is a Turn from where it came to
one_written : (w : World) (p n count : ℕ) (y : Process) (t : State) → process_at w.sync.processes p ≡ Some y → is_some y.status ≡ false
    → next y.state ≡ Goes t → IsWritten (happens w (Turn p 1)) p n count → IsWritten w p (suc n) (suc count)
one_written w p n count y t at running h rest =
    let goes : may_go (process_at w.sync.processes p) ≡ true =
    ap may_go at
    ∙ ap (λ (b : Bool). if b then false else if is_some (stopped_at y.state) then false else true) running
    ∙ ap (λ (o : Stepped). if is_some (by_step {A = Option Stop} o (λ u. None) (λ stop. Some stop)) then false else true) h in
    let longer : n + 1 ≡ suc n = omega arith in (
      (goes, rest.0),
      alike_trans rest.1 (subst (λ (k : ℕ). Alike (happens (happens w (Turn p 1)) (Turn p n)) (happens w (Turn p k))) longer (merge w p n y at running)),
    )

running_written : (n : ℕ) (w : World) (p : ℕ) (y : Process) → process_at w.sync.processes p ≡ Some y → is_some y.status ≡ false
    → IsWritten w p n (run n y.state).count
running_written zero w p y at running = none_written w p zero y _ at running (run-zero y.state)
running_written (suc n) w p y at running = elim (next y.state) as (λ o. next y.state ≡ o → IsWritten w p (suc n) (run (suc n) y.state).count) [
  | Goes t ↦ λ h.
      let there : process_at (happens w (Turn p 1)).sync.processes p ≡ Some (after_run 1 y) =
      ap (λ (d : Transition). process_at d.state.processes p) (turn_is w.sync p 1 y at running) ∙ at_same w.sync.processes p (after_run 1 y) y at in
      let one : (run 1 y.state).state ≡ t = run_goes zero y.state t h ∙ run_zero t in
      let counts : suc (run n t).count ≡ 1 + (run n t).count = omega arith in
      subst (λ (k : ℕ). IsWritten w p (suc n) k) (counts ∙ sym (ap (λ (r : Ran). r.count) (run-goes n y.state t h)))
      (one_written w p n (run n t).count y t at running h
      (subst (λ (u : State). IsWritten (happens w (Turn p 1)) p n (run n u).count) one (running_written n (happens w (Turn p 1)) p (after_run 1 y) there running)))
  | Halts stop ↦ λ h. none_written w p (suc n) y stop at running (run-halts n y.state stop h)
] refl

-- a Turn is its instructions
turn_written : (w : World) (p n : ℕ) → IsWritten w p n (turn_length (process_at w.sync.processes p) n)
turn_written w p n = by (process_at w.sync.processes p) refl
  where
    by : (o : Option Process) → process_at w.sync.processes p ≡ o → IsWritten w p n (turn_length o n)
    by None e = (tt, idle w p n (ap (λ (o : Option Process). (after_turn w.sync p n o).state) e))
    by (Some y) e = elim (is_some y.status) as (λ b. is_some y.status ≡ b → IsWritten w p n (if b then 0 else (run n y.state).count)) [
      | true ↦ λ h. (
        tt,
        idle w p n
            (ap (λ (o : Option Process). (after_turn w.sync p n o).state) e
            ∙ ap (λ (b : Bool). (if b then impossible p w.sync else record { state = with_process w.sync p (after_run n y); entry = own_entry p }).state) h),
      )
      | false ↦ λ h. running_written n w p y e h
    ] refl

-- an event is what it is written out as
event_written : (w : World) (e : Event) → IsFine w (written_out w e) × Alike (after_fine w (written_out w e)) (happens w e)
event_written w (Turn p n) = turn_written w p n
event_written w (Enter p) = (tt, alike_same _ _ refl)
event_written w Cut = (tt, alike_same _ _ refl)
event_written w (Complete at) = (tt, alike_same _ _ refl)
event_written w (Fail at) = (tt, alike_same _ _ refl)

-- two fine runs one after the other
fine_append : (xs ys : List Fine) (w : World) → IsFine w xs → IsFine (after_fine w xs) ys → IsFine w (xs ++ ys)
fine_append [] ys w f g = g
fine_append (Instruction p ∷ xs) ys w f g = (f.0, fine_append xs ys (happens w (Turn p 1)) f.1 g)
fine_append (Other (Turn p n) ∷ xs) ys w f g = absurd f
fine_append (Other (Enter p) ∷ xs) ys w f g = fine_append xs ys (happens w (Enter p)) f g
fine_append (Other Cut ∷ xs) ys w f g = fine_append xs ys (happens w Cut) f g
fine_append (Other (Complete at) ∷ xs) ys w f g = fine_append xs ys (happens w (Complete at)) f g
fine_append (Other (Fail at) ∷ xs) ys w f g = fine_append xs ys (happens w (Fail at)) f g

after_fine-append : (xs ys : List Fine) (w : World) → after_fine w (xs ++ ys) ≡ after_fine (after_fine w xs) ys
after_fine-append [] ys w = refl
after_fine-append (x ∷ xs) ys w = after_fine-append xs ys (happens w (event_of x))

-- a fine run can also be had from a run that is alike
fine_moves : (items : List Fine) (a b : World) → Alike a b → IsFine a items → IsFine b items
fine_moves [] a b h f = tt
fine_moves (Instruction p ∷ items) a b h f = (
  ap (λ (s : SyncState). may_go (process_at s.processes p)) (sym h.sync) ∙ f.0,
  fine_moves items (happens a (Turn p 1)) (happens b (Turn p 1)) (alike_happens a b (Turn p 1) h) f.1,
)
fine_moves (Other (Turn p n) ∷ items) a b h f = absurd f
fine_moves (Other (Enter p) ∷ items) a b h f = fine_moves items (happens a (Enter p)) (happens b (Enter p)) (alike_happens a b (Enter p) h) f
fine_moves (Other Cut ∷ items) a b h f = fine_moves items (happens a Cut) (happens b Cut) (alike_happens a b Cut h) f
fine_moves (Other (Complete at) ∷ items) a b h f = fine_moves items (happens a (Complete at)) (happens b (Complete at)) (alike_happens a b (Complete at) h) f
fine_moves (Other (Fail at) ∷ items) a b h f = fine_moves items (happens a (Fail at)) (happens b (Fail at)) (alike_happens a b (Fail at) h) f

alike_fine : (items : List Fine) (a b : World) → Alike a b → Alike (after_fine a items) (after_fine b items)
alike_fine [] a b h = h
alike_fine (x ∷ items) a b h = alike_fine items (happens a (event_of x)) (happens b (event_of x)) (alike_happens a b (event_of x) h)

-- events written out are a fine run, and come to the same
pub unfolded_alike : (es : List Event) (w : World) → IsFine w (unfolded w es) × Alike (after_fine w (unfolded w es)) (after w es)
unfolded_alike [] w = (tt, alike_same w w refl)
unfolded_alike (e ∷ es) w =
    let first = event_written w e in
    let items = unfolded (happens w e) es in
    let rest = unfolded_alike es (happens w e) in (
      fine_append (written_out w e) items w first.0 (fine_moves items (happens w e) (after_fine w (written_out w e)) (alike_sym first.1) rest.0),
      alike_trans (alike_same _ _ (after_fine-append (written_out w e) items w))
          (alike_trans (alike_fine items (after_fine w (written_out w e)) (happens w e) first.1) rest.1),
    )
