-- The outcomes of every run are among the states that a complete search of the calls found.
use Rattle.std.proofs.Common.{◌≡◌, ℕ, inl, true, false, List, [], ◌∷◌, ◌++◌, append-nil, append_assoc, Some, is_some, refl, sym, ap, subst, ◌∙◌}
use Rattle.std.specs.List.{Contains}
use Rattle.std.specs.Prelude.{option_map}
use Rattle.std.proofs.lemmas.Bool.{false≢true}
use Rattle.std.proofs.lemmas.List.{map-append}
use Rattle.disk_model.specs.Numbers.{Numbered}
use Rattle.machine_model.specs.States.{run, stopped_at}
use Rattle.kernel_model.specs.Entries.{Entry}
use Rattle.kernel_model.specs.Limits.{AreNumbered}
use Rattle.kernel_model.specs.Shown.{Given, given_by, each_from, printed, bytes_for, shown}
use Rattle.kernel_model.specs.State.{SyncState, Process, process_at}
use Rattle.kernel_model.specs.Steps.{after_run, step}
use Rattle.kernel_model.specs.Views.{contents}
use Rattle.kernel_model.specs.World.{Boot, first_world, run_of, sync_run, sync_log}
use Rattle.kernel_model.specs.declared.event.Event.{Event}
use Rattle.kernel_model.proofs.Numbering.{numbered_first}
use Rattle.kernel_laws.specs.Cones.{IsBeginningOf, visible}
use Rattle.kernel_laws.proofs.ConeLaws.{visible_suffice}
use Rattle.kernel_laws.proofs.Selected.{step_numbered}
use Rattle.kernel_model.proofs.Runs.{after_sync, after_log}
use Rattle.order_laws.specs.Moves.{Seen, first_seen, seen_after, events, calls}
use Rattle.order_laws.specs.Orders.{IsOver, reached}
use Rattle.order_laws.specs.Outcomes.{IsSeenOf, rested, settled, AreSearched, WasFound, AllStand, HasOutcomes}
use Rattle.order_laws.specs.Privacy.{IsPrivate}
use Rattle.order_laws.proofs.Calls.{calls_commute}
use Rattle.order_laws.proofs.Choosing.{found_above, found_end, reached-append, those_that_work}
use Rattle.order_laws.proofs.Private.{stays_private}
use Rattle.order_laws.proofs.Settling.{AllStop, after_run_rested, covered, event_covers, map_at}
use Rattle.order_laws.proofs.Upward.{IsBelow, begins_through, grows, total, upward}
use Rattle.order_laws.specs.Searches.{FoundState, LeftNone}

-- ---- what is seen of a run
each_from-last : {A : Type 0} (f : Entry → List A) (past log : List Entry) (e : Entry) → each_from f past (log ++ e ∷ []) ≡ each_from f past log ++ given_by (past ++ log) e (f e)
each_from-last f past [] e = append-nil (given_by past e (f e)) ∙ ap (λ (ps : List Entry). given_by ps e (f e)) (sym (append-nil past))
each_from-last f past (d ∷ ds) e =
    ap (λ zs. given_by past d (f d) ++ zs) (each_from-last f (past ++ d ∷ []) ds e)
    ∙ ap (λ (ps : List Entry). given_by past d (f d) ++ (each_from f (past ++ d ∷ []) ds ++ given_by ps e (f e))) (append_assoc past (d ∷ []) ds)
    ∙ sym (append_assoc (given_by past d (f d)) (each_from f (past ++ d ∷ []) ds) (given_by (past ++ d ∷ ds) e (f e)))

given_contents : (log : List Entry) (e : Entry) (xs : List ℕ) → contents (given_by log e xs) ≡ xs
given_contents log e [] = refl
given_contents log e (x ∷ xs) = ap (λ zs. x ∷ zs) (given_contents log e xs)

-- the texts are those of these entries
abbrev IsTold : List Entry → Seen → Type 0
IsTold log s = (t : ℕ) → s.texts t ≡ contents (printed t log)

one_told : (log : List Entry) (s : Seen) (e : Event) → IsTold log s → IsTold (log ++ (step s.sync e).entry ∷ []) (seen_after s e)
one_told log s e told t =
    let d = (step s.sync e).entry in
    ap (λ zs. zs ++ bytes_for t d.output) (told t)
    ∙ ap (λ zs. contents (printed t log) ++ zs) (sym (given_contents log d (bytes_for t d.output)))
    ∙ sym (map-append (λ (g : Given ℕ). g.what) (printed t log) (given_by log d (bytes_for t d.output)))
    ∙ ap (λ (gs : List (Given ℕ)). contents gs) (sym (each_from-last (λ (k : Entry). bytes_for t k.output) [] log d))

all_told : (es : List Event) (log : List Entry) (s : Seen) → IsTold log s → IsTold (log ++ sync_log s.sync es) (reached events s es)
all_told [] log s told = subst (λ (l : List Entry). IsTold l s) (sym (append-nil log)) told
all_told (e ∷ es) log s told =
    subst (λ (l : List Entry). IsTold l (reached events (seen_after s e) es)) (append_assoc log ((step s.sync e).entry ∷ []) (sync_log (step s.sync e).state es))
    (all_told es (log ++ (step s.sync e).entry ∷ []) (seen_after s e) (one_told log s e told))

all_sync : (es : List Event) (s : Seen) → (reached events s es).sync ≡ sync_run s.sync es
all_sync [] s = refl
all_sync (e ∷ es) s = all_sync es (seen_after s e)

pub tells : (b : Boot) (es : List Event) → IsSeenOf (run_of b es) (reached events (first_seen b) es)
tells b es = record {
  sync = all_sync es (first_seen b) ∙ sym (after_sync es (first_world b));
  texts = λ t. all_told es [] (first_seen b) (λ k. refl) t ∙ ap (λ (l : List Entry). contents (printed t l)) (sym (after_log es (first_world b)));
}

-- ---- the outcomes
module _ (n : ℕ) (b : Boot) (found : List (FoundState Seen)) (depth : ℕ) (searched : AreSearched n b found depth)
    (none : LeftNone found depth) (stand : AllStand found) where
  abbrev start : Seen
  start = settled n (first_seen b)

  abbrev IsNumbered : Seen → Type 0
  IsNumbered s = AreNumbered s.sync.files

  are : IsNumbered start
  are = numbered_first b.files

  -- above each state that calls come to one was found
  above : (ps : List ℕ) (s : Seen) → reached (calls n) start ps ≡ settled n s → (f : FoundState Seen) × Contains found f × IsBelow (settled n s) f.state
  above ps s is =
      let a = found_above (calls n) IsNumbered (calls_commute n) IsPrivate (stays_private n) start found depth searched none
      (λ (u : Seen). total u.sync.processes) (grows n) IsBelow (upward n) ps are in
      (a.0, a.1, subst (λ (u : Seen). IsBelow u a.0.state) is a.2)

  -- so each process stops there
  stops : (ps : List ℕ) (s : Seen) → reached (calls n) start ps ≡ settled n s → AllStop n s.sync
  stops ps s is p z at lives = elim (is_some (stopped_at (run n z.state).state)) as (λ t. is_some (stopped_at (run n z.state).state) ≡ t → t ≡ true) [
    | true ↦ λ e. refl
    | false ↦ λ e.
        let a = above ps s is in
        let there : process_at (settled n s).sync.processes p ≡ Some (after_run n z) =
        map_at (rested n) s.sync.processes p ∙ ap (option_map (rested n)) at ∙ ap (λ (x : Process). Some x) (after_run_rested n z lives) in
        absurd (false≢true (sym e ∙ stand a.0 a.1 p (after_run n z) (a.2.stuck p (after_run n z) there e) lives))
  ] refl

  -- and after any events
  stop : (es : List Event) (ps : List ℕ) (s : Seen) → IsNumbered s → reached (calls n) start ps ≡ settled n s → AllStop n (sync_run s.sync es)
  stop [] ps s numbered is = stops ps s is
  stop (e ∷ es) ps s numbered is =
      let c = event_covers n s e numbered (stops ps s is) in
      stop es (ps ++ c.0) (seen_after s e) (step_numbered s.sync e numbered)
      (reached-append (calls n) IsNumbered (calls_commute n) ps c.0 start ∙ ap (λ (u : Seen). reached (calls n) u c.0) is ∙ c.1)

  covers : (es : List Event) → (ps : List ℕ) × (reached (calls n) start ps ≡ settled n (reached events (first_seen b) es))
  covers es = covered n es (first_seen b) are (λ ds. stop ds [] (first_seen b) are refl)

  end : (es : List Event) → IsOver (calls n) (settled n (reached events (first_seen b) es)) → WasFound found (settled n (reached events (first_seen b) es))
  end es over =
      let c = covers es in
      let working = those_that_work (calls n) IsNumbered (calls_commute n) c.0 start are in
      let same = working.2 ∙ c.1 in
      let h = found_end (calls n) IsNumbered (calls_commute n) IsPrivate (stays_private n) start found depth searched working.0 are
      (record { all = working.1; over = subst (λ (u : Seen). IsOver (calls n) u) (sym same) over }) (inl none) in
      (h.one, h.is_found, h.same ∙ same)

  -- the run of the visible events
  pub outcomes : (es : List Event) → HasOutcomes n b found es
  outcomes es =
      let vs = visible b es in
      let suffices = visible_suffice b es in
      let c = covers vs in
      let a = above c.0 (reached events (first_seen b) vs) c.1 in
      let told = tells b vs in
      record {
        crash = a.0;
        crash_found = a.1;
        files = ap (λ (fs : Numbered). fs.living) a.2.files ∙ ap (λ (s : SyncState). s.files.living) told.sync ∙ suffices.files;
        texts = λ t. begins_through _ _ _ (subst (λ (zs : List ℕ). IsBeginningOf (shown (run_of b es) t) zs) (sym (told.texts t)) (suffices.terminals t)) (a.2.texts t);
        end = end es;
      }
