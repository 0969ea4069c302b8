-- An instruction moves past what is neither of its process's instructions nor its Enter.
use Rattle.std.proofs.Common.{append-nil, ◌≡◌, ℕ, ◌+◌, ◌==◌, Bool, true, false, if◌then◌else◌, List, [], ◌∷◌, ◌++◌, Option, Some, None, is_some, refl, sym, ap, subst, ◌∙◌, arith}
use Rattle.std.proofs.lemmas.Bool.{eqb-true, eqb-false, false≢true}
use Rattle.disk_model.specs.declared.change.Change.{Change}
use Rattle.disk_model.specs.Storage.{Storage}
use Rattle.machine_model.specs.States.{State, run, stopped_at}
use Rattle.kernel_model.specs.Entries.{Entry}
use Rattle.kernel_model.specs.Paths.{changes_in_log}
use Rattle.kernel_model.specs.State.{SyncState, Process, process_at, with_process}
use Rattle.kernel_model.specs.Steps.{Transition, own_entry, after_run, step}
use Rattle.kernel_model.specs.World.{World, stored, happens, after}
use Rattle.kernel_model.specs.Fine.{Fine, Instruction, Other, delayed, gathered, may_go, IsFine, after_fine}
use Rattle.kernel_model.specs.declared.event.Event.{Event}
use Rattle.kernel_model.specs.declared.event.Event.TheVariants.{Turn, Enter, Cut, Complete, Fail}
use Rattle.kernel_laws.proofs.Machines.{run-add}
use Rattle.kernel_laws.proofs.Processes.{at_same, put_twice}
use Rattle.kernel_laws.proofs.Others.{IsNotOf, moved, step_moves, step_keeps}
use Rattle.kernel_laws.proofs.Quiet.{telling, telling-append, own_quiet, changes_told}

pub turn_is : (s : SyncState) (p n : ℕ) (y : Process) → process_at s.processes p ≡ Some y → is_some y.status ≡ false
    → step s (Turn p n) ≡ record { state = with_process s p (after_run n y); entry = own_entry p }
turn_is s p n y e h = rw (e, h) refl

-- two runs that are alike but for quiet events in the log
pub record Alike (a b : World) : Type 0 where
  pub sync : a.sync ≡ b.sync
  pub storage : a.storage ≡ b.storage
  pub log : telling a.log ≡ telling b.log

pub alike_same : (a b : World) → a ≡ b → Alike a b
alike_same a b e = record { sync = ap (λ (w : World). w.sync) e; storage = ap (λ (w : World). w.storage) e; log = ap (λ (w : World). telling w.log) e }

pub alike_sym : {a b : World} → Alike a b → Alike b a
alike_sym h = record { sync = sym h.sync; storage = sym h.storage; log = sym h.log }

pub alike_trans : {a b c : World} → Alike a b → Alike b c → Alike a c
alike_trans f g = record { sync = f.sync ∙ g.sync; storage = f.storage ∙ g.storage; log = f.log ∙ g.log }

pub changes_alike : (xs ys : List Entry) → telling xs ≡ telling ys → changes_in_log xs ≡ changes_in_log ys
changes_alike xs ys e = changes_told xs ∙ ap changes_in_log e ∙ sym (changes_told ys)

log_alike : (xs ys : List Entry) (d e : Entry) → telling xs ≡ telling ys → d ≡ e → telling (xs ++ d ∷ []) ≡ telling (ys ++ e ∷ [])
log_alike xs ys d e h same = telling-append xs (d ∷ []) ∙ ap (λ zs. zs ++ telling (d ∷ [])) h ∙ ap (λ (x : Entry). telling ys ++ telling (x ∷ [])) same ∙ sym (telling-append ys (e ∷ []))

pub alike_happens : (a b : World) (e : Event) → Alike a b → Alike (happens a e) (happens b e)
alike_happens a b e h = record {
  sync = ap (λ (s : SyncState). (step s e).state) h.sync;
  storage = ap (λ (st : Storage). stored st (changes_in_log a.log) a.sync.files.living e) h.storage
      ∙ ap (λ (cs : List Change). stored b.storage cs a.sync.files.living e) (changes_alike a.log b.log h.log)
      ∙ ap (λ (s : SyncState). stored b.storage (changes_in_log b.log) s.files.living e) h.sync;
  log = log_alike a.log b.log (step a.sync e).entry (step b.sync e).entry h.log (ap (λ (s : SyncState). (step s e).entry) h.sync);
}

pub alike_after : (es : List Event) (a b : World) → Alike a b → Alike (after a es) (after b es)
alike_after [] a b h = h
alike_after (e ∷ es) a b h = alike_after es (happens a e) (happens b e) (alike_happens a b e h)

pub own_untold : (xs : List Entry) (p : ℕ) → telling (xs ++ own_entry p ∷ []) ≡ telling xs
own_untold xs p = telling-append xs (own_entry p ∷ []) ∙ ap (λ (b : Bool). telling xs ++ (if b then [] else own_entry p ∷ [])) (own_quiet p) ∙ append-nil (telling xs)

-- the law: an instruction of p moves past an event that is none of p's
pub swap : (w : World) (p : ℕ) (y : Process) (e : Event) → process_at w.sync.processes p ≡ Some y → is_some y.status ≡ false → IsNotOf p e
    → Alike (happens (happens w (Turn p 1)) e) (happens (happens w e) (Turn p 1))
swap w p y e at running ne =
    let x = after_run 1 y in
    let first : step w.sync (Turn p 1) ≡ record { state = with_process w.sync p x; entry = own_entry p } = turn_is w.sync p 1 y at running in
    let moves : step (with_process w.sync p x) e ≡ moved p x (step w.sync e) = step_moves w.sync p y (run 1 y.state).state e at ne in
    let next_is : step (step w.sync (Turn p 1)).state e ≡ moved p x (step w.sync e) = ap (λ (d : Transition). step d.state e) first ∙ moves in
    let last : step (step w.sync e).state (Turn p 1) ≡ record { state = with_process (step w.sync e).state p x; entry = own_entry p } = turn_is (step w.sync e).state p 1 y (step_keeps w.sync p y e at ne) running in
    let d = (step w.sync e).entry in
    record {
      sync = ap (λ (d : Transition). d.state) next_is ∙ sym (ap (λ (d : Transition). d.state) last);
      storage = ap (λ (t : Transition). stored w.storage (changes_in_log (w.log ++ (step w.sync (Turn p 1)).entry ∷ [])) t.state.files.living e) first
          ∙ ap (λ (cs : List Change). stored w.storage cs w.sync.files.living e) (changes_alike (w.log ++ (step w.sync (Turn p 1)).entry ∷ []) w.log
          (ap (λ (d : Transition). telling (w.log ++ d.entry ∷ [])) first ∙ own_untold w.log p));
      log =
          log_alike (w.log ++ (step w.sync (Turn p 1)).entry ∷ []) w.log (step (step w.sync (Turn p 1)).state e).entry d
          (ap (λ (d : Transition). telling (w.log ++ d.entry ∷ [])) first ∙ own_untold w.log p) (ap (λ (d : Transition). d.entry) next_is)
          ∙ sym (own_untold (w.log ++ d ∷ []) p)
          ∙ sym (ap (λ (l : Transition). telling ((w.log ++ d ∷ []) ++ l.entry ∷ [])) last);
    }

-- two Turns, the first of one instruction, are one
run_more : (n : ℕ) (s : State) → (run (n + 1) s).state ≡ (run n (run 1 s).state).state
run_more n s =
    let one : n + 1 ≡ 1 + n = omega arith in
    ap (λ (k : ℕ). (run k s).state) one ∙ run-add 1 n s

pub merge : (w : World) (p n : ℕ) (y : Process) → process_at w.sync.processes p ≡ Some y → is_some y.status ≡ false
    → Alike (happens (happens w (Turn p 1)) (Turn p n)) (happens w (Turn p (n + 1)))
merge w p n y at running =
    let x = after_run 1 y in
    let first : step w.sync (Turn p 1) ≡ record { state = with_process w.sync p x; entry = own_entry p } = turn_is w.sync p 1 y at running in
    let second : step (with_process w.sync p x) (Turn p n) ≡ record { state = with_process (with_process w.sync p x) p (after_run n x); entry = own_entry p } = turn_is (with_process w.sync p x) p n x (at_same w.sync.processes p x y at) running in
    let both = ap (λ (d : Transition). step d.state (Turn p n)) first ∙ second in
    let whole : step w.sync (Turn p (n + 1)) ≡ record { state = with_process w.sync p (after_run (n + 1) y); entry = own_entry p } = turn_is w.sync p (n + 1) y at running in
    let same : after_run (n + 1) y ≡ after_run n x = ap (λ (s : State). record y { state = s }) (run_more n y.state) in
    record {
      sync = ap (λ (d : Transition). d.state) both
          ∙ ap (λ (ps : List Process). record w.sync { processes = ps }) (put_twice w.sync.processes p x (after_run n x))
          ∙ ap (λ (z : Process). with_process w.sync p z) (sym same)
          ∙ sym (ap (λ (d : Transition). d.state) whole);
      storage = refl;
      log =
          ap (λ (l : Transition). telling ((w.log ++ (step w.sync (Turn p 1)).entry ∷ []) ++ l.entry ∷ [])) both
          ∙ own_untold (w.log ++ (step w.sync (Turn p 1)).entry ∷ []) p
          ∙ ap (λ (d : Transition). telling (w.log ++ d.entry ∷ [])) first
          ∙ sym (ap (λ (d : Transition). telling (w.log ++ d.entry ∷ [])) whole);
    }

-- a process that may do an instruction is there, and has not ended
pub record Goer (w : World) (p : ℕ) : Type 0 where
  pub process : Process
  pub there : process_at w.sync.processes p ≡ Some process
  pub running : is_some process.status ≡ false

pub goer : (w : World) (p : ℕ) → may_go (process_at w.sync.processes p) ≡ true → Goer w p
goer w p h = from (process_at w.sync.processes p) refl h
  where
    not_ended : (a b : Bool) → (if a then false else if b then false else true) ≡ true → a ≡ false
    not_ended true b h = absurd (false≢true h)
    not_ended false b h = refl

    from : (o : Option Process) → process_at w.sync.processes p ≡ o → may_go o ≡ true → Goer w p
    from None e h = absurd (false≢true h)
    from (Some y) e h = record { process = y; there = e; running = not_ended (is_some y.status) (is_some (stopped_at y.state)) h }

still : (w : World) (p : ℕ) (e : Event) → IsNotOf p e → may_go (process_at w.sync.processes p) ≡ true → may_go (process_at (happens w e).sync.processes p) ≡ true
still w p e ne h = let g = goer w p h in ap may_go (step_keeps w.sync p g.process e g.there ne) ∙ sym (ap may_go g.there) ∙ h

comes_after : (w : World) (p : ℕ) (e : Event) (es fs : List Event) → IsNotOf p e → may_go (process_at w.sync.processes p) ≡ true
    → Alike (after (happens (happens w e) (Turn p 1)) es) (after (happens w e) fs) → Alike (after (happens (happens w (Turn p 1)) e) es) (after (happens w e) fs)
comes_after w p e es fs ne h rest =
    let g = goer w p h in
    alike_trans (alike_after es _ _ (swap w p g.process e g.there g.running ne)) rest

-- an instruction that comes first may be delayed
pub delayed_alike : (es : List Event) (w : World) (p : ℕ) → may_go (process_at w.sync.processes p) ≡ true → Alike (after (happens w (Turn p 1)) es) (after w (delayed p es))
delayed_alike [] w p h = alike_same _ _ refl
delayed_alike (Turn q n ∷ es) w p h = elim (q == p) as (λ b. (q == p) ≡ b → Alike (after (happens w (Turn p 1)) (Turn q n ∷ es)) (after w (if b then Turn q (n + 1) ∷ es else Turn q n ∷ delayed p es))) [
  | true ↦ λ e. let g = goer w p h in
      subst (λ (r : ℕ). Alike (after (happens w (Turn p 1)) (Turn r n ∷ es)) (after w (Turn r (n + 1) ∷ es))) (sym (eqb-true q p e))
      (alike_after es _ _ (merge w p n g.process g.there g.running))
  | false ↦ λ e. let ne : IsNotOf p (Turn q n) = λ (same : p ≡ q). eqb-false q p e (sym same) in
      comes_after w p (Turn q n) es (delayed p es) ne h (delayed_alike es (happens w (Turn q n)) p (still w p (Turn q n) ne h))
] refl
delayed_alike (Enter q ∷ es) w p h = elim (q == p) as (λ b. (q == p) ≡ b → Alike (after (happens w (Turn p 1)) (Enter q ∷ es)) (after w (if b then Turn p 1 ∷ Enter q ∷ es else Enter q ∷ delayed p es))) [
  | true ↦ λ e. alike_same _ _ refl
  | false ↦ λ e. let ne : IsNotOf p (Enter q) = λ (same : p ≡ q). eqb-false q p e (sym same) in
      comes_after w p (Enter q) es (delayed p es) ne h (delayed_alike es (happens w (Enter q)) p (still w p (Enter q) ne h))
] refl
delayed_alike (Cut ∷ es) w p h = comes_after w p Cut es (delayed p es) tt h (delayed_alike es (happens w Cut) p (still w p Cut tt h))
delayed_alike (Complete k ∷ es) w p h = comes_after w p (Complete k) es (delayed p es) tt h (delayed_alike es (happens w (Complete k)) p (still w p (Complete k) tt h))
delayed_alike (Fail k ∷ es) w p h = comes_after w p (Fail k) es (delayed p es) tt h (delayed_alike es (happens w (Fail k)) p (still w p (Fail k) tt h))

-- a fine run is like the run of the events that it becomes
pub fine_alike : (items : List Fine) (w : World) → IsFine w items → Alike (after_fine w items) (after w (gathered items))
fine_alike [] w fine = alike_same _ _ refl
fine_alike (Instruction p ∷ items) w fine = alike_trans (fine_alike items (happens w (Turn p 1)) fine.1) (delayed_alike (gathered items) w p fine.0)
fine_alike (Other (Turn p n) ∷ items) w fine = absurd fine
fine_alike (Other (Enter p) ∷ items) w fine = fine_alike items (happens w (Enter p)) fine
fine_alike (Other Cut ∷ items) w fine = fine_alike items (happens w Cut) fine
fine_alike (Other (Complete k) ∷ items) w fine = fine_alike items (happens w (Complete k)) fine
fine_alike (Other (Fail k) ∷ items) w fine = fine_alike items (happens w (Fail k)) fine
