-- Whatever Turns the events have, the calls alone come to the same, once each process has run on to where it stops.
use Rattle.std.proofs.Common.{◌≡◌, ℕ, zero, suc, ◌+◌, ◌==◌, Bool, true, false, List, [], ◌∷◌, ◌++◌, length, map, slice_get, slice_set, append-nil, Option, Some, None, IfSome, is_some, refl, sym, ap, ◌∙◌, arith}
use Rattle.std.specs.Prelude.{if◌then◌else◌, option_map, option_to_list}
use Rattle.std.proofs.lemmas.Bool.{eq-eqb, false≢true, or_left, or_right}
use Rattle.std.proofs.lemmas.List.{length-map, map-append}
use Rattle.machine_model.specs.States.{State, by_step, next, Goes, Halts, run, stopped_at}
use Rattle.machine_model.specs.Replies.{replied}
use Rattle.machine_model.specs.declared.reply.Reply.{Reply}
use Rattle.machine_model.specs.declared.stop.Stop.{Stop}
use Rattle.kernel_model.specs.Entries.{is_among}
use Rattle.kernel_model.specs.Limits.{AreNumbered}
use Rattle.kernel_model.specs.Rows.{CallEffect}
use Rattle.kernel_model.specs.Shown.{bytes_for}
use Rattle.kernel_model.specs.State.{SyncState, Process, shared, process_at, put_process, with_process}
use Rattle.kernel_model.specs.Steps.{Transition, impossible, own_entry, after_run, after_turn, after_reply, after_end, after_effect, after_enter, effect_at, forked, zero_reply, step}
use Rattle.kernel_model.specs.World.{sync_run}
use Rattle.kernel_model.specs.declared.carrier.Carrier.{Carrier}
use Rattle.kernel_model.specs.declared.carrier.Carrier.TheVariants.{Proc, Tasks}
use Rattle.kernel_model.specs.declared.effect.Output.{Output}
use Rattle.kernel_model.specs.declared.event.Event.{Event}
use Rattle.kernel_model.specs.declared.event.Event.TheVariants.{Turn, Enter, Cut, Complete, Fail}
use Rattle.kernel_model.specs.declared.request.Verdict.{Verdict}
use Rattle.kernel_model.specs.declared.request.Verdict.TheVariants.{Waits, Replies, Ends}
use Rattle.kernel_laws.proofs.Machines.{run-add, run_halted}
use Rattle.kernel_laws.proofs.Processes.{at_same, put_twice, at_append, put_append}
use Rattle.kernel_laws.proofs.Effects.{effect_keeps}
use Rattle.kernel_model.proofs.Limits.{put_length}
use Rattle.kernel_laws.proofs.Selected.{step_numbered}
use Rattle.order_laws.specs.Moves.{Seen, Label, label_of, seen_after, events, wrote, turns, call_after, calls}
use Rattle.order_laws.specs.Orders.{reached}
use Rattle.order_laws.specs.Outcomes.{rested, settled}
use Rattle.order_laws.proofs.Calls.{calls_commute}
use Rattle.order_laws.proofs.Choosing.{reached-append}
use Rattle.order_laws.proofs.Commuting.{same_seen}

-- each process that has not ended comes to a call or a trap within n instructions
abbrev pub AllStop : ℕ → SyncState → Type 0
AllStop n s = (p : ℕ) (z : Process) → process_at s.processes p ≡ Some z → is_some z.status ≡ false → is_some (stopped_at (run n z.state).state) ≡ true

-- ---- machines
stands_halts : (s : State) → is_some (stopped_at s) ≡ true → (stop : Stop) × (next s ≡ Halts stop)
stands_halts s h = by (next s) refl h
  where
    by : (o : _) → next s ≡ o → is_some (by_step o (λ t. None) (λ stop. Some stop)) ≡ true → (stop : Stop) × (next s ≡ Halts stop)
    by (Goes t) is k = absurd (false≢true k)
    by (Halts stop) is k = (stop, is)

-- a machine that stands stays
stays : (n : ℕ) (s : State) → is_some (stopped_at s) ≡ true → (run n s).state ≡ s
stays n s h = let halts = stands_halts s h in run_halted n s halts.0 halts.1

-- where it comes to a stop within n, some instructions before make no difference
no_matter : (n k : ℕ) (s : State) → is_some (stopped_at (run n s).state) ≡ true → (run n (run k s).state).state ≡ (run n s).state
no_matter n k s h =
    sym (run-add k n s)
    ∙ ap (λ (m : ℕ). (run m s).state) (let is : k + n ≡ n + k = omega arith in is)
    ∙ run-add n k s
    ∙ stays k (run n s).state h

-- ---- processes
pub after_run_rested : (n : ℕ) (z : Process) → is_some z.status ≡ false → rested n z ≡ after_run n z
after_run_rested n z lives = ap (λ (b : Bool). if b then z else after_run n z) lives

rested_after : (n k : ℕ) (z : Process) → is_some z.status ≡ false → is_some (stopped_at (run n z.state).state) ≡ true → rested n (after_run k z) ≡ rested n z
rested_after n k z lives h =
    after_run_rested n (after_run k z) lives
    ∙ ap (λ (s : State). record z { state = s }) (no_matter n k z.state h)
    ∙ sym (after_run_rested n z lives)

rested_stands : (n : ℕ) (z : Process) → is_some z.status ≡ false → is_some (stopped_at z.state) ≡ true → rested n z ≡ z
rested_stands n z lives h = after_run_rested n z lives ∙ ap (λ (s : State). record z { state = s }) (stays n z.state h)

pub map_at : (f : Process → Process) (ps : List Process) (p : ℕ) → process_at (map f ps) p ≡ option_map f (process_at ps p)
map_at f ps zero = refl
map_at f ps (suc k) = get ps k
  where
    get : (qs : List Process) (j : ℕ) → slice_get (map f qs) j ≡ option_map f (slice_get qs j)
    get [] j = refl
    get (q ∷ qs) zero = refl
    get (q ∷ qs) (suc j) = get qs j

map_put : (f : Process → Process) (ps : List Process) (p : ℕ) (x : Process) → map f (put_process ps p x) ≡ put_process (map f ps) p (f x)
map_put f ps zero x = refl
map_put f ps (suc k) x = set ps k
  where
    set : (qs : List Process) (j : ℕ) → map f (slice_set qs j x) ≡ slice_set (map f qs) j (f x)
    set [] j = refl
    set (q ∷ qs) zero = refl
    set (q ∷ qs) (suc j) = ap (λ zs. f q ∷ zs) (set qs j)

put_own : (ps : List Process) (p : ℕ) (x : Process) → process_at ps p ≡ Some x → put_process ps p x ≡ ps
put_own ps zero x at = refl
put_own ps (suc k) x at = set ps k at
  where
    set : (qs : List Process) (j : ℕ) → slice_get qs j ≡ Some x → slice_set qs j x ≡ qs
    set [] j e = refl
    set (q ∷ qs) zero e = let same : q ≡ x = cc in ap (λ (z : Process). z ∷ qs) (sym same)
    set (q ∷ qs) (suc j) e = ap (λ zs. q ∷ zs) (set qs j e)

-- a process that makes no difference once it has run on
put_rested : (n : ℕ) (ps : List Process) (p : ℕ) (x z : Process) → process_at ps p ≡ Some z → rested n x ≡ rested n z → map (rested n) (put_process ps p x) ≡ map (rested n) ps
put_rested n ps p x z at same =
    map_put (rested n) ps p x ∙ ap (λ (y : Process). put_process (map (rested n) ps) p y) same
    ∙ put_own (map (rested n) ps) p (rested n z) (map_at (rested n) ps p ∙ ap (option_map (rested n)) at)

statuses_same : (n : ℕ) (ps : List Process) → map (λ (p : Process). p.status) (map (rested n) ps) ≡ map (λ (p : Process). p.status) ps
statuses_same n [] = refl
statuses_same n (p ∷ ps) = ap (λ (o : Option ℕ). o ∷ map (λ (q : Process). q.status) (map (rested n) ps)) (by (is_some p.status)) ∙ ap (λ zs. p.status ∷ zs) (statuses_same n ps)
  where
    by : (b : Bool) → (if b then p else after_run n p).status ≡ p.status
    by true = refl
    by false = refl

-- ---- a Turn changes its process alone
abbrev seen_by : Seen → Transition → Seen
seen_by s t = record { sync = t.state; texts = λ k. s.texts k ++ bytes_for k t.entry.output }

abbrev pub with_sync : Seen → SyncState → Seen
with_sync s t = record s { sync = t }

-- an event without output
quiet : (s : Seen) (t : Transition) → t.entry.output ≡ None → seen_by s t ≡ with_sync s t.state
quiet s t none = same_seen (seen_by s t) (with_sync s t.state) refl (λ k. ap (λ (o : Option Output). s.texts k ++ bytes_for k o) none ∙ append-nil (s.texts k))

turn_quiet : (s : SyncState) (r n : ℕ) (o : Option Process) → (after_turn s r n o).entry.output ≡ None
turn_quiet s r n None = refl
turn_quiet s r n (Some p) = by (is_some p.status)
  where
    by : (b : Bool) → (if b then impossible r s else record { state = with_process s r (after_run n p); entry = own_entry r }).entry.output ≡ None
    by true = refl
    by false = refl

pub turn_only : (s : Seen) (r n : ℕ) → seen_after s (Turn r n) ≡ with_sync s (step s.sync (Turn r n)).state
turn_only s r n = quiet s (step s.sync (Turn r n)) (turn_quiet s.sync r n (process_at s.sync.processes r))

-- several Turns
pub turns_only : (n : ℕ) (rs : List ℕ) (s : Seen) → reached events s (turns n rs) ≡ with_sync s (sync_run s.sync (turns n rs))
turns_only n [] s = refl
turns_only n (r ∷ rs) s =
    ap (λ (u : Seen). reached events u (turns n rs)) (turn_only s r n)
    ∙ turns_only n rs (with_sync s (step s.sync (Turn r n)).state)

-- ---- the calls
abbrev pub settle : ℕ → SyncState → SyncState
settle n s = record s { processes = map (rested n) s.processes }

pub turn_at : (s : SyncState) (r n : ℕ) (y : Process) → process_at s.processes r ≡ Some y → is_some y.status ≡ false → (step s (Turn r n)).state ≡ with_process s r (after_run n y)
turn_at s r n y at lives = rw (at, lives) refl

pub turn_ended : (s : SyncState) (r n : ℕ) (y : Process) → process_at s.processes r ≡ Some y → is_some y.status ≡ true → (step s (Turn r n)).state ≡ s
turn_ended s r n y at ended = rw (at, ended) refl

enter_at : (s : SyncState) (p : ℕ) (z : Process) (e : CallEffect) → process_at s.processes p ≡ Some z → is_some z.status ≡ false → effect_at (shared s) p z (stopped_at z.state) ≡ Some e
    → step s (Enter p) ≡ after_effect s p z e e.verdict
enter_at s p z e at lives is = rw (at, lives, is) refl

shared_same : (n : ℕ) (s : SyncState) → shared (settle n s) ≡ shared s
shared_same n s = ap (λ (os : List (Option ℕ)). record (shared s) { statuses = os }) (statuses_same n s.processes)

-- ---- lists of processes, the last of which is new
last_at : (qs : List Process) (y : Process) → process_at (qs ++ y ∷ []) (length qs + 1) ≡ Some y
last_at qs y = ap (λ (k : ℕ). process_at (qs ++ y ∷ []) k) (let is : length qs + 1 ≡ suc (length qs) = omega arith in is) ∙ get qs
  where
    get : (qs : List Process) → slice_get (qs ++ y ∷ []) (length qs) ≡ Some y
    get [] = refl
    get (q ∷ qs) = get qs

last_put : (qs : List Process) (y x : Process) → put_process (qs ++ y ∷ []) (length qs + 1) x ≡ qs ++ x ∷ []
last_put qs y x = ap (λ (k : ℕ). put_process (qs ++ y ∷ []) k x) (let is : length qs + 1 ≡ suc (length qs) = omega arith in is) ∙ set qs
  where
    set : (qs : List Process) → slice_set (qs ++ y ∷ []) (length qs) x ≡ qs ++ x ∷ []
    set [] = refl
    set (q ∷ qs) = ap (λ zs. q ∷ zs) (set qs)

-- ---- after a reply
module _ (n : ℕ) (s : SyncState) (p : ℕ) (z x : Process) (at : process_at s.processes p ≡ Some z) (lives : is_some x.status ≡ false) where
  abbrev rest : List Process
  rest = map (rested n) s.processes

  there : process_at rest p ≡ Some (rested n z)
  there = map_at (rested n) s.processes p ∙ ap (option_map (rested n)) at

  placed_at : process_at (put_process rest p x) p ≡ Some x
  placed_at = at_same rest p x (rested n z) there

  -- the caller runs on
  caller_on : (u : SyncState) (ys : List Process) → u.processes ≡ put_process rest p x ++ ys → (step u (Turn p n)).state ≡ record u { processes = put_process rest p (after_run n x) ++ ys }
  caller_on u ys is =
      turn_at u p n x (ap (λ (ps : List Process). process_at ps p) is ∙ at_append (put_process rest p x) ys p x placed_at) lives
      ∙ ap (λ (ps : List Process). record u { processes = ps })
      (ap (λ (ps : List Process). put_process ps p (after_run n x)) is
      ∙ put_append (put_process rest p x) ys p (after_run n x) x placed_at
      ∙ ap (λ (ps : List Process). ps ++ ys) (put_twice rest p x (after_run n x)))

  -- and a new one
  child_on : (u : SyncState) (y : Process) → is_some y.status ≡ false → u.processes ≡ put_process rest p (after_run n x) ++ y ∷ []
      → (step u (Turn (length s.processes + 1) n)).state ≡ record u { processes = put_process rest p (after_run n x) ++ after_run n y ∷ [] }
  child_on u y also is =
      let qs = put_process rest p (after_run n x) in
      let long : length qs ≡ length s.processes = put_length rest p (after_run n x) ∙ length-map s.processes (rested n) in
      ap (λ (k : ℕ). (step u (Turn (k + 1) n)).state) (sym long)
      ∙ turn_at u (length qs + 1) n y (ap (λ (ps : List Process). process_at ps (length qs + 1)) is ∙ last_at qs y) also
      ∙ ap (λ (ps : List Process). record u { processes = ps }) (ap (λ (ps : List Process). put_process ps (length qs + 1) (after_run n y)) is ∙ last_put qs y (after_run n y))

  -- what the settled processes are after it
  settled_put : (ys : List Process) → map (rested n) (put_process s.processes p x ++ ys) ≡ put_process rest p (after_run n x) ++ map (rested n) ys
  settled_put ys =
      map-append (rested n) (put_process s.processes p x) ys
      ∙ ap (λ (ps : List Process). ps ++ map (rested n) ys) (map_put (rested n) s.processes p x ∙ ap (λ (w : Process). put_process rest p w) (after_run_rested n x lives))

-- the state after a reply to process p, where each process has run on
module _ (n : ℕ) (s : SyncState) (p : ℕ) (z : Process) (e : CallEffect) (r : Reply) (at : process_at s.processes p ≡ Some z) where
  abbrev pub reply_state : SyncState → SyncState
  reply_state t = (after_effect t p z e (Replies r)).state

  replied_on : (child : Option ℕ) → e.child ≡ child → IfSome child (λ k. k ≡ length s.processes + 1)
      → sync_run (reply_state (settle n s)) (turns n (p ∷ option_to_list child)) ≡ settle n (reply_state s)
  replied_on None none next =
      let x = after_reply z e r in
      caller_on n s p z x at refl (reply_state (settle n s)) (forked z e.child) refl
      ∙ ap (λ (ps : List Process). record (reply_state (settle n s)) { processes = ps })
      (ap (λ (o : Option ℕ). put_process (map (rested n) s.processes) p (after_run n x) ++ forked z o) none
      ∙ ap (λ (o : Option ℕ). put_process (map (rested n) s.processes) p (after_run n x) ++ map (rested n) (forked z o)) (sym none)
      ∙ sym (settled_put n s p z x at refl (forked z e.child)))
  replied_on (Some k) some next =
      let x = after_reply z e r in
      let u = reply_state (settle n s) in
      let first = caller_on n s p z x at refl u (forked z e.child) refl in
      let y : Process = record { state = replied z.state zero_reply; descriptors = z.descriptors; children = []; status = None } in
      ap (λ (t : SyncState). (step t (Turn k n)).state) first
      ∙ ap (λ (j : ℕ). (step (record u { processes = put_process (map (rested n) s.processes) p (after_run n x) ++ forked z e.child }) (Turn j n)).state) next
      ∙ child_on n s p z x at refl (record u { processes = put_process (map (rested n) s.processes) p (after_run n x) ++ forked z e.child }) y refl
      (ap (λ (o : Option ℕ). put_process (map (rested n) s.processes) p (after_run n x) ++ forked z o) some)
      ∙ ap (λ (ps : List Process). record u { processes = ps })
      (ap (λ (o : Option ℕ). put_process (map (rested n) s.processes) p (after_run n x) ++ map (rested n) (forked z o)) (sym some)
      ∙ sym (settled_put n s p z x at refl (forked z e.child)))

-- ---- one event
module _ (n : ℕ) where
  -- what the calls come to
  abbrev pub Covers : Seen → Seen → Type 0
  Covers s t = (ps : List ℕ) × (reached (calls n) (settled n s) ps ≡ settled n t)

  none_covers : (s t : Seen) → t ≡ s → Covers s t
  none_covers s t same = ([], ap (settled n) (sym same))

  pub goers_are : (p : ℕ) (l : Label) (child : Option ℕ) → is_among (Proc p) l.writes ≡ true → IfSome child (λ k. is_among (Proc k) l.writes ≡ true)
      → wrote l (p ∷ option_to_list child) ≡ p ∷ option_to_list child
  goers_are p l None own made = ap (λ (b : Bool). if b then p ∷ [] else []) own
  goers_are p l (Some k) own made =
      ap (λ (b : Bool). if b then p ∷ (if is_among (Proc k) l.writes then k ∷ [] else []) else (if is_among (Proc k) l.writes then k ∷ [] else [])) own
      ∙ ap (λ (b : Bool). p ∷ (if b then k ∷ [] else [])) made

  module _ (s : Seen) (p : ℕ) (z : Process) (e : CallEffect) (at : process_at s.sync.processes p ≡ Some z) (lives : is_some z.status ≡ false)
      (is : effect_at (shared s.sync) p z (stopped_at z.state) ≡ Some e) where
    stopped : is_some (stopped_at z.state) ≡ true
    stopped = by (stopped_at z.state) is
      where
        by : (o : Option Stop) → effect_at (shared s.sync) p z o ≡ Some e → is_some o ≡ true
        by None k = absurd (let none : ⊥ = cc in none)
        by (Some stop) k = refl

    still : rested n z ≡ z
    still = rested_stands n z lives stopped

    at_settled : process_at (settle n s.sync).processes p ≡ Some z
    at_settled = map_at (rested n) s.sync.processes p ∙ ap (option_map (rested n)) at ∙ ap (λ (w : Process). Some w) still

    enters : step (settle n s.sync) (Enter p) ≡ after_effect (settle n s.sync) p z e e.verdict
    enters = enter_at (settle n s.sync) p z e at_settled lives (ap (λ x. effect_at x p z (stopped_at z.state)) (shared_same n s.sync) ∙ is)

    -- the call, where its Turns are those of these processes
    called : (t : Transition) (rs : List ℕ) → step (settle n s.sync) (Enter p) ≡ t → wrote (label_of t.entry) (p ∷ option_to_list (label_of t.entry).child) ≡ rs
        → call_after n (settled n s) p ≡ with_sync (seen_by (settled n s) t) (sync_run t.state (turns n rs))
    called t rs is_t are =
        ap (λ (u : Transition). reached events (seen_by (settled n s) u) (turns n (wrote (label_of u.entry) (p ∷ option_to_list (label_of u.entry).child)))) is_t
        ∙ ap (λ (qs : List ℕ). reached events (seen_by (settled n s) t) (turns n qs)) are
        ∙ turns_only n rs (seen_by (settled n s) t)

    own_written : (cs : List Carrier) → is_among (Proc p) (Proc p ∷ cs) ≡ true
    own_written cs = or_left (p == p) (is_among (Proc p) cs) (eq-eqb p p refl)

    enter_covers : (v : Verdict) → e.verdict ≡ v → IfSome e.child (λ k. (k ≡ length s.sync.processes + 1) × (is_among (Proc k) (Proc p ∷ e.writes) ≡ true))
        → Covers s (seen_after s (Enter p))
    enter_covers Waits is_v made = none_covers s (seen_after s (Enter p))
        (ap (λ (u : Transition). seen_by s u) (enter_at s.sync p z e at lives is ∙ ap (λ (v : Verdict). after_effect s.sync p z e v) is_v)
        ∙ quiet s (after_effect s.sync p z e Waits) refl)
    enter_covers (Replies r) is_v made =
        let t : Transition = after_effect (settle n s.sync) p z e (Replies r) in (
          p ∷ [],
          called t (p ∷ option_to_list e.child) (enters ∙ ap (λ (v : Verdict). after_effect (settle n s.sync) p z e v) is_v)
              (goers_are p (label_of t.entry) e.child (own_written e.writes) (second e.child made))
              ∙ ap (λ (u : SyncState). with_sync (seen_by (settled n s) t) u) (replied_on n s.sync p z e r at e.child refl (first e.child made))
              ∙ sym (ap (λ (u : Transition). settled n (seen_by s u)) (enter_at s.sync p z e at lives is ∙ ap (λ (v : Verdict). after_effect s.sync p z e v) is_v)),
        )
      where
        first : (o : Option ℕ) → IfSome o (λ k. (k ≡ length s.sync.processes + 1) × (is_among (Proc k) (Proc p ∷ e.writes) ≡ true)) → IfSome o (λ k. k ≡ length s.sync.processes + 1)
        first None h = tt
        first (Some k) h = h.0

        second : (o : Option ℕ) → IfSome o (λ k. (k ≡ length s.sync.processes + 1) × (is_among (Proc k) (Proc p ∷ e.writes) ≡ true)) → IfSome o (λ k. is_among (Proc k) (Proc p ∷ e.writes) ≡ true)
        second None h = tt
        second (Some k) h = h.1
    enter_covers (Ends status) is_v made =
        let t : Transition = after_effect (settle n s.sync) p z e (Ends status) in
        let dead : process_at t.state.processes p ≡ Some (after_end z status) = at_same (settle n s.sync).processes p (after_end z status) z at_settled in (
          p ∷ [],
          called t (p ∷ []) (enters ∙ ap (λ (v : Verdict). after_effect (settle n s.sync) p z e v) is_v) (goers_are p (label_of t.entry) None (own_written e.writes) tt)
              ∙ ap (λ (u : SyncState). with_sync (seen_by (settled n s) t) u) (turn_ended t.state p n (after_end z status) dead refl)
              ∙ ap (λ (ps : List Process). with_sync (seen_by (settled n s) t) (record t.state { processes = ps })) (sym (map_put (rested n) s.sync.processes p (after_end z status)))
              ∙ sym (ap (λ (u : Transition). settled n (seen_by s u)) (enter_at s.sync p z e at lives is ∙ ap (λ (v : Verdict). after_effect s.sync p z e v) is_v)),
        )

  pub event_covers : (s : Seen) (e : Event) → AreNumbered s.sync.files → AllStop n s.sync → Covers s (seen_after s e)
  event_covers s (Turn r k) are stop = ([], sym (ap (settled n) (turn_only s r k) ∙ ap (λ (t : SyncState). with_sync s t) (by (process_at s.sync.processes r) refl)))
    where
      by : (o : Option Process) → process_at s.sync.processes r ≡ o → settle n (after_turn s.sync r k o).state ≡ settle n s.sync
      by None at = refl
      by (Some z) at = going (is_some z.status) refl
        where
          going : (b : Bool) → is_some z.status ≡ b → settle n (if b then impossible r s.sync else record { state = with_process s.sync r (after_run k z); entry = own_entry r }).state ≡ settle n s.sync
          going true is = refl
          going false is = ap (λ (ps : List Process). record s.sync { processes = ps }) (put_rested n s.sync.processes r (after_run k z) z at (rested_after n k z is (stop r z at is)))
  event_covers s (Enter p) are stop = by (process_at s.sync.processes p) refl
    where
      nothing : seen_by s (impossible p s.sync) ≡ s
      nothing = quiet s (impossible p s.sync) refl

      by : (o : Option Process) → process_at s.sync.processes p ≡ o → Covers s (seen_after s (Enter p))
      by None at = none_covers s (seen_after s (Enter p)) (ap (λ (o : Option Process). seen_by s (after_enter s.sync p o)) at ∙ nothing)
      by (Some z) at = going (is_some z.status) refl
        where
          going : (b : Bool) → is_some z.status ≡ b → Covers s (seen_after s (Enter p))
          going true is = none_covers s (seen_after s (Enter p)) (ap (λ (t : Transition). seen_by s t) (let same : step s.sync (Enter p) ≡ impossible p s.sync = rw (at, is) refl in same) ∙ nothing)
          going false is = serving (effect_at (shared s.sync) p z (stopped_at z.state)) refl
            where
              serving : (o : Option CallEffect) → effect_at (shared s.sync) p z (stopped_at z.state) ≡ o → Covers s (seen_after s (Enter p))
              serving None no_effect = none_covers s (seen_after s (Enter p)) (ap (λ (t : Transition). seen_by s t) (let same : step s.sync (Enter p) ≡ impossible p s.sync = rw (at, is, no_effect) refl in same) ∙ nothing)
              serving (Some e) some_effect = enter_covers s p z e at is some_effect e.verdict refl (made e.child (effect_keeps s.sync p z (stopped_at z.state) e are some_effect).child)
                where
                  made : (o : Option ℕ) → IfSome o (λ k. (k ≡ length s.sync.processes + 1) × (is_among Tasks e.writes ≡ true) × (is_among (Proc k) e.writes ≡ true))
                      → IfSome o (λ k. (k ≡ length s.sync.processes + 1) × (is_among (Proc k) (Proc p ∷ e.writes) ≡ true))
                  made None h = tt
                  made (Some k) h = (h.0, or_right (k == p) (is_among (Proc k) e.writes) h.2)
  event_covers s Cut are stop = none_covers s (seen_after s Cut) (quiet s (step s.sync Cut) refl)
  event_covers s (Complete k) are stop = none_covers s (seen_after s (Complete k)) (quiet s (step s.sync (Complete k)) refl)
  event_covers s (Fail k) are stop = none_covers s (seen_after s (Fail k)) (quiet s (step s.sync (Fail k)) refl)

  pub covered : (es : List Event) (s : Seen) → AreNumbered s.sync.files → ((ds : List Event) → AllStop n (sync_run s.sync ds)) → Covers s (reached events s es)
  covered [] s are stop = none_covers s s refl
  covered (e ∷ es) s are stop =
      let first = event_covers s e are (stop []) in
      let later = covered es (seen_after s e) (step_numbered s.sync e are) (λ ds. stop (e ∷ ds)) in
      (first.0 ++ later.0, reached-append (calls n) (λ (r : Seen). AreNumbered r.sync.files) (calls_commute n) first.0 later.0 (settled n s) ∙ ap (λ (u : Seen). reached (calls n) u later.0) first.1 ∙ later.1)
