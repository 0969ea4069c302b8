-- A core that is booted alike accepts each event of a cone where it stands, and then the event itself. So it does the visible events.
use Rattle.std.proofs.Common.{◌≡◌, ℕ, zero, suc, ◌+◌, ◌*◌, ◌<◌, ◌≤◌, ◌||◌, ◌⊎◌, inl, inr, Bool, true, false, not, nat_lt, nat_le, List, [], ◌∷◌, ◌++◌, length, length-append, map, slice_get, Option, Some, None, is_none, is_some, refl, sym, ap, subst, ◌∙◌, arith}
use Rattle.std.specs.Prelude.{if◌then◌else◌, count_by}
use Rattle.std.specs.List.{AllByRecursion}
use Rattle.std.proofs.lemmas.Bool.{false≢true, leb-false, leb-true}
use Rattle.std.proofs.lemmas.Grind.{common_steps}
use Rattle.disk_model.proofs.Lists.{each_append, each_get}
use Rattle.kernel_model.specs.Answers.{Kernel, Lending, AllAccepted, now, process_of, quantum_out, is_lent, loans_out, limit, is_full, ◌⇒◌, first_of, has_ended, is_stopped, count_at, turn_refusal, enter_refusal, refusal, never_lent, with_child, with_event, at_boot}
use Rattle.kernel_model.specs.Entries.{Entry, meets}
use Rattle.kernel_model.specs.Limits.{AreNumbered}
use Rattle.kernel_model.specs.Paths.{wanted}
use Rattle.kernel_model.specs.State.{SyncState, Process, process_at}
use Rattle.kernel_model.specs.Steps.{step}
use Rattle.kernel_model.specs.World.{World, Boot, BootProgram, first_world, run_of, sync_run, sync_log}
use Rattle.kernel_model.specs.declared.answer.Refused.{Refused}
use Rattle.kernel_model.specs.declared.answer.Refused.TheVariants as refused
use Rattle.kernel_model.specs.declared.carrier.Carrier.{Carrier}
use Rattle.kernel_model.specs.declared.event.Event.{Event}
use Rattle.kernel_model.specs.declared.event.Event.TheVariants.{Turn, Enter, Cut, Complete, Fail}
use Rattle.kernel_model.proofs.Numbering.{numbered_first}
use Rattle.kernel_model.proofs.Runs.{after_sync, after_log, now-with_event}
use Rattle.kernel_laws.specs.Agreement.{Agree, AgreeOn}
use Rattle.kernel_laws.specs.Cones.{selected, path_flags, entry_of, cone_before, is_visible, visible_flags, visible, IsOfProcess}
use Rattle.kernel_laws.proofs.Coned.{agree_all, paths_closed}
use Rattle.kernel_laws.proofs.Frames.{turn_reads, enter_reads}
use Rattle.kernel_laws.proofs.Selected.{all_left, all_right, needed, IsClosed, taken, passed, step_numbered}
use Rattle.kernel_laws.proofs.Visible.{log_idles, visible_closed}

-- ---- tests that are fewer
turn_less : (a b c d f : Bool) (w x y z : Refused) → first_of ((a ⇒ w) ∷ (b ⇒ x) ∷ (c ⇒ y) ∷ ((d || f) ⇒ z) ∷ []) ≡ None
    → (first_of ((a ⇒ w) ∷ (b ⇒ x) ∷ (false ⇒ y) ∷ ((d || false) ⇒ z) ∷ []) ≡ None) × (f ≡ false)
turn_less true b c d f w x y z h = absurd (let no : ⊥ = cc in no)
turn_less false true c d f w x y z h = absurd (let no : ⊥ = cc in no)
turn_less false false true d f w x y z h = absurd (let no : ⊥ = cc in no)
turn_less false false false true f w x y z h = absurd (let no : ⊥ = cc in no)
turn_less false false false false true w x y z h = absurd (let no : ⊥ = cc in no)
turn_less false false false false false w x y z h = (refl, refl)

enter_less : (a b c s d f : Bool) (w x y v z : Refused) → first_of ((a ⇒ w) ∷ (b ⇒ x) ∷ (c ⇒ y) ∷ (s ⇒ v) ∷ ((d || f) ⇒ z) ∷ []) ≡ None
    → (first_of ((a ⇒ w) ∷ (b ⇒ x) ∷ (false ⇒ y) ∷ (s ⇒ v) ∷ ((d || false) ⇒ z) ∷ []) ≡ None) × (f ≡ false)
enter_less true b c s d f w x y v z h = absurd (let no : ⊥ = cc in no)
enter_less false true c s d f w x y v z h = absurd (let no : ⊥ = cc in no)
enter_less false false true s d f w x y v z h = absurd (let no : ⊥ = cc in no)
enter_less false false false true d f w x y v z h = absurd (let no : ⊥ = cc in no)
enter_less false false false false true f w x y v z h = absurd (let no : ⊥ = cc in no)
enter_less false false false false false true w x y v z h = absurd (let no : ⊥ = cc in no)
enter_less false false false false false false w x y v z h = (refl, refl)

-- ---- a core of which nothing is lent
abbrev IsIn : Lending → Type 0
IsIn l = l.out ≡ None

in_quantum : (o : Option Lending) → ((l : Lending) → o ≡ Some l → IsIn l) → is_some (quantum_out o) ≡ false
in_quantum None h = refl
in_quantum (Some l) h = ap (λ (q : Option ℕ). is_some q) (h l refl)

not_lent : (u : Kernel) (pid : ℕ) → AllByRecursion IsIn u.lendings → is_lent u pid ≡ false
not_lent u zero all = refl
not_lent u (suc i) all = in_quantum (slice_get u.lendings i) (λ l at. each_get IsIn u.lendings i l all at)

none_out : (ls : List Lending) → AllByRecursion IsIn ls → count_by (λ (l : Lending). is_some l.out) ls ≡ 0
none_out [] all = refl
none_out (l ∷ ls) all =
    let out : is_some l.out ≡ false = ap (λ (q : Option ℕ). is_some q) all.0 in
    let rest : count_by (λ (m : Lending). is_some m.out) ls ≡ 0 = none_out ls all.1 in
    grind (arith, common_steps, out, rest)

with_child_in : (ls : List Lending) (o : Option ℕ) → AllByRecursion IsIn ls → AllByRecursion IsIn (with_child ls o)
with_child_in ls None all = all
with_child_in ls (Some child) all = each_append IsIn ls (never_lent ∷ []) all (refl, tt)

booted_in : (ps : List BootProgram) → AllByRecursion IsIn (map (λ p. never_lent) ps)
booted_in [] = tt
booted_in (p ∷ ps) = (refl, booted_in ps)

not_full : (k u : Kernel) → is_full k ≡ false → AllByRecursion IsIn u.lendings → length u.history ≤ length k.history → is_full u ≡ false
not_full k u h all fewer = elim (is_full u) as (λ b. is_full u ≡ b → b ≡ false) [
  | true ↦ λ full.
      let most = leb-true limit (length u.history + 2 * loans_out u) full in
      let less = leb-false limit (length k.history + 2 * loans_out k) h in
      let none : loans_out u ≡ 0 = none_out u.lendings all in
      absurd (by (length u.history) (length k.history) (loans_out u) (loans_out k) limit most less none fewer)
  | false ↦ λ full. refl
] refl
  where
    by : (a b m n top : ℕ) → top ≤ a + 2 * m → b + 2 * n < top → m ≡ 0 → a ≤ b → ⊥
    by a b m n top most less none fewer = omega (arith, most, less, none, fewer)

-- ---- one event
one_accepted : (s t : SyncState) (k u : Kernel) (e : Event) → (now k).sync ≡ s → (now u).sync ≡ t → Agree s t (step s e).entry.reads → IsOfProcess e
    → AllByRecursion IsIn u.lendings → length u.history ≤ length k.history → refusal k e ≡ None → refusal u e ≡ None
one_accepted s t k u (Turn pid n) ks ts a of all fewer h =
    let same : process_of k pid ≡ process_of u pid =
    ap (λ (x : SyncState). process_at x.processes pid) ks ∙ turn_reads s t pid n (process_at s.processes pid) a ∙ sym (ap (λ (x : SyncState). process_at x.processes pid) ts) in
    let o = process_of k pid in
    let less = turn_less (is_none o) (has_ended o) (is_lent k pid) (nat_lt limit (count_at o + n)) (is_full k) refused.NoProcess refused.Ended refused.Lent refused.Budget h in
    ap (λ (p : Option Process). turn_refusal p (is_lent u pid) (is_full u) n) (sym same)
    ∙ ap (λ (b : Bool). turn_refusal o b (is_full u) n) (not_lent u pid all)
    ∙ ap (λ (b : Bool). turn_refusal o false b n) (not_full k u less.1 all fewer)
    ∙ less.0
one_accepted s t k u (Enter pid) ks ts a of all fewer h =
    let same : process_of k pid ≡ process_of u pid =
    ap (λ (x : SyncState). process_at x.processes pid) ks ∙ enter_reads s t pid (process_at s.processes pid) a ∙ sym (ap (λ (x : SyncState). process_at x.processes pid) ts) in
    let o = process_of k pid in
    let less = enter_less (is_none o) (has_ended o) (is_lent k pid) (not (is_stopped o)) (nat_le limit (count_at o)) (is_full k) refused.NoProcess refused.Ended refused.Lent refused.NotStopped refused.Budget h in
    ap (λ (p : Option Process). enter_refusal p (is_lent u pid) (is_full u)) (sym same)
    ∙ ap (λ (b : Bool). enter_refusal o b (is_full u)) (not_lent u pid all)
    ∙ ap (λ (b : Bool). enter_refusal o false b) (not_full k u less.1 all fewer)
    ∙ less.0
one_accepted s t k u Cut ks ts a of all fewer h = absurd of
one_accepted s t k u (Complete at) ks ts a of all fewer h = absurd of
one_accepted s t k u (Fail at) ks ts a of all fewer h = absurd of

-- ---- all that are selected
next_sync : (k : Kernel) (s : SyncState) (e : Event) → (now k).sync ≡ s → (now (with_event k e)).sync ≡ (step s e).state
next_sync k s e ks = ap (λ (w : World). w.sync) (now-with_event k e) ∙ ap (λ (x : SyncState). (step x e).state) ks

longer : (k : Kernel) (e : Event) → length (with_event k e).history ≡ length k.history + 1
longer k e = length-append k.history (e ∷ [])

picked_accepted : (es : List Event) (ms : List Bool) (s t : SyncState) (k u : Kernel) (rs : List Carrier) → (now k).sync ≡ s → (now u).sync ≡ t → AreNumbered s.files → AreNumbered t.files
    → IsClosed ms (sync_log s es) rs → Agree s t (needed ms (sync_log s es) rs) → AllByRecursion IsOfProcess (selected ms es) → AllByRecursion IsIn u.lendings
    → length u.history ≤ length k.history → AllAccepted k es → AllAccepted u (selected ms es)
picked_accepted [] [] s t k u rs ks ts are also closed a of all fewer h = tt
picked_accepted [] (m ∷ ms) s t k u rs ks ts are also closed a of all fewer h = absurd closed
picked_accepted (e ∷ es) [] s t k u rs ks ts are also closed a of all fewer h = absurd closed
picked_accepted (e ∷ es) (true ∷ ms) s t k u rs ks ts are also closed a of all fewer h =
    let later = needed ms (sync_log (step s e).state es) rs in
    let reads = all_right (AgreeOn s t) later (step s e).entry.reads a in (
      one_accepted s t k u e ks ts reads of.0 all fewer h.0,
      picked_accepted es ms (step s e).state (step t e).state (with_event k e) (with_event u e) rs (next_sync k s e ks) (next_sync u t e ts) (step_numbered s e are) (step_numbered t e also) closed.1
          (taken s t e later are also reads (all_left (AgreeOn s t) later (step s e).entry.reads a)) of.1 (with_child_in u.lendings (step (now u).sync e).entry.child all)
          (by (length u.history) (length k.history) (length (with_event u e).history) (length (with_event k e).history) (longer u e) (longer k e) fewer) h.1,
    )
  where
    by : (a b c d : ℕ) → c ≡ a + 1 → d ≡ b + 1 → a ≤ b → c ≤ d
    by a b c d p q le = omega (arith, p, q, le)
picked_accepted (e ∷ es) (false ∷ ms) s t k u rs ks ts are also closed a of all fewer h =
    let later = needed ms (sync_log (step s e).state es) rs in
    let off : meets (step s e).entry.writes later ≡ false = elim closed.0 as (λ _. meets (step s e).entry.writes later ≡ false) [ inl is ↦ absurd (false≢true is) | inr isnt ↦ isnt ] in
    picked_accepted es ms (step s e).state t (with_event k e) u rs (next_sync k s e ks) ts (step_numbered s e are) also closed.1 (passed s t e later are off a) of all
    (by (length u.history) (length k.history) (length (with_event k e).history) (longer k e) fewer) h.1
  where
    by : (a b d : ℕ) → d ≡ b + 1 → a ≤ b → a ≤ d
    by a b d q le = omega (arith, q, le)

-- ---- the cone and the event
flags_of : (es : List Event) (s : SyncState) (rs : List Carrier) → AllByRecursion IsOfProcess (selected (path_flags (sync_log s es) rs) es)
flags_of [] s rs = tt
flags_of (Turn pid n ∷ es) s rs = by (meets (step s (Turn pid n)).entry.writes (wanted (sync_log (step s (Turn pid n)).state es) rs)) (flags_of es (step s (Turn pid n)).state rs)
  where
    by : (b : Bool) → AllByRecursion IsOfProcess (selected (path_flags (sync_log (step s (Turn pid n)).state es) rs) es)
        → AllByRecursion IsOfProcess (if b then Turn pid n ∷ selected (path_flags (sync_log (step s (Turn pid n)).state es) rs) es else selected (path_flags (sync_log (step s (Turn pid n)).state es) rs) es)
    by true h = (tt, h)
    by false h = h
flags_of (Enter pid ∷ es) s rs = by (meets (step s (Enter pid)).entry.writes (wanted (sync_log (step s (Enter pid)).state es) rs)) (flags_of es (step s (Enter pid)).state rs)
  where
    by : (b : Bool) → AllByRecursion IsOfProcess (selected (path_flags (sync_log (step s (Enter pid)).state es) rs) es)
        → AllByRecursion IsOfProcess (if b then Enter pid ∷ selected (path_flags (sync_log (step s (Enter pid)).state es) rs) es else selected (path_flags (sync_log (step s (Enter pid)).state es) rs) es)
    by true h = (tt, h)
    by false h = h
flags_of (Cut ∷ es) s rs = flags_of es s rs
flags_of (Complete at ∷ es) s rs = flags_of es s rs
flags_of (Fail at ∷ es) s rs = flags_of es s rs

-- the last event is selected
closed_last : (log : List Entry) (ms : List Bool) (e : Entry) → IsClosed ms log e.reads → IsClosed (ms ++ true ∷ []) (log ++ e ∷ []) []
    × (needed (ms ++ true ∷ []) (log ++ e ∷ []) [] ≡ needed ms log e.reads)
closed_last [] [] e h = ((inl refl, tt), refl)
closed_last [] (m ∷ ms) e h = absurd h
closed_last (x ∷ xs) [] e h = absurd h
closed_last (x ∷ xs) (m ∷ ms) e h =
    let rest = closed_last xs ms e h.1 in (
      (subst (λ (later : List Carrier). (m ≡ true) ⊎ (meets x.writes later ≡ false)) (sym rest.1) h.0, rest.0),
      ap (λ (later : List Carrier). if m then later ++ x.reads else later) rest.1,
    )

log_last : (es : List Event) (s : SyncState) (e : Event) → sync_log s (es ++ e ∷ []) ≡ sync_log s es ++ (step (sync_run s es) e).entry ∷ []
log_last [] s e = refl
log_last (x ∷ es) s e = ap (λ zs. (step s x).entry ∷ zs) (log_last es (step s x).state e)

selected_last : {A B : Type 0} (xs : List A) (ys : List B) (ms : List Bool) (e : A) → length ms ≡ length xs → selected (ms ++ true ∷ []) (xs ++ e ∷ []) ≡ selected ms xs ++ e ∷ []
selected_last [] ys [] e h = refl
selected_last [] ys (m ∷ ms) e h = absurd (let no : ⊥ = omega (arith, h) in no)
selected_last (x ∷ xs) ys [] e h = absurd (let no : ⊥ = omega (arith, h) in no)
selected_last {A = A} (x ∷ xs) ys (m ∷ ms) e h = by m (selected_last xs ys ms e (omega (arith, h)))
  where
    by : (b : Bool) → selected (ms ++ true ∷ []) (xs ++ e ∷ []) ≡ selected ms xs ++ e ∷ []
        → (if b then x ∷ selected (ms ++ true ∷ []) (xs ++ e ∷ []) else selected (ms ++ true ∷ []) (xs ++ e ∷ [])) ≡ (if b then x ∷ selected ms xs else selected ms xs) ++ e ∷ []
    by true g = ap (λ zs. x ∷ zs) g
    by false g = g

flags_length : (es : List Event) (s : SyncState) (rs : List Carrier) → length (path_flags (sync_log s es) rs) ≡ length es
flags_length [] s rs = refl
flags_length (e ∷ es) s rs = ap suc (flags_length es (step s e).state rs)

accepted_alone : (b : Boot) (es : List Event) (e : Event) → IsOfProcess e → AllAccepted (at_boot b) (es ++ e ∷ [])
    → AllAccepted (at_boot b) (selected (path_flags (sync_log (first_world b).sync es) (step (sync_run (first_world b).sync es) e).entry.reads) es ++ e ∷ [])
accepted_alone b es e of h =
    let s = (first_world b).sync in
    let last = (step (sync_run s es) e).entry in
    let ms = path_flags (sync_log s es) last.reads in
    let closed = closed_last (sync_log s es) ms last (paths_closed (sync_log s es) last.reads) in
    let picked = selected_last es es ms e (flags_length es s last.reads) in
    subst (λ (xs : List Event). AllAccepted (at_boot b) xs) picked
    (picked_accepted (es ++ e ∷ []) (ms ++ true ∷ []) s s (at_boot b) (at_boot b) [] refl refl (numbered_first b.files) (numbered_first b.files)
    (subst (λ (log : List Entry). IsClosed (ms ++ true ∷ []) log []) (sym (log_last es s e)) closed.0)
    (agree_all s (needed (ms ++ true ∷ []) (sync_log s (es ++ e ∷ [])) []))
    (subst (λ (xs : List Event). AllByRecursion IsOfProcess xs) (sym picked) (each_append IsOfProcess (selected ms es) (e ∷ []) (flags_of es s last.reads) (of, tt)))
    (booted_in b.programs) (omega arith) h)

pub cone_accepted : (b : Boot) (es : List Event) (e : Event) → IsOfProcess e → AllAccepted (at_boot b) (es ++ e ∷ []) → AllAccepted (at_boot b) (cone_before b es e ++ e ∷ [])
cone_accepted b es e of h =
    let s = (first_world b).sync in
    let by_state : AllAccepted (at_boot b) (selected (path_flags (sync_log s es) (step (run_of b es).sync e).entry.reads) es ++ e ∷ []) =
    subst (λ (u : SyncState). AllAccepted (at_boot b) (selected (path_flags (sync_log s es) (step u e).entry.reads) es ++ e ∷ [])) (sym (after_sync es (first_world b))) (accepted_alone b es e of h) in
    subst (λ (log : List Entry). AllAccepted (at_boot b) (selected (path_flags log (entry_of b es e).reads) es ++ e ∷ [])) (sym (after_log es (first_world b))) by_state

-- ---- the visible events
visible_of : (es : List Event) (c : ℕ) (past : List Entry) (s : SyncState) → AllByRecursion IsOfProcess (selected (visible_flags c past (sync_log s es)) es)
visible_of [] c past s = tt
visible_of (Turn pid n ∷ es) c past s =
    by _ (is_visible c past (step s (Turn pid n)).entry) (visible_of es c (past ++ (step s (Turn pid n)).entry ∷ []) (step s (Turn pid n)).state)
  where
    by : (xs : List Event) (b : Bool) → AllByRecursion IsOfProcess xs → AllByRecursion IsOfProcess (if b then Turn pid n ∷ xs else xs)
    by xs true h = (tt, h)
    by xs false h = h
visible_of (Enter pid ∷ es) c past s =
    by _ (is_visible c past (step s (Enter pid)).entry) (visible_of es c (past ++ (step s (Enter pid)).entry ∷ []) (step s (Enter pid)).state)
  where
    by : (xs : List Event) (b : Bool) → AllByRecursion IsOfProcess xs → AllByRecursion IsOfProcess (if b then Enter pid ∷ xs else xs)
    by xs true h = (tt, h)
    by xs false h = h
visible_of (Cut ∷ es) c past s = visible_of es c (past ++ (step s Cut).entry ∷ []) (step s Cut).state
visible_of (Complete at ∷ es) c past s = visible_of es c (past ++ (step s (Complete at)).entry ∷ []) (step s (Complete at)).state
visible_of (Fail at ∷ es) c past s = visible_of es c (past ++ (step s (Fail at)).entry ∷ []) (step s (Fail at)).state

seen_accepted : (b : Boot) (es : List Event) (c : ℕ) → AllAccepted (at_boot b) es
    → AllAccepted (at_boot b) (selected (visible_flags c [] (sync_log (first_world b).sync es)) es)
seen_accepted b es c h =
    let s = (first_world b).sync in
    let log = sync_log s es in
    let ms = visible_flags c [] log in
    picked_accepted es ms s s (at_boot b) (at_boot b) [] refl refl (numbered_first b.files) (numbered_first b.files)
    (visible_closed log c [] (log_idles es s (numbered_first b.files))) (agree_all s (needed ms log [])) (visible_of es c [] s) (booted_in b.programs) (omega arith) h

pub visible_accepted : (b : Boot) (es : List Event) → AllAccepted (at_boot b) es → AllAccepted (at_boot b) (visible b es)
visible_accepted b es h =
    subst (λ (log : List Entry). AllAccepted (at_boot b) (selected (visible_flags (run_of b es).storage.committed [] log) es)) (sym (after_log es (first_world b)))
    (seen_accepted b es (run_of b es).storage.committed h)
