-- The frame of each event. It does the same in two states that agree on what it reads, and they agree afterwards on what they agreed on
-- before. What it does not write stays.
use Rattle.std.proofs.Common.{◌≡◌, ℕ, ◌+◌, ◌==◌, Bool, true, false, List, length, Option, Some, None, IfSome, is_some, refl, sym, ap, subst, ◌∙◌, add-zero}
use Rattle.std.specs.Prelude.{if◌then◌else◌, option_map}
use Rattle.std.proofs.lemmas.Bool.{false≢true, or_parts, ne_eqb}
use Rattle.disk_model.specs.Numbers.{Numbered, place_of}
use Rattle.disk_model.specs.declared.change.Change.TheVariants as change
use Rattle.machine_model.specs.States.{stopped_at}
use Rattle.machine_model.specs.declared.stop.Stop.{Stop}
use Rattle.machine_model.specs.declared.stop.Stop.TheVariants.{Limit, Call, Trap}
use Rattle.kernel_model.specs.Entries.{Entry, is_among}
use Rattle.kernel_model.specs.Limits.{AreNumbered}
use Rattle.kernel_model.specs.Requests.{request_of}
use Rattle.kernel_model.specs.Rows.{CallEffect}
use Rattle.kernel_model.specs.State.{SyncState, Process, shared, process_at, put_process}
use Rattle.kernel_model.specs.Steps.{Transition, impossible, own_entry, after_run, after_turn, after_reply, after_end, change_by, effect_at, after_effect, after_effect_if, after_enter, step}
use Rattle.kernel_model.specs.declared.carrier.Carrier.{Carrier}
use Rattle.kernel_model.specs.declared.carrier.Carrier.TheVariants.{Proc, File, Names, Pipe, Pipes, Tasks, Tape}
use Rattle.kernel_model.specs.declared.effect.FileEdit.{FileEdit}
use Rattle.kernel_model.specs.declared.effect.FileEdit.TheVariants as edit
use Rattle.kernel_model.specs.declared.event.Event.{Event}
use Rattle.kernel_model.specs.declared.event.Event.TheVariants.{Turn, Enter, Cut, Complete, Fail}
use Rattle.kernel_model.specs.declared.request.Verdict.{Verdict}
use Rattle.kernel_model.specs.declared.request.Verdict.TheVariants.{Waits, Replies, Ends}
use Rattle.kernel_model.proofs.Limits.{put_length}
use Rattle.kernel_model.proofs.Making.{effect_makes}
use Rattle.kernel_model.proofs.Names.{place_there}
use Rattle.kernel_model.proofs.Transitions.{turned, each_event, of_step}
use Rattle.kernel_laws.specs.Agreement.{Agree, AgreeOn, IsAlike, edit_by}
use Rattle.kernel_laws.proofs.Effects.{Keeps, Carried, effect_keeps, effect_carries}
use Rattle.kernel_laws.proofs.Parts.{flip, put_at, reply_at, reply_long, replied_at, made_by, child_of}
use Rattle.kernel_laws.proofs.Rows.{row_same}

pub agree_refl : (s : SyncState) (c : Carrier) → AgreeOn s s c
agree_refl s (Proc p) = refl
agree_refl s (File n) = refl
agree_refl s Names = refl
agree_refl s (Pipe k) = refl
agree_refl s Pipes = refl
agree_refl s Tasks = refl
agree_refl s (Tape k) = refl

pub agree_trans : (s t u : SyncState) (c : Carrier) → AgreeOn s t c → AgreeOn t u c → AgreeOn s u c
agree_trans s t u (Proc p) a b = a ∙ b
agree_trans s t u (File n) a b = a ∙ b
agree_trans s t u Names a b = a ∙ b
agree_trans s t u (Pipe k) a b = a ∙ b
agree_trans s t u Pipes a b = a ∙ b
agree_trans s t u Tasks a b = a ∙ b
agree_trans s t u (Tape k) a b = a ∙ b

-- ---- what is not written stays
abbrev pub KeepsBut : SyncState → Transition → Type 0
KeepsBut s a = (c : Carrier) → is_among c a.entry.writes ≡ false → AgreeOn a.state s c

put_off : (s : SyncState) (pid q : ℕ) (x p : Process) → process_at s.processes pid ≡ Some p → (q == pid) ≡ false → process_at (put_process s.processes pid x) q ≡ process_at s.processes q
put_off s pid q x p at h = put_at s.processes pid q x p at ∙ ap (λ (b : Bool). if b then Some x else process_at s.processes q) (flip q pid h)

turn_keeps : (s : SyncState) (pid n : ℕ) (p : Process) → process_at s.processes pid ≡ Some p → KeepsBut s (turned s pid n p)
turn_keeps s pid n p at (Proc q) h = put_off s pid q (after_run n p) p at (or_parts (q == pid) false h).0
turn_keeps s pid n p at (File k) h = refl
turn_keeps s pid n p at Names h = refl
turn_keeps s pid n p at (Pipe k) h = refl
turn_keeps s pid n p at Pipes h = refl
turn_keeps s pid n p at Tasks h = put_length s.processes pid (after_run n p)
turn_keeps s pid n p at (Tape k) h = refl

-- a process that is not the caller and not made
off_reply : (s : SyncState) (pid q : ℕ) (x y : Process) (writes : List Carrier) (child : Option ℕ)
    → IfSome child (λ c. (c ≡ length s.processes + 1) × (is_among Tasks writes ≡ true) × (is_among (Proc c) writes ≡ true))
    → (q == pid) ≡ false → is_among (Proc q) writes ≡ false → replied_at (length s.processes) pid x y child q (process_at s.processes q) ≡ process_at s.processes q
off_reply s pid q x y writes None made other h = ap (λ (b : Bool). if b then Some x else process_at s.processes q) (flip q pid other)
off_reply s pid q x y writes (Some child) made other h =
    let not_made : (length s.processes + 1 == q) ≡ false = ne_eqb (length s.processes + 1) q (λ (e : length s.processes + 1 ≡ q).
    let is : is_among (Proc q) writes ≡ true = subst (λ (k : ℕ). is_among (Proc k) writes ≡ true) (made.0 ∙ e) made.2 in
    false≢true (sym h ∙ is)) in
    ap (λ (b : Bool). if b then Some y else if pid == q then Some x else process_at s.processes q) not_made
    ∙ ap (λ (b : Bool). if b then Some x else process_at s.processes q) (flip q pid other)

off_count : (s : SyncState) (writes : List Carrier) (child : Option ℕ)
    → IfSome child (λ c. (c ≡ length s.processes + 1) × (is_among Tasks writes ≡ true) × (is_among (Proc c) writes ≡ true))
    → is_among Tasks writes ≡ false → length s.processes + made_by child ≡ length s.processes
off_count s writes None made h = add-zero (length s.processes)
off_count s writes (Some child) made h = absurd (false≢true (sym h ∙ made.1))

effect_keeps_but : (s : SyncState) (pid : ℕ) (p : Process) (e : CallEffect) (v : Verdict) → process_at s.processes pid ≡ Some p → Keeps s e → KeepsBut s (after_effect s pid p e v)
effect_keeps_but s pid p e Waits at keeps c h = agree_refl s c
effect_keeps_but s pid p e (Replies r) at keeps (Proc q) h =
    let both = or_parts (q == pid) (is_among (Proc q) e.writes) h in
    reply_at s.processes pid q (after_reply p e r) p e.child at
    ∙ off_reply s pid q (after_reply p e r) (child_of p) e.writes e.child keeps.child both.0 both.1
effect_keeps_but s pid p e (Replies r) at keeps (File n) h = keeps.files n h
effect_keeps_but s pid p e (Replies r) at keeps Names h = keeps.names h
effect_keeps_but s pid p e (Replies r) at keeps (Pipe k) h = keeps.pipes k h
effect_keeps_but s pid p e (Replies r) at keeps Pipes h = keeps.count h
effect_keeps_but s pid p e (Replies r) at keeps Tasks h = reply_long s.processes pid (after_reply p e r) p e.child ∙ off_count s e.writes e.child keeps.child h
effect_keeps_but s pid p e (Replies r) at keeps (Tape k) h = keeps.tapes k h
effect_keeps_but s pid p e (Ends status) at keeps (Proc q) h = put_off s pid q (after_end p status) p at (or_parts (q == pid) (is_among (Proc q) e.writes) h).0
effect_keeps_but s pid p e (Ends status) at keeps (File n) h = refl
effect_keeps_but s pid p e (Ends status) at keeps Names h = refl
effect_keeps_but s pid p e (Ends status) at keeps (Pipe k) h = keeps.pipes k h
effect_keeps_but s pid p e (Ends status) at keeps Pipes h = keeps.count h
effect_keeps_but s pid p e (Ends status) at keeps Tasks h = put_length s.processes pid (after_end p status)
effect_keeps_but s pid p e (Ends status) at keeps (Tape k) h = refl

-- what an event does not write stays
pub step_keeps_but : (s : SyncState) (e : Event) → AreNumbered s.files → KeepsBut s (step s e)
step_keeps_but s e are = of_step (KeepsBut s) s (λ c h. agree_refl s c)
    (λ pid. each_event (KeepsBut s) s pid (λ c h. agree_refl s c) (λ n p at lives. turn_keeps s pid n p at)
    (λ p f at lives is. effect_keeps_but s pid p f f.verdict at (effect_keeps s pid p (stopped_at p.state) f are is))) e

-- ---- what it does, and what two states agree on
pub record Framed (s t : SyncState) (a b : Transition) : Type 0 where
  pub alike : IsAlike a.entry b.entry
  pub carries : (c : Carrier) → AgreeOn s t c → AgreeOn a.state b.state c
  pub exact : s.files ≡ t.files → a.entry ≡ b.entry
  pub edit : edit_by s.files a.entry.change ≡ edit_by t.files b.entry.change

alike_refl : (a : Entry) → IsAlike a a
alike_refl a = record { process = refl; reads = refl; writes = refl; output = refl; item = refl; child = refl; changes = refl }

still : (s t : SyncState) (entry : Entry) → entry.change ≡ None → Framed s t (record { state = s; entry = entry }) (record { state = t; entry = entry })
still s t entry none = record {
  alike = alike_refl entry;
  carries = λ c a. a;
  exact = λ same. refl;
  edit = ap (edit_by s.files) none ∙ sym (ap (edit_by t.files) none);
}

-- a change that an edit becomes is of the edit's file
by_edit : (files : Numbered) (o : Option FileEdit) → is_some (change_by files o) ≡ is_some o → edit_by files (change_by files o) ≡ o
by_edit files None makes = refl
by_edit files (Some (edit.Create name)) makes = refl
by_edit files (Some (edit.Write file offset bytes)) makes = by (place_of files file) refl makes
  where
    by : (o : Option ℕ) → place_of files file ≡ o → is_some (option_map (λ place. change.Write place offset bytes) o) ≡ true
        → edit_by files (option_map (λ place. change.Write place offset bytes) o) ≡ Some (edit.Write file offset bytes)
    by None at h = absurd (false≢true h)
    by (Some place) at h = ap (λ (n : Option ℕ). option_map (λ number. edit.Write number offset bytes) n) (place_there files file place at).1
by_edit files (Some (edit.Empty file)) makes = by (place_of files file) refl makes
  where
    by : (o : Option ℕ) → place_of files file ≡ o → is_some (option_map change.Empty o) ≡ true → edit_by files (option_map change.Empty o) ≡ Some (edit.Empty file)
    by None at h = absurd (false≢true h)
    by (Some place) at h = ap (λ (n : Option ℕ). option_map edit.Empty n) (place_there files file place at).1
by_edit files (Some (edit.Remove file)) makes = by (place_of files file) refl makes
  where
    by : (o : Option ℕ) → place_of files file ≡ o → is_some (option_map change.Remove o) ≡ true → edit_by files (option_map change.Remove o) ≡ Some (edit.Remove file)
    by None at h = absurd (false≢true h)
    by (Some place) at h = ap (λ (n : Option ℕ). option_map edit.Remove n) (place_there files file place at).1
by_edit files (Some (edit.Rename file name)) makes = by (place_of files file) refl makes
  where
    by : (o : Option ℕ) → place_of files file ≡ o → is_some (option_map (λ place. change.Rename place name) o) ≡ true
        → edit_by files (option_map (λ place. change.Rename place name) o) ≡ Some (edit.Rename file name)
    by None at h = absurd (false≢true h)
    by (Some place) at h = ap (λ (n : Option ℕ). option_map (λ number. edit.Rename number name) n) (place_there files file place at).1

module _ (s t : SyncState) (pid : ℕ) (p : Process) (at : process_at s.processes pid ≡ Some p) (too : process_at t.processes pid ≡ Some p) where
  put_same : (q : ℕ) (x : Process) → AgreeOn s t (Proc q) → process_at (put_process s.processes pid x) q ≡ process_at (put_process t.processes pid x) q
  put_same q x a =
      put_at s.processes pid q x p at ∙ ap (λ (o : Option Process). if pid == q then Some x else o) a ∙ sym (put_at t.processes pid q x p too)

  long_same : (x : Process) → AgreeOn s t Tasks → length (put_process s.processes pid x) ≡ length (put_process t.processes pid x)
  long_same x a = put_length s.processes pid x ∙ a ∙ sym (put_length t.processes pid x)

  turn_framed : (n : ℕ) → Framed s t (turned s pid n p) (turned t pid n p)
  turn_framed n = record { alike = alike_refl (own_entry pid); carries = carries; exact = λ same. refl; edit = refl }
    where
      carries : (c : Carrier) → AgreeOn s t c → AgreeOn (turned s pid n p).state (turned t pid n p).state c
      carries (Proc q) a = put_same q (after_run n p) a
      carries (File k) a = a
      carries Names a = a
      carries (Pipe k) a = a
      carries Pipes a = a
      carries Tasks a = long_same (after_run n p) a
      carries (Tape k) a = a

  replied_same : (q : ℕ) (x y : Process) (child : Option ℕ) → IfSome child (λ c. AgreeOn s t Tasks) → AgreeOn s t (Proc q)
      → replied_at (length s.processes) pid x y child q (process_at s.processes q) ≡ replied_at (length t.processes) pid x y child q (process_at t.processes q)
  replied_same q x y None known a = ap (λ (o : Option Process). if pid == q then Some x else o) a
  replied_same q x y (Some child) known a =
      ap (λ (n : ℕ). if n + 1 == q then Some y else if pid == q then Some x else process_at s.processes q) known
      ∙ ap (λ (o : Option Process). if length t.processes + 1 == q then Some y else if pid == q then Some x else o) a

  effect_framed : (e : CallEffect) (v : Verdict) → Carried s t e.edit e.tape e.pipes e.child → is_some (change_by s.files e.edit) ≡ is_some e.edit → is_some (change_by t.files e.edit) ≡ is_some e.edit
      → Framed s t (after_effect s pid p e v) (after_effect t pid p e v)
  effect_framed e Waits carried makes also = still s t _ refl
  effect_framed e (Replies r) carried makes also = record {
    alike = record { process = refl; reads = refl; writes = refl; output = refl; item = refl; child = refl; changes = makes ∙ sym also };
    carries = carries;
    exact = λ same. ap (λ (files : Numbered). record (after_effect s pid p e (Replies r)).entry { change = change_by files e.edit }) same;
    edit = by_edit s.files e.edit makes ∙ sym (by_edit t.files e.edit also);
  }
    where
      carries : (c : Carrier) → AgreeOn s t c → AgreeOn (after_effect s pid p e (Replies r)).state (after_effect t pid p e (Replies r)).state c
      carries (Proc q) a =
          reply_at s.processes pid q (after_reply p e r) p e.child at
          ∙ replied_same q (after_reply p e r) (child_of p) e.child carried.child a
          ∙ sym (reply_at t.processes pid q (after_reply p e r) p e.child too)
      carries (File n) a = carried.files n a
      carries Names a = carried.names a
      carries (Pipe k) a = carried.pipes k a
      carries Pipes a = carried.count a
      carries Tasks a =
          reply_long s.processes pid (after_reply p e r) p e.child
          ∙ ap (λ (n : ℕ). n + made_by e.child) a
          ∙ sym (reply_long t.processes pid (after_reply p e r) p e.child)
      carries (Tape k) a = carried.tapes k a
  effect_framed e (Ends status) carried makes also = record { alike = alike_refl _; carries = carries; exact = λ same. refl; edit = refl }
    where
      carries : (c : Carrier) → AgreeOn s t c → AgreeOn (after_effect s pid p e (Ends status)).state (after_effect t pid p e (Ends status)).state c
      carries (Proc q) a = put_same q (after_end p status) a
      carries (File n) a = a
      carries Names a = a
      carries (Pipe k) a = carried.pipes k a
      carries Pipes a = carried.count a
      carries Tasks a = long_same (after_end p status) a
      carries (Tape k) a = a

  reads_of : (e : CallEffect) (v : Verdict) → Agree s t (after_effect s pid p e v).entry.reads → Agree s t e.reads
  reads_of e Waits a = a.1
  reads_of e (Replies r) a = a.1
  reads_of e (Ends status) a = a.1

  one_framed : (stop : Option Stop) (e f : CallEffect) → AreNumbered s.files → AreNumbered t.files → effect_at (shared s) pid p stop ≡ Some e → effect_at (shared t) pid p stop ≡ Some f
      → (Agree s t e.reads → f ≡ e) → Agree s t (after_effect s pid p e e.verdict).entry.reads
      → Framed s t (after_effect s pid p e e.verdict) (after_effect t pid p f f.verdict)
  one_framed stop e f are also is it same a =
      let known = reads_of e e.verdict a in
      let one : f ≡ e = same known in
      let makes : is_some (change_by t.files e.edit) ≡ is_some e.edit = subst (λ (x : CallEffect). is_some (change_by t.files x.edit) ≡ is_some x.edit) one (effect_makes (shared t) pid p stop f it) in
      subst (λ (x : CallEffect). Framed s t (after_effect s pid p e e.verdict) (after_effect t pid p x x.verdict)) (sym one)
      (effect_framed e e.verdict (effect_carries s t pid p stop e are also is known) (effect_makes (shared s) pid p stop e is) makes)

  stop_framed : (stop : Option Stop) → AreNumbered s.files → AreNumbered t.files → Agree s t (after_effect_if s pid p (effect_at (shared s) pid p stop)).entry.reads
      → Framed s t (after_effect_if s pid p (effect_at (shared s) pid p stop)) (after_effect_if t pid p (effect_at (shared t) pid p stop))
  stop_framed None are also a = still s t _ refl
  stop_framed (Some Limit) are also a = still s t _ refl
  stop_framed (Some Call) are also a =
      one_framed (Some Call) _ _ are also refl refl (row_same s t pid p.descriptors p.children (request_of p.state)) a
  stop_framed (Some (Trap cause)) are also a = one_framed (Some (Trap cause)) _ _ are also refl refl (λ _. refl) a

  enter_framed : (b : Bool) → AreNumbered s.files → AreNumbered t.files
      → Agree s t (if b then impossible pid s else after_effect_if s pid p (effect_at (shared s) pid p (stopped_at p.state))).entry.reads
      → Framed s t (if b then impossible pid s else after_effect_if s pid p (effect_at (shared s) pid p (stopped_at p.state)))
      (if b then impossible pid t else after_effect_if t pid p (effect_at (shared t) pid p (stopped_at p.state)))
  enter_framed true are also a = still s t _ refl
  enter_framed false are also a = stop_framed (stopped_at p.state) are also a

-- the process itself is read by each event of its own
module _ (s t : SyncState) (pid : ℕ) where
  pub turn_reads : (n : ℕ) (o : Option Process) → Agree s t (after_turn s pid n o).entry.reads → AgreeOn s t (Proc pid)
  turn_reads n None a = a.0
  turn_reads n (Some p) a = by (is_some p.status) a
    where
      by : (b : Bool) → Agree s t (if b then impossible pid s else turned s pid n p).entry.reads → AgreeOn s t (Proc pid)
      by true a = a.0
      by false a = a.0

  effect_reads : (p : Process) (o : Option CallEffect) → Agree s t (after_effect_if s pid p o).entry.reads → AgreeOn s t (Proc pid)
  effect_reads p None a = a.0
  effect_reads p (Some e) a = by e.verdict a
    where
      by : (v : Verdict) → Agree s t (after_effect s pid p e v).entry.reads → AgreeOn s t (Proc pid)
      by Waits a = a.0
      by (Replies r) a = a.0
      by (Ends status) a = a.0

  pub enter_reads : (o : Option Process) → Agree s t (after_enter s pid o).entry.reads → AgreeOn s t (Proc pid)
  enter_reads None a = a.0
  enter_reads (Some p) a = by (is_some p.status) a
    where
      by : (b : Bool) → Agree s t (if b then impossible pid s else after_effect_if s pid p (effect_at (shared s) pid p (stopped_at p.state))).entry.reads → AgreeOn s t (Proc pid)
      by true a = a.0
      by false a = effect_reads p (effect_at (shared s) pid p (stopped_at p.state)) a

  turn_of : (n : ℕ) (o : Option Process) → process_at s.processes pid ≡ o → process_at t.processes pid ≡ o → Framed s t (after_turn s pid n o) (after_turn t pid n o)
  turn_of n None at too = still s t _ refl
  turn_of n (Some p) at too = by (is_some p.status)
    where
      by : (b : Bool) → Framed s t (if b then impossible pid s else turned s pid n p) (if b then impossible pid t else turned t pid n p)
      by true = still s t _ refl
      by false = turn_framed s t pid p at too n

  enter_of : (o : Option Process) → process_at s.processes pid ≡ o → process_at t.processes pid ≡ o → AreNumbered s.files → AreNumbered t.files
      → Agree s t (after_enter s pid o).entry.reads → Framed s t (after_enter s pid o) (after_enter t pid o)
  enter_of None at too are also a = still s t _ refl
  enter_of (Some p) at too are also a = enter_framed s t pid p at too (is_some p.status) are also a

-- the frame of each event
pub framed : (s t : SyncState) (e : Event) → AreNumbered s.files → AreNumbered t.files → Agree s t (step s e).entry.reads → Framed s t (step s e) (step t e)
framed s t (Turn pid n) are also a =
    let same : process_at s.processes pid ≡ process_at t.processes pid = turn_reads s t pid n (process_at s.processes pid) a in
    subst (λ (o : Option Process). Framed s t (after_turn s pid n (process_at s.processes pid)) (after_turn t pid n o)) same (turn_of s t pid n (process_at s.processes pid) refl (sym same))
framed s t (Enter pid) are also a =
    let same : process_at s.processes pid ≡ process_at t.processes pid = enter_reads s t pid (process_at s.processes pid) a in
    subst (λ (o : Option Process). Framed s t (after_enter s pid (process_at s.processes pid)) (after_enter t pid o)) same (enter_of s t pid (process_at s.processes pid) refl (sym same) are also a)
framed s t Cut are also a = still s t _ refl
framed s t (Complete at) are also a = still s t _ refl
framed s t (Fail at) are also a = still s t _ refl
