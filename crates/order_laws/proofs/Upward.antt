-- A private call leads up: it changes no file, takes back no byte, and touches no other process. And each call makes a run longer.
use Rattle.std.proofs.Common.{◌≡◌, ℕ, zero, suc, ◌+◌, ◌<◌, ◌≤◌, ◌==◌, Bool, true, false, List, [], ◌∷◌, ◌++◌, append-nil, append_assoc, slice_get, slice_set, Option, Some, None, is_some, refl, sym, ap, subst, ◌∙◌, arith}
use Rattle.std.specs.Prelude.{if◌then◌else◌, option_to_list}
use Rattle.std.specs.List.{AllByRecursion}
use Rattle.std.proofs.lemmas.Bool.{false≢true, eqb-true}
use Rattle.disk_model.proofs.Lists.{each_more}
use Rattle.machine_model.specs.Images.{Program}
use Rattle.machine_model.specs.Replies.{replied, replied_by}
use Rattle.machine_model.specs.States.{State, Goes, Halts, next, run, stopped_at}
use Rattle.machine_model.specs.declared.reply.Reply.{Reply}
use Rattle.machine_model.specs.declared.stop.Stop.{Stop}
use Rattle.machine_model.proofs.Running.{next-count}
use Rattle.kernel_model.specs.Entries.{is_among}
use Rattle.kernel_model.specs.Limits.{AreNumbered}
use Rattle.kernel_model.specs.Rows.{CallEffect}
use Rattle.kernel_model.specs.Shown.{bytes_for}
use Rattle.kernel_model.specs.State.{SyncState, Process, shared, process_at, put_process, with_process}
use Rattle.kernel_model.specs.Steps.{Transition, impossible, own_entry, after_turn, after_run, after_reply, after_end, after_effect, after_effect_if, after_enter, effect_at, forked, step}
use Rattle.kernel_model.specs.World.{sync_run}
use Rattle.kernel_model.specs.declared.carrier.Carrier.{Carrier}
use Rattle.kernel_model.specs.declared.carrier.Carrier.TheVariants.{Proc, File, Names}
use Rattle.kernel_model.specs.declared.event.Event.TheVariants.{Turn, Enter}
use Rattle.kernel_model.specs.declared.request.Verdict.{Verdict}
use Rattle.kernel_model.specs.declared.request.Verdict.TheVariants.{Waits, Replies, Ends}
use Rattle.kernel_laws.proofs.Machines.{run_zero, run_halted, run_goes}
use Rattle.kernel_laws.specs.Cones.{IsBeginningOf}
use Rattle.kernel_laws.proofs.Frames.{step_keeps_but}
use Rattle.kernel_laws.proofs.Selected.{step_numbered}
use Rattle.kernel_laws.proofs.Written.{step_reads}
use Rattle.order_laws.specs.Moves.{Seen, Label, label_of, label_in, writes_some, seen_after, wrote, turns, call_after, calls}
use Rattle.order_laws.specs.Privacy.{is_claimed, IsPrivate}
use Rattle.order_laws.proofs.Choosing.{LeadsUp}
use Rattle.order_laws.proofs.SameStates.{same_numbered}
use Rattle.order_laws.proofs.Settling.{turns_only}
use Rattle.order_laws.proofs.Swapping.{at_one}

-- ---- what leads up
-- The same files; each terminal has at least as much; and a process that stands nowhere is as it was.
pub record IsBelow (s t : Seen) : Type 0 where
  pub files : t.sync.files ≡ s.sync.files
  pub texts : (k : ℕ) → IsBeginningOf (s.texts k) (t.texts k)
  pub stuck : (p : ℕ) (z : Process) → process_at s.sync.processes p ≡ Some z → is_some (stopped_at z.state) ≡ false → process_at t.sync.processes p ≡ Some z

pub begins_through : (xs ys zs : List ℕ) → IsBeginningOf xs ys → IsBeginningOf ys zs → IsBeginningOf xs zs
begins_through xs ys zs a b = record { rest = a.rest ++ b.rest; is = b.is ∙ ap (λ us. us ++ b.rest) a.is ∙ append_assoc xs a.rest b.rest }

-- who makes a call stands at one
module _ (s : SyncState) (p : ℕ) where
  -- what is so of a call that writes something
  abbrev IfWorks : (SyncState → Type 0) → Transition → Type 0
  IfWorks Q t = writes_some (label_of t.entry) ≡ true → Q t.state

  caller : (Q : SyncState → Type 0) → ((z : Process) (e : CallEffect) → process_at s.processes p ≡ Some z → is_some z.status ≡ false → effect_at (shared s) p z (stopped_at z.state) ≡ Some e
      → IfWorks Q (after_effect s p z e e.verdict)) → IfWorks Q (step s (Enter p))
  caller Q of = found (process_at s.processes p) refl
    where
      effected : (z : Process) → process_at s.processes p ≡ Some z → is_some z.status ≡ false → (o : Option CallEffect) → effect_at (shared s) p z (stopped_at z.state) ≡ o → IfWorks Q (after_effect_if s p z o)
      effected z at lives None is h = absurd (false≢true h)
      effected z at lives (Some e) is h = of z e at lives is h

      living : (z : Process) → process_at s.processes p ≡ Some z → (b : Bool) → is_some z.status ≡ b
          → IfWorks Q (if b then impossible p s else after_effect_if s p z (effect_at (shared s) p z (stopped_at z.state)))
      living z at true ended h = absurd (false≢true h)
      living z at false lives h = effected z at lives (effect_at (shared s) p z (stopped_at z.state)) refl h

      found : (o : Option Process) → process_at s.processes p ≡ o → IfWorks Q (after_enter s p o)
      found None at h = absurd (false≢true h)
      found (Some z) at h = living z at (is_some z.status) refl h

  caller_stands : (z : Process) → process_at s.processes p ≡ Some z → writes_some (label_of (step s (Enter p)).entry) ≡ true → is_some (stopped_at z.state) ≡ true
  caller_stands z at = caller (λ t. is_some (stopped_at z.state) ≡ true) (λ x e there lives is h.
      let same : x ≡ z = cc in subst (λ (y : Process). is_some (stopped_at y.state) ≡ true) same (stands x e (stopped_at x.state) is))
    where
      stands : (x : Process) (e : CallEffect) (o : Option Stop) → effect_at (shared s) p x o ≡ Some e → is_some o ≡ true
      stands x e None is = absurd (let none : ⊥ = cc in none)
      stands x e (Some stop) is = refl

-- ---- Turns
turn_files : (s : SyncState) (r n : ℕ) (o : Option Process) → (after_turn s r n o).state.files ≡ s.files
turn_files s r n None = refl
turn_files s r n (Some p) = by (is_some p.status)
  where
    by : (b : Bool) → (if b then impossible r s else record { state = with_process s r (after_run n p); entry = own_entry r }).state.files ≡ s.files
    by true = refl
    by false = refl

turns_files : (n : ℕ) (rs : List ℕ) (s : SyncState) → (sync_run s (turns n rs)).files ≡ s.files
turns_files n [] s = refl
turns_files n (r ∷ rs) s = turns_files n rs (step s (Turn r n)).state ∙ turn_files s r n (process_at s.processes r)

-- a Turn writes its process alone
turn_off : (s : SyncState) (r n p : ℕ) → (p == r) ≡ false → is_among (Proc p) (step s (Turn r n)).entry.writes ≡ false
turn_off s r n p other = by (process_at s.processes r)
  where
    by : (o : Option Process) → is_among (Proc p) (after_turn s r n o).entry.writes ≡ false
    by None = refl
    by (Some z) = going (is_some z.status)
      where
        going : (b : Bool) → is_among (Proc p) (if b then impossible r s else record { state = with_process s r (after_run n z); entry = own_entry r }).entry.writes ≡ false
        going true = refl
        going false = rw other refl

turns_off : (n : ℕ) (rs : List ℕ) (s : SyncState) (p : ℕ) → AreNumbered s.files → AllByRecursion (λ (r : ℕ). (p == r) ≡ false) rs
    → process_at (sync_run s (turns n rs)).processes p ≡ process_at s.processes p
turns_off n [] s p are off = refl
turns_off n (r ∷ rs) s p are off =
    turns_off n rs (step s (Turn r n)).state p (step_numbered s (Turn r n) are) off.1 ∙ step_keeps_but s (Turn r n) are (Proc p) (turn_off s r n p off.0)

-- ---- a private call
module _ (n : ℕ) (s : Seen) (m : ℕ) (are : AreNumbered s.sync.files) (v : IsPrivate s m) where
  abbrev l : Label
  l = label_in s (Enter m)

  abbrev one : Seen
  one = seen_after s (Enter m)

  abbrev rs : List ℕ
  rs = wrote l (m ∷ option_to_list l.child)

  claimed : AllByRecursion (λ (w : Carrier). is_claimed v.claim w ≡ true) l.writes
  claimed = each_more (λ (w : Carrier). is_among w l.reads ≡ true) (λ (w : Carrier). is_claimed v.claim w ≡ true)
      (λ w is. at_one (λ (r : Carrier). is_claimed v.claim r ≡ true) w l.reads v.reads is) l.writes (step_reads s.sync (Enter m))

  unwritten : (x : Carrier) → is_claimed v.claim x ≡ false → is_among x l.writes ≡ false
  unwritten x off = elim (is_among x l.writes) as (λ b. is_among x l.writes ≡ b → b ≡ false) [
    | true ↦ λ is. absurd (false≢true (sym off ∙ at_one (λ (r : Carrier). is_claimed v.claim r ≡ true) x l.writes claimed is))
    | false ↦ λ is. refl
  ] refl

  same_files : one.sync.files ≡ s.sync.files
  same_files = same_numbered one.sync.files s.sync.files (step_numbered s.sync (Enter m) are) are
      (step_keeps_but s.sync (Enter m) are Names (unwritten Names refl)) (λ k. step_keeps_but s.sync (Enter m) are (File k) (unwritten (File k) refl))

  -- another process
  module _ (p : ℕ) (other : (p == m) ≡ false) where
    off : (p == v.claim.owner) ≡ false
    off = ap (λ (k : ℕ). p == k) v.owner ∙ other

    goers_off : (ps : List ℕ) → AllByRecursion (λ (r : ℕ). (p == r) ≡ false) (wrote l ps)
    goers_off [] = tt
    goers_off (r ∷ ps) = elim (is_among (Proc r) l.writes) as (λ b. is_among (Proc r) l.writes ≡ b → AllByRecursion (λ (q : ℕ). (p == q) ≡ false) (if b then r ∷ wrote l ps else wrote l ps)) [
      | true ↦ λ is.
          let own : r ≡ m = eqb-true r v.claim.owner (at_one (λ (x : Carrier). is_claimed v.claim x ≡ true) (Proc r) l.writes claimed is) ∙ v.owner in
          (ap (λ (k : ℕ). p == k) own ∙ other, goers_off ps)
      | false ↦ λ is. goers_off ps
    ] refl

    same_process : process_at (sync_run one.sync (turns n rs)).processes p ≡ process_at s.sync.processes p
    same_process = turns_off n rs one.sync p (step_numbered s.sync (Enter m) are) (goers_off (m ∷ option_to_list l.child)) ∙ step_keeps_but s.sync (Enter m) are (Proc p) (unwritten (Proc p) off)

  is_above : IsBelow s (call_after n s m)
  is_above =
      let is = turns_only n rs one in
      record {
        files = ap (λ (u : Seen). u.sync.files) is ∙ turns_files n rs one.sync ∙ same_files;
        texts = λ k. record { rest = bytes_for k l.output; is = ap (λ (u : Seen). u.texts k) is };
        stuck = λ p z at nowhere. ap (λ (u : Seen). process_at u.sync.processes p) is ∙ (elim (p == m) as (λ b. (p == m) ≡ b → process_at (sync_run one.sync (turns n rs)).processes p ≡ Some z) [
          | true ↦ λ same. absurd (false≢true (sym nowhere ∙ caller_stands s.sync m z (ap (λ (k : ℕ). process_at s.sync.processes k) (sym (eqb-true p m same)) ∙ at) v.works))
          | false ↦ λ other. same_process p other ∙ at
        ] refl);
      }

pub upward : (n : ℕ) → LeadsUp (calls n) (λ s. AreNumbered s.sync.files) IsPrivate IsBelow
upward n = record {
  itself = λ s. record { files = refl; texts = λ k. record { rest = []; is = sym (append-nil (s.texts k)) }; stuck = λ p z at nowhere. at };
  through = λ s t u a b. record {
    files = b.files ∙ a.files;
    texts = λ k. begins_through (s.texts k) (t.texts k) (u.texts k) (a.texts k) (b.texts k);
    stuck = λ p z at nowhere. b.stuck p z (a.stuck p z at nowhere) nowhere;
  };
  up = is_above n;
}

-- ---- how far a run has come
-- the instructions that a process did, and its end
abbrev one_if : Bool → ℕ
one_if b = if b then 1 else 0

abbrev weight : Process → ℕ
weight z = z.state.count + one_if (is_some z.status)

abbrev pub total : List Process → ℕ
total [] = 0
total (z ∷ zs) = weight z + total zs

total-append : (xs ys : List Process) → total xs ≤ total (xs ++ ys)
total-append [] ys = omega arith
total-append (x ∷ xs) ys = let rest = total-append xs ys in omega (arith, rest)

total_put : (ps : List Process) (p : ℕ) (x z : Process) → process_at ps p ≡ Some z → (d : ℕ) → weight z + d ≤ weight x → total ps + d ≤ total (put_process ps p x)
total_put ps zero x z at d more = absurd (let none : ⊥ = cc in none)
total_put ps (suc k) x z at d more = set ps k at
  where
    set : (qs : List Process) (j : ℕ) → slice_get qs j ≡ Some z → total qs + d ≤ total (slice_set qs j x)
    set [] j e = absurd (let none : ⊥ = cc in none)
    set (q ∷ qs) zero e = let same : weight q ≡ weight z = (let one : q ≡ z = cc in ap weight one) in omega (arith, same, more)
    set (q ∷ qs) (suc j) e = let rest = set qs j e in omega (arith, rest)

run_counts : (n : ℕ) (s : State) → s.count ≤ (run n s).state.count
run_counts zero s = let same : (run zero s).state.count ≡ s.count = ap (λ (u : State). u.count) (run_zero s) in omega (arith, same)
run_counts (suc n) s = elim (next s) as (λ o. next s ≡ o → s.count ≤ (run (suc n) s).state.count) [
  | Goes t ↦ λ is.
      let same : (run (suc n) s).state.count ≡ (run n t).state.count = ap (λ (u : State). u.count) (run_goes n s t is) in
      let rest = run_counts n t in
      let one = next-count s t is in
      omega (arith, same, rest, one)
  | Halts stop ↦ λ is. let same : (run (suc n) s).state.count ≡ s.count = ap (λ (u : State). u.count) (run_halted (suc n) s stop is) in omega (arith, same)
] refl

turn_counts : (s : SyncState) (r n : ℕ) → total s.processes ≤ total (step s (Turn r n)).state.processes
turn_counts s r n = by (process_at s.processes r) refl
  where
    by : (o : Option Process) → process_at s.processes r ≡ o → total s.processes ≤ total (after_turn s r n o).state.processes
    by None at = omega arith
    by (Some z) at = going (is_some z.status)
      where
        going : (b : Bool) → total s.processes ≤ total (if b then impossible r s else record { state = with_process s r (after_run n z); entry = own_entry r }).state.processes
        going true = omega arith
        going false = let more = run_counts n z.state in let put = total_put s.processes r (after_run n z) z at 0 (omega (arith, more)) in omega (arith, put)

turns_count : (n : ℕ) (rs : List ℕ) (s : SyncState) → total s.processes ≤ total (sync_run s (turns n rs)).processes
turns_count n [] s = omega arith
turns_count n (r ∷ rs) s = let one = turn_counts s r n in let rest = turns_count n rs (step s (Turn r n)).state in omega (arith, one, rest)

replied_counts : (s : State) (r : Reply) → (replied s r).count ≡ s.count + 1
replied_counts s r = by r.image
  where
    by : (o : Option Program) → (replied_by s r o).count ≡ s.count + 1
    by None = refl
    by (Some p) = refl

call_counts : (s : SyncState) (p : ℕ) → writes_some (label_of (step s (Enter p)).entry) ≡ true → total s.processes + 1 ≤ total (step s (Enter p)).state.processes
call_counts s p = caller s p (λ t. total s.processes + 1 ≤ total t.processes) (λ z e at lives is. by z e at lives e.verdict)
  where
    alive : (z : Process) → is_some z.status ≡ false → weight z ≡ z.state.count
    alive z lives = let none : one_if (is_some z.status) ≡ 0 = ap one_if lives in omega (arith, none)

    by : (z : Process) (e : CallEffect) → process_at s.processes p ≡ Some z → is_some z.status ≡ false → (v : Verdict)
        → writes_some (label_of (after_effect s p z e v).entry) ≡ true → total s.processes + 1 ≤ total (after_effect s p z e v).state.processes
    by z e at lives Waits h = absurd (false≢true h)
    by z e at lives (Replies r) h =
        let count = replied_counts z.state r in
        let here = alive z lives in
        let put = total_put s.processes p (after_reply z e r) z at 1 (omega (arith, count, here)) in
        let more = total-append (put_process s.processes p (after_reply z e r)) (forked z e.child) in
        omega (arith, put, more)
    by z e at lives (Ends status) h = let here = alive z lives in total_put s.processes p (after_end z status) z at 1 (omega (arith, here))

pub grows : (n : ℕ) (s : Seen) (p : ℕ) → AreNumbered s.sync.files → writes_some (label_in s (Enter p)) ≡ true → total s.sync.processes < total (call_after n s p).sync.processes
grows n s p are works =
    let one = seen_after s (Enter p) in
    let rs = wrote (label_in s (Enter p)) (p ∷ option_to_list (label_in s (Enter p)).child) in
    let more = call_counts s.sync p works in
    let rest = turns_count n rs one.sync in
    let same : total (call_after n s p).sync.processes ≡ total (sync_run one.sync (turns n rs)).processes = ap (λ (u : Seen). total u.sync.processes) (turns_only n rs one) in
    omega (arith, more, rest, same)
