-- What a process has to itself it keeps, whatever others do; so a private call stays private, and independent of theirs.
use Rattle.std.proofs.Common.{◌≡◌, ℕ, ◌+◌, ◌≤◌, ◌==◌, not, Bool, true, false, List, [], ◌∷◌, ◌++◌, length, filter, Option, Some, None, IfSome, is_some, refl, sym, ap, subst, ◌∙◌, arith}
use Rattle.std.specs.Prelude.{if◌then◌else◌, option_to_list}
use Rattle.std.specs.List.{AllByRecursion}
use Rattle.std.proofs.lemmas.Bool.{eqb-true, ne_eqb, false≢true}
use Rattle.std.proofs.lemmas.List.{length-map}
use Rattle.machine_model.specs.States.{stopped_at}
use Rattle.machine_model.specs.declared.reply.Reply.{Reply}
use Rattle.kernel_model.specs.Entries.{is_among}
use Rattle.kernel_model.specs.Limits.{AreNumbered}
use Rattle.kernel_model.specs.Rows.{CallEffect}
use Rattle.kernel_model.specs.State.{SyncState, Process, PipeState, shared, process_at, put_process, with_process, all_stepped}
use Rattle.kernel_model.specs.Steps.{Transition, impossible, after_run, after_reply, after_end, after_effect, after_turn, is_collected, step}
use Rattle.kernel_model.specs.declared.carrier.Carrier.{Carrier}
use Rattle.kernel_model.specs.declared.carrier.Carrier.TheVariants.{Proc, Tasks}
use Rattle.kernel_model.specs.declared.descriptor.Descriptor.{Descriptor}
use Rattle.kernel_model.specs.declared.event.Event.TheVariants.{Turn, Enter}
use Rattle.kernel_model.specs.declared.request.Verdict.{Verdict}
use Rattle.kernel_model.specs.declared.request.Verdict.TheVariants.{Waits, Replies, Ends}
use Rattle.kernel_model.proofs.Ends.{steps_length}
use Rattle.kernel_model.proofs.Limits.{each_slot, put_length}
use Rattle.kernel_model.proofs.Transitions.{turned, each_event, of_enter}
use Rattle.kernel_laws.proofs.Effects.{effect_keeps}
use Rattle.kernel_laws.proofs.Parts.{put_at, reply_at, reply_long, replied_at, child_of}
use Rattle.order_laws.specs.Privacy.{Claim, stands_for_claimed, LeavesAlone, IsClaimed}
use Rattle.order_laws.proofs.Unclaimed.{AreFree, is_claimed_output, IsClear, effect_clear}

-- ---- lists
all_append : {A : Type 0} (P : A → Type 0) (xs ys : List A) → AllByRecursion P xs → AllByRecursion P ys → AllByRecursion P (xs ++ ys)
all_append P [] ys h k = k
all_append P (x ∷ xs) ys h k = (h.0, all_append P xs ys h.1 k)

all_filter : {A : Type 0} (P : A → Type 0) (test : A → Bool) (xs : List A) → AllByRecursion P xs → AllByRecursion P (filter test xs)
all_filter P test [] h = tt
all_filter P test (x ∷ xs) h = elim (test x) as (λ b. AllByRecursion P (if b then x ∷ filter test xs else filter test xs)) [
  | true ↦ (h.0, all_filter P test xs h.1)
  | false ↦ all_filter P test xs h.1
]

some_same : {A : Type 0} (x y : A) → Some x ≡ Some y → x ≡ y
some_same x y h = cc

module _ (c : Claim) where
  -- what an event of another process does not touch, and leaves claimed
  pub record Spares (t : Transition) : Type 0 where
    pub reads : AreFree c t.entry.reads
    pub output : is_claimed_output c t.entry.output ≡ false
    pub claimed : IsClaimed c t.state

  -- a process in place of one that was there
  put_claimed : (s : SyncState) (pid : ℕ) (z x : Process) (pipes : List PipeState) → IsClaimed c s → process_at s.processes pid ≡ Some z
      → ((pid == c.owner) ≡ false → is_some x.status ≡ false → LeavesAlone c x) → length s.pipes ≤ length pipes
      → IsClaimed c (record (with_process s pid x) { pipes = pipes })
  put_claimed s pid z x pipes claimed at leaves more = record {
    others = λ q y other there lives. by q y other lives (put_at s.processes pid q x z at) there;
    owner = let same = put_length s.processes pid x in let most = claimed.owner in omega (arith, same, most);
    pipes = λ k past. claimed.pipes k (omega (arith, past, more));
  }
    where
      by : (q : ℕ) (y : Process) → (q == c.owner) ≡ false → is_some y.status ≡ false
          → process_at (put_process s.processes pid x) q ≡ (if pid == q then Some x else process_at s.processes q) → process_at (put_process s.processes pid x) q ≡ Some y → LeavesAlone c y
      by q y other lives is there = elim (pid == q) as (λ b. (pid == q) ≡ b → (if b then Some x else process_at s.processes q) ≡ Some y → LeavesAlone c y) [
        | true ↦ λ same found.
            let one : x ≡ y = some_same x y found in
            subst (λ (p : Process). LeavesAlone c p) one (leaves (subst (λ (k : ℕ). (k == c.owner) ≡ false) (sym (eqb-true pid q same)) other) (ap (λ (p : Process). is_some p.status) one ∙ lives))
        | false ↦ λ same found. claimed.others q y other found lives
      ] refl (sym is ∙ there)

  -- a Turn
  turned_claimed : (s : SyncState) (pid n : ℕ) (z : Process) → IsClaimed c s → process_at s.processes pid ≡ Some z → is_some z.status ≡ false → IsClaimed c (turned s pid n z).state
  turned_claimed s pid n z claimed at lives =
      put_claimed s pid z (after_run n z) s.pipes claimed at
      (λ other also. let old = claimed.others pid z other at lives in record { descriptors = old.descriptors; children = old.children }) (let is : length s.pipes ≤ length s.pipes = omega arith in is)

  pub turn_claimed : (s : SyncState) (pid n : ℕ) → IsClaimed c s → IsClaimed c (step s (Turn pid n)).state
  turn_claimed s pid n claimed = by (process_at s.processes pid) refl
    where
      by : (o : Option Process) → process_at s.processes pid ≡ o → IsClaimed c (after_turn s pid n o).state
      by None at = claimed
      by (Some z) at = going (is_some z.status) refl
        where
          going : (b : Bool) → is_some z.status ≡ b → IsClaimed c (if b then impossible pid s else turned s pid n z).state
          going true is = claimed
          going false is = turned_claimed s pid n z claimed at is

  -- ---- an effect
  module _ (s : SyncState) (pid : ℕ) (z : Process) (e : CallEffect) (other : (pid == c.owner) ≡ false) (claimed : IsClaimed c s)
      (at : process_at s.processes pid ≡ Some z) (lives : is_some z.status ≡ false) (clear : IsClear c e)
      (next : IfSome e.child (λ k. k ≡ length s.processes + 1)) where
    old : LeavesAlone c z
    old = claimed.others pid z other at lives

    new_number : (length s.processes + 1 == c.owner) ≡ false
    new_number = let most = claimed.owner in ne_eqb (length s.processes + 1) c.owner (λ (is : length s.processes + 1 ≡ c.owner). omega (arith, is, most))

    after_leaves : (r : Reply) → LeavesAlone c (after_reply z e r)
    after_leaves r = record {
      descriptors = each_slot (λ (d : Option Descriptor). stands_for_claimed c d ≡ false) e.slots z.descriptors clear.slots old.descriptors;
      children = all_append (λ (q : ℕ). (q == c.owner) ≡ false) (filter (λ child. not (is_collected e.collects child)) z.children) (option_to_list e.child)
          (all_filter (λ (q : ℕ). (q == c.owner) ≡ false) (λ child. not (is_collected e.collects child)) z.children old.children) (made e.child next);
    }
      where
        made : (o : Option ℕ) → IfSome o (λ k. k ≡ length s.processes + 1) → AllByRecursion (λ (q : ℕ). (q == c.owner) ≡ false) (option_to_list o)
        made None h = tt
        made (Some k) h = (subst (λ (j : ℕ). (j == c.owner) ≡ false) (sym h) new_number, tt)

    child_leaves : LeavesAlone c (child_of z)
    child_leaves = record { descriptors = old.descriptors; children = tt }

    found_old : (r : Reply) (q : ℕ) (y : Process) → (q == c.owner) ≡ false → is_some y.status ≡ false
        → (if pid == q then Some (after_reply z e r) else process_at s.processes q) ≡ Some y → LeavesAlone c y
    found_old r q y off also is = elim (pid == q) as (λ b. (if b then Some (after_reply z e r) else process_at s.processes q) ≡ Some y → LeavesAlone c y) [
      | true ↦ λ same. subst (λ (p : Process). LeavesAlone c p) (some_same (after_reply z e r) y same) (after_leaves r)
      | false ↦ λ same. claimed.others q y off same also
    ] is

    found : (r : Reply) (child : Option ℕ) (q : ℕ) (y : Process) → (q == c.owner) ≡ false → is_some y.status ≡ false
        → replied_at (length s.processes) pid (after_reply z e r) (child_of z) child q (process_at s.processes q) ≡ Some y → LeavesAlone c y
    found r None q y off also is = found_old r q y off also is
    found r (Some k) q y off also is = elim (length s.processes + 1 == q) as (λ b. (if b then Some (child_of z) else if pid == q then Some (after_reply z e r) else process_at s.processes q) ≡ Some y → LeavesAlone c y) [
      | true ↦ λ same. subst (λ (p : Process). LeavesAlone c p) (some_same (child_of z) y same) child_leaves
      | false ↦ λ same. found_old r q y off also same
    ] is

    effect_spares : (v : Verdict) → Spares (after_effect s pid z e v)
    effect_spares Waits = record { reads = (other, clear.reads); output = refl; claimed = claimed }
    effect_spares (Replies r) = record {
      reads = (other, clear.reads);
      output = clear.output;
      claimed = record {
        others = λ q y off there also. found r e.child q y off also (sym (reply_at s.processes pid q (after_reply z e r) z e.child at) ∙ there);
        owner = let long = reply_long s.processes pid (after_reply z e r) z e.child in let most = claimed.owner in omega (arith, long, most);
        pipes = λ k past. claimed.pipes k (let more = steps_length e.pipes s.pipes in omega (arith, past, more));
      };
    }
    effect_spares (Ends status) = record {
      reads = (other, clear.reads);
      output = refl;
      claimed = put_claimed s pid z (after_end z status) (all_stepped s.pipes e.pipes) claimed at (λ off ended. absurd (false≢true (sym ended))) (steps_length e.pipes s.pipes);
    }

  -- ---- a call of another process
  pub enter_spares : (s : SyncState) (pid : ℕ) → AreNumbered s.files → (pid == c.owner) ≡ false → IsClaimed c s → Spares (step s (Enter pid))
  enter_spares s pid are other claimed = of_enter Spares s pid (each_event Spares s pid
      (record { reads = (other, tt); output = refl; claimed = claimed })
      (λ n z at lives. record { reads = (other, tt); output = refl; claimed = turned_claimed s pid n z claimed at lives })
      (λ z e at lives is.
      let old = claimed.others pid z other at lives in
      let count : length (shared s).statuses ≡ length s.processes = length-map s.processes (λ (p : Process). p.status) in
      let most = claimed.owner in
      let clear = effect_clear c (shared s) pid z (stopped_at z.state) e (claimed.pipes (length s.pipes) (let same : length s.pipes ≤ length s.pipes = omega arith in same))
      (ne_eqb (length (shared s).statuses + 1) c.owner (λ (same : length (shared s).statuses + 1 ≡ c.owner). omega (arith, same, count, most))) old.descriptors old.children is in
      effect_spares s pid z e other claimed at lives clear (next e.writes e.child (effect_keeps s pid z (stopped_at z.state) e are is).child) e.verdict))
    where
      next : (writes : List Carrier) (o : Option ℕ) → IfSome o (λ k. (k ≡ length s.processes + 1) × (is_among Tasks writes ≡ true) × (is_among (Proc k) writes ≡ true))
          → IfSome o (λ k. k ≡ length s.processes + 1)
      next writes None h = tt
      next writes (Some k) h = h.0
