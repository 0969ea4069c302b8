-- Each process comes from one of the boot's, by the replies that it was told.
use Rattle.std.proofs.Common.{append-nil, ◌≡◌, ℕ, ◌+◌, Bool, true, false, if◌then◌else◌, List, [], ◌∷◌, ◌++◌, length, Option, Some, None, refl, sym, ap, subst, ◌∙◌, arith}
use Rattle.std.proofs.lemmas.Bool.{eq-eqb}
use Rattle.machine_model.specs.declared.reply.Reply.{Reply}
use Rattle.machine_model.specs.declared.stop.Stop.TheVariants.{Call}
use Rattle.machine_model.specs.States.{State, stopped_at}
use Rattle.machine_model.specs.Replies.{replied}
use Rattle.kernel_model.specs.Entries.{Entry}
use Rattle.kernel_model.specs.State.{SyncState, Process, process_at, put_process}
use Rattle.machine_model.specs.Numbers.{cause_number}
use Rattle.kernel_model.specs.Rows.{CallEffect}
use Rattle.kernel_model.specs.Steps.{unchanged, Transition, impossible, after_run, after_reply, zero_reply, forked, after_end, after_effect, step}
use Rattle.kernel_model.specs.Shown.{is_made}
use Rattle.kernel_model.specs.World.{World, Boot, first_world, happens, after}
use Rattle.kernel_model.specs.declared.event.Event.{Event}
use Rattle.kernel_model.specs.declared.request.Verdict.{Verdict}
use Rattle.kernel_model.specs.declared.request.Verdict.TheVariants.{Waits, Replies, Ends}
use Rattle.kernel_model.proofs.Transitions.{turned, call_of, trap_of, of_step}
use Rattle.kernel_model.proofs.ChildRows.{IsNoneOrNextProcess, call_next}
use Rattle.kernel_laws.specs.Promises.{ComesTo, IsDescended, ancestor, ancestor_from, ancestor_with}
use Rattle.kernel_model.proofs.Limits.{put_length}
use Rattle.kernel_laws.proofs.Machines.{comes_at_once, comes_replied}
use Rattle.kernel_laws.proofs.Processes.{at_last, put_none}
use Rattle.kernel_laws.proofs.Children.{step_not_made}
use Rattle.kernel_laws.proofs.Replies.{replies_of, replies_of-made, goes_on}

-- Process p is new after a transition: it was made by a process that stood at a call, and is as that one was, told 0.
record IsMadeBy (s : SyncState) (t : Transition) (p : ℕ) (new : Process) : Type 0 where
  parent : Process
  there : process_at s.processes t.entry.process ≡ Some parent
  stands : stopped_at parent.state ≡ Some Call
  made : is_made t.entry.child p ≡ true
  state : new.state ≡ replied parent.state zero_reply

-- if process p is there only after a transition, it is made by it
abbrev MakesNew : SyncState → ℕ → Process → Transition → Type 0
MakesNew s p new t = process_at s.processes p ≡ None → process_at t.state.processes p ≡ Some new → IsMadeBy s t p new

same_new : (s : SyncState) (p : ℕ) (new : Process) (t : Transition) → t.state.processes ≡ s.processes → MakesNew s p new t
same_new s p new t same none there =
    let no : None ≡ Some new = sym none ∙ ap (λ (ps : List Process). process_at ps p) (sym same) ∙ there in absurd (let never : ⊥ = cc in never)

put_new : (s : SyncState) (p q : ℕ) (x new : Process) (t : Transition) → t.state.processes ≡ put_process s.processes q x → MakesNew s p new t
put_new s p q x new t same none there =
    let no : None ≡ Some new = sym (put_none s.processes p q x none) ∙ ap (λ (ps : List Process). process_at ps p) (sym same) ∙ there in
    absurd (let never : ⊥ = cc in never)

-- the process that is made, if one is, is the only one that is new
forked_new : (s : SyncState) (p q : ℕ) (x y new : Process) (o : Option ℕ) → IsNoneOrNextProcess (length s.processes) o → process_at s.processes p ≡ None
    → process_at (put_process s.processes q x ++ forked y o) p ≡ Some new → (is_made o p ≡ true) × (new.state ≡ replied y.state zero_reply)
forked_new s p q x y new None next none there =
    let no : None ≡ Some new = sym (put_none s.processes p q x none) ∙ ap (λ (ps : List Process). process_at ps p) (sym (append-nil (put_process s.processes q x))) ∙ there in
    absurd (let never : ⊥ = cc in never)
forked_new s p q x y new (Some child) next none there =
    let made : Process = record { state = replied y.state zero_reply; descriptors = y.descriptors; children = []; status = None } in
    let last = at_last (put_process s.processes q x) p made new (put_none s.processes p q x none) there in
    let same : child ≡ p = omega (arith, next, last.0, put_length s.processes q x) in
    (eq-eqb child p same, ap (λ (z : Process). z.state) (sym last.1))

effect_new : (s : SyncState) (p q : ℕ) (y new : Process) (e : CallEffect) (v : Verdict) → process_at s.processes q ≡ Some y → stopped_at y.state ≡ Some Call
    → IsNoneOrNextProcess (length s.processes) e.child → MakesNew s p new (after_effect s q y e v)
effect_new s p q y new e Waits at call next = same_new s p new (after_effect s q y e Waits) refl
effect_new s p q y new e (Replies r) at call next = λ none there.
    let is = forked_new s p q (after_reply y e r) y new e.child next none there in
    record { parent = y; there = at; stands = call; made = is.0; state = is.1 }
effect_new s p q y new e (Ends status) at call next = put_new s p q (after_end y status) new (after_effect s q y e (Ends status)) refl

step_new : (s : SyncState) (p : ℕ) (new : Process) (e : Event) → MakesNew s p new (step s e)
step_new s p new e = of_step (MakesNew s p new) s (same_new s p new (unchanged s) refl) (λ q. record {
  cannot = same_new s p new (impossible q s) refl;
  turns = λ n y at lives. put_new s p q (after_run n y) new (turned s q n y) refl;
  calls = λ y at lives stands. effect_new s p q y new (call_of s q y) (call_of s q y).verdict at stands (call_next s q y);
  traps = λ y cause at lives stands.
      let status = 256 + cause_number cause in
      put_new s p q (after_end y status) new (after_effect s q y (trap_of y cause) (Ends status)) refl;
}) e

-- ---- ancestors

ancestor_from-append : (before : ℕ → ℕ) (log : List Entry) (e : Entry) → ancestor_from before (log ++ e ∷ []) ≡ ancestor_with (ancestor_from before log) e
ancestor_from-append before [] e = refl
ancestor_from-append before (x ∷ log) e = ancestor_from-append (ancestor_with before x) log e

ancestor-entry : (p : ℕ) (log : List Entry) (e : Entry) (made : Bool) → is_made e.child p ≡ made
    → ancestor p (log ++ e ∷ []) ≡ (if made then ancestor e.process log else ancestor p log)
ancestor-entry p log e made h =
    ap (λ (f : ℕ → ℕ). f p) (ancestor_from-append (λ q. q) log e)
    ∙ ap (λ (b : Bool). if b then ancestor e.process log else ancestor p log) h

-- each process comes from one of the boot's
abbrev AreDescended : Boot → World → Type 0
AreDescended b w = (p : ℕ) (process : Process) → process_at w.sync.processes p ≡ Some process → IsDescended b w p process

-- one that was there goes on
old_descends : (b : Boot) (w : World) (e : Event) (p : ℕ) (old new : Process) → process_at w.sync.processes p ≡ Some old
    → process_at (happens w e).sync.processes p ≡ Some new → IsDescended b w p old → IsDescended b (happens w e) p new
old_descends b w e p old new at there d =
    let g = goes_on w p old e d.first.state at d.comes in
    let is : g.0 ≡ new = cc (g.1, there) in
    let from = ancestor-entry p w.log (step w.sync e).entry false (step_not_made w.sync p old e at) in
    record {
      first = d.first;
      booted = ap (λ (q : ℕ). process_at (first_world b).sync.processes q) from ∙ d.booted;
      comes = subst (λ (x : Process). ComesTo d.first.state (replies_of p (happens w e).log) x.state) is g.2;
    }

-- one that is made goes on from its parent
new_descends : (b : Boot) (w : World) (e : Event) (p : ℕ) (new : Process) → AreDescended b w → IsMadeBy w.sync (step w.sync e) p new → IsDescended b (happens w e) p new
new_descends b w e p new h m =
    let entry = (step w.sync e).entry in
    let d = h entry.process m.parent m.there in
    let from = ancestor-entry p w.log entry true m.made in
    record {
      first = d.first;
      booted = ap (λ (q : ℕ). process_at (first_world b).sync.processes q) from ∙ d.booted;
      comes = subst (λ (rs : List Reply). ComesTo d.first.state rs new.state) (sym (replies_of-made p w.log entry m.made))
          (subst (λ (u : State). ComesTo d.first.state (replies_of entry.process w.log ++ zero_reply ∷ []) u) (sym m.state)
          (comes_replied d.first.state (replies_of entry.process w.log) m.parent.state zero_reply m.stands d.comes));
    }

happens_descends : (b : Boot) (w : World) (e : Event) → AreDescended b w → AreDescended b (happens w e)
happens_descends b w e h p new there = by (process_at w.sync.processes p) refl
  where
    by : (o : Option Process) → process_at w.sync.processes p ≡ o → IsDescended b (happens w e) p new
    by None none = new_descends b w e p new h (step_new w.sync p new e none there)
    by (Some old) at = old_descends b w e p old new at there (h p old at)

pub after_descends : (b : Boot) (es : List Event) (w : World) → AreDescended b w → AreDescended b (after w es)
after_descends b [] w h = h
after_descends b (e ∷ es) w h = after_descends b es (happens w e) (happens_descends b w e h)

pub first_world_descends : (b : Boot) → AreDescended b (first_world b)
first_world_descends b p process there = record { first = process; booted = there; comes = comes_at_once process.state }
