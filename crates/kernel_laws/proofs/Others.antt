-- An event leaves other processes as they are, and finds and leaves the same wherever their machines are.
use Rattle.std.proofs.Common.{◌≡◌, ℕ, zero, suc, ◌+◌, true, false, if◌then◌else◌, List, [], ◌∷◌, ◌++◌, map, length, length-append, slice_get, slice_set, Option, Some, None, is_some, refl, sym, ap, ◌∙◌, add-zero}
use Rattle.machine_model.specs.States.{State, stopped_at}
use Rattle.machine_model.specs.declared.reply.Reply.{Reply}
use Rattle.kernel_model.specs.State.{SyncState, Shared, shared, Process, process_at, put_process, with_process}
use Rattle.kernel_model.specs.Rows.{CallEffect}
use Rattle.kernel_model.specs.Steps.{Transition, own_entry, impossible, after_run, after_reply, forked, after_end, after_turn, effect_at, after_effect, after_effect_if, after_enter, step}
use Rattle.kernel_model.specs.declared.event.Event.{Event}
use Rattle.kernel_model.specs.declared.event.Event.TheVariants.{Turn, Enter, Cut, Complete, Fail}
use Rattle.kernel_model.specs.declared.request.Verdict.{Verdict}
use Rattle.kernel_model.specs.declared.request.Verdict.TheVariants.{Waits, Replies, Ends}
use Rattle.kernel_model.proofs.Limits.{put_length}
use Rattle.kernel_model.proofs.Transitions.{OfEachEvent, turned, each_event, of_turn, of_enter}
use Rattle.kernel_laws.proofs.Processes.{put_put, at_put, put_append, at_append}

-- the event is none of process p's
abbrev pub IsNotOf : ℕ → Event → Type 0
IsNotOf p (Turn q n) = p ≡ q → ⊥
IsNotOf p (Enter q) = p ≡ q → ⊥
IsNotOf p Cut = Unit {0}
IsNotOf p (Complete at) = Unit {0}
IsNotOf p (Fail at) = Unit {0}

flip : {p q : ℕ} → (p ≡ q → ⊥) → q ≡ p → ⊥
flip n e = n (sym e)

-- the same, where process p is now x
abbrev pub moved : ℕ → Process → Transition → Transition
moved p x t = record { state = with_process t.state p x; entry = t.entry }

-- the process at another state of its machine
abbrev pub at_state : Process → State → Process
at_state y t = record y { state = t }

-- a machine's state is no part of how its process has ended
statuses_set : (ps : List Process) (i : ℕ) (y : Process) (t : State) → slice_get ps i ≡ Some y
    → map (λ (p : Process). p.status) (slice_set ps i (at_state y t)) ≡ map (λ (p : Process). p.status) ps
statuses_set [] i y t e = cc
statuses_set (z ∷ zs) zero y t e = let same : y ≡ z = cc in ap (λ (w : Process). w.status ∷ map (λ (p : Process). p.status) zs) same
statuses_set (z ∷ zs) (suc i) y t e = ap (λ ws. z.status ∷ ws) (statuses_set zs i y t e)

statuses_put : (ps : List Process) (p : ℕ) (y : Process) (t : State) → process_at ps p ≡ Some y
    → map (λ (p : Process). p.status) (put_process ps p (at_state y t)) ≡ map (λ (p : Process). p.status) ps
statuses_put ps zero y t e = cc
statuses_put ps (suc i) y t e = statuses_set ps i y t e

-- calls see nothing of a process's machine but their own's
shared_same : (s : SyncState) (p : ℕ) (y : Process) (t : State) → process_at s.processes p ≡ Some y → shared (with_process s p (at_state y t)) ≡ shared s
shared_same s p y t at = ap (λ (xs : List (Option ℕ)). record (shared s) { statuses = xs }) (statuses_put s.processes p y t at)

turn_moves : (s : SyncState) (p q n : ℕ) (x : Process) (o : Option Process) → (p ≡ q → ⊥) → after_turn (with_process s p x) q n o ≡ moved p x (after_turn s q n o)
turn_moves s p q n x None ne = refl
turn_moves s p q n x (Some z) ne = elim (is_some z.status) as (λ b.
    (if b then impossible q (with_process s p x) else record { state = with_process (with_process s p x) q (after_run n z); entry = own_entry q })
    ≡ moved p x (if b then impossible q s else record { state = with_process s q (after_run n z); entry = own_entry q })) [
      | true ↦ refl
      | false ↦ ap (λ (ps : List Process). record { state = record s { processes = ps }; entry = own_entry q }) (put_put s.processes p q x (after_run n z) ne)
    ]

-- what an effect does, given what the processes become
abbrev with_processes : SyncState → ℕ → Process → CallEffect → Verdict → List Process → Transition
with_processes s q z e v ps = record {
  state = record (after_effect s q z e v).state { processes = ps };
  entry = (after_effect s q z e v).entry;
}

effect_moves : (s : SyncState) (p q : ℕ) (x y z : Process) (e : CallEffect) (v : Verdict) → process_at s.processes p ≡ Some y → (p ≡ q → ⊥)
    → after_effect (with_process s p x) q z e v ≡ moved p x (after_effect s q z e v)
effect_moves s p q x y z e Waits at ne = refl
effect_moves s p q x y z e (Replies r) at ne =
    let there : process_at (put_process s.processes q (after_reply z e r)) p ≡ Some y = at_put s.processes q p (after_reply z e r) (flip ne) ∙ at in
    ap (λ (ps : List Process). with_processes s q z e (Replies r) (ps ++ forked z e.child)) (put_put s.processes p q x (after_reply z e r) ne)
    ∙ ap (with_processes s q z e (Replies r)) (sym (put_append (put_process s.processes q (after_reply z e r)) (forked z e.child) p x y there))
effect_moves s p q x y z e (Ends status) at ne = ap (with_processes s q z e (Ends status)) (put_put s.processes p q x (after_end z status) ne)

effect_if_moves : (s : SyncState) (p q : ℕ) (x y z : Process) (o : Option CallEffect) → process_at s.processes p ≡ Some y → (p ≡ q → ⊥)
    → after_effect_if (with_process s p x) q z o ≡ moved p x (after_effect_if s q z o)
effect_if_moves s p q x y z None at ne = refl
effect_if_moves s p q x y z (Some e) at ne = effect_moves s p q x y z e e.verdict at ne

enter_moves : (s : SyncState) (p q : ℕ) (y : Process) (t : State) (o : Option Process) → process_at s.processes p ≡ Some y → (p ≡ q → ⊥)
    → after_enter (with_process s p (at_state y t)) q o ≡ moved p (at_state y t) (after_enter s q o)
enter_moves s p q y t None at ne = refl
enter_moves s p q y t (Some z) at ne = elim (is_some z.status) as (λ b.
    (if b then impossible q (with_process s p x) else after_effect_if (with_process s p x) q z (effect_at (shared (with_process s p x)) q z (stopped_at z.state)))
    ≡ moved p x (if b then impossible q s else after_effect_if s q z (effect_at (shared s) q z (stopped_at z.state)))) [
      | true ↦ refl
      | false ↦
          ap (λ (seen : Shared). after_effect_if (with_process s p x) q z (effect_at seen q z (stopped_at z.state))) (shared_same s p y t at)
          ∙ effect_if_moves s p q x y z (effect_at (shared s) q z (stopped_at z.state)) at ne
    ]
  where
    x : Process
    x = at_state y t

-- an event of another process does the same where process p's machine is at another state
pub step_moves : (s : SyncState) (p : ℕ) (y : Process) (t : State) (e : Event) → process_at s.processes p ≡ Some y → IsNotOf p e
    → step (with_process s p (at_state y t)) e ≡ moved p (at_state y t) (step s e)
step_moves s p y t (Turn q n) at ne =
    ap (λ o. after_turn (with_process s p (at_state y t)) q n o) (at_put s.processes p q (at_state y t) ne)
    ∙ turn_moves s p q n (at_state y t) (process_at s.processes q) ne
step_moves s p y t (Enter q) at ne =
    ap (λ o. after_enter (with_process s p (at_state y t)) q o) (at_put s.processes p q (at_state y t) ne)
    ∙ enter_moves s p q y t (process_at s.processes q) at ne
step_moves s p y t Cut at ne = refl
step_moves s p y t (Complete k) at ne = refl
step_moves s p y t (Fail k) at ne = refl

-- how many processes an event made, where it may have made this one
abbrev pub made_count : Option ℕ → ℕ
made_count child = if is_some child then 1 else 0

-- Each process but q that is there before a transition is there after it, and there are as many, and the one that is made.
record Keeps (s : SyncState) (q : ℕ) (t : Transition) : Type 0 where
  others : (p : ℕ) (y : Process) → process_at s.processes p ≡ Some y → (p ≡ q → ⊥) → process_at t.state.processes p ≡ Some y
  as_many : length t.state.processes ≡ length s.processes + made_count t.entry.child

-- none is made
none_more : (n : ℕ) (o : Option ℕ) → o ≡ None → n ≡ n + made_count o
none_more n o h = sym (add-zero n) ∙ ap (λ (c : Option ℕ). n + made_count c) (sym h)

keeps_all : (s : SyncState) (q : ℕ) (t : Transition) → t.state.processes ≡ s.processes → t.entry.child ≡ None → Keeps s q t
keeps_all s q t h none = record {
  others = λ p y at ne. ap (λ ps. process_at ps p) h ∙ at;
  as_many = ap (λ (ps : List Process). length ps) h ∙ none_more (length s.processes) t.entry.child none;
}

keeps_others : (s : SyncState) (q : ℕ) (t : Transition) (z : Process) → t.state.processes ≡ put_process s.processes q z → t.entry.child ≡ None → Keeps s q t
keeps_others s q t z h none = record {
  others = λ p y at ne. ap (λ ps. process_at ps p) h ∙ at_put s.processes q p z (flip ne) ∙ at;
  as_many = ap (λ (ps : List Process). length ps) h ∙ put_length s.processes q z ∙ none_more (length s.processes) t.entry.child none;
}

length-forked : (z : Process) (o : Option ℕ) → length (forked z o) ≡ made_count o
length-forked z None = refl
length-forked z (Some child) = refl

reply_keeps : (s : SyncState) (q : ℕ) (z : Process) (e : CallEffect) (r : Reply) → Keeps s q (after_effect s q z e (Replies r))
reply_keeps s q z e r =
    let ps = put_process s.processes q (after_reply z e r) in
    record {
      others = λ p y at ne. at_append ps (forked z e.child) p y (at_put s.processes q p (after_reply z e r) (flip ne) ∙ at);
      as_many = length-append ps (forked z e.child)
          ∙ ap (λ (n : ℕ). n + length (forked z e.child)) (put_length s.processes q (after_reply z e r))
          ∙ ap (λ (n : ℕ). length s.processes + n) (length-forked z e.child);
    }

effect_keeps : (s : SyncState) (q : ℕ) (z : Process) (e : CallEffect) (v : Verdict) → Keeps s q (after_effect s q z e v)
effect_keeps s q z e Waits = keeps_all s q (after_effect s q z e Waits) refl refl
effect_keeps s q z e (Replies r) = reply_keeps s q z e r
effect_keeps s q z e (Ends status) = keeps_others s q (after_effect s q z e (Ends status)) (after_end z status) refl refl

each_keeps : (s : SyncState) (q : ℕ) → OfEachEvent (Keeps s q) s q
each_keeps s q = each_event (Keeps s q) s q (keeps_all s q (impossible q s) refl refl)
    (λ n z at lives. keeps_others s q (turned s q n z) (after_run n z) refl refl) (λ z e at lives is. effect_keeps s q z e e.verdict)

-- an event leaves a process that is there, and of which it is not, as it is
pub step_keeps : (s : SyncState) (p : ℕ) (y : Process) (e : Event) → process_at s.processes p ≡ Some y → IsNotOf p e → process_at (step s e).state.processes p ≡ Some y
step_keeps s p y (Turn q n) at ne = (of_turn (Keeps s q) s q (each_keeps s q) n).others p y at ne
step_keeps s p y (Enter q) at ne = (of_enter (Keeps s q) s q (each_keeps s q)).others p y at ne
step_keeps s p y Cut at ne = at
step_keeps s p y (Complete k) at ne = at
step_keeps s p y (Fail k) at ne = at

-- and there are as many processes as before, and the one that is made
pub step_length : (s : SyncState) (e : Event) → length (step s e).state.processes ≡ length s.processes + made_count (step s e).entry.child
step_length s (Turn q n) = (of_turn (Keeps s q) s q (each_keeps s q) n).as_many
step_length s (Enter q) = (of_enter (Keeps s q) s q (each_keeps s q)).as_many
step_length s Cut = none_more (length s.processes) None refl
step_length s (Complete k) = none_more (length s.processes) None refl
step_length s (Fail k) = none_more (length s.processes) None refl
