-- A process comes from its first state to where it stands by the replies that it got.
use Rattle.std.proofs.Common.{append-nil, ◌≡◌, ℕ, ◌+◌, ◌==◌, Bool, true, false, if◌then◌else◌, List, [], ◌∷◌, ◌++◌, Option, Some, None, is_some, option_to_list, refl, sym, ap, subst, ◌∙◌}
use Rattle.std.proofs.lemmas.Bool.{eqb-true, eqb-false, eq-eqb}
use Rattle.machine_model.specs.declared.reply.Reply.{Reply}
use Rattle.machine_model.specs.declared.stop.Stop.{Stop}
use Rattle.machine_model.specs.declared.stop.Stop.TheVariants.{Limit, Call, Trap}
use Rattle.machine_model.specs.States.{State, stopped_at}
use Rattle.kernel_model.specs.Entries.{Entry, Item, Got, End}
use Rattle.kernel_model.specs.State.{SyncState, shared, Process, process_at, put_process, with_process}
use Rattle.kernel_model.specs.Requests.{request_of}
use Rattle.machine_model.specs.Numbers.{cause_number}
use Rattle.kernel_model.specs.Rows.{CallEffect, row, row_end}
use Rattle.kernel_model.specs.Steps.{Transition, own_entry, impossible, after_run, after_reply, zero_reply, forked, after_end, after_turn, effect_at, after_effect, after_effect_if, after_enter, step}
use Rattle.kernel_model.specs.Shown.{Given, given_by, is_made, items_for, told, replies_in}
use Rattle.kernel_model.specs.World.{World, happens, after}
use Rattle.kernel_model.specs.declared.event.Event.{Event}
use Rattle.kernel_model.specs.declared.event.Event.TheVariants.{Turn, Enter, Cut, Complete, Fail}
use Rattle.kernel_model.specs.declared.request.Verdict.{Verdict}
use Rattle.kernel_model.specs.declared.request.Verdict.TheVariants.{Waits, Replies, Ends}
use Rattle.kernel_model.proofs.Runs.{told-entry, contents-append, contents-given_by}
use Rattle.kernel_model.proofs.Transitions.{OfEachEvent, each_event, of_turn, of_enter}
use Rattle.kernel_model.specs.Views.{contents}
use Rattle.kernel_laws.specs.Promises.{ComesTo, IsRunOn}
use Rattle.kernel_laws.proofs.Machines.{comes_on, comes_replied}
use Rattle.kernel_laws.proofs.Processes.{at_same, at_append}
use Rattle.kernel_laws.proofs.Others.{step_keeps}
use Rattle.kernel_laws.proofs.Children.{step_not_made}
use Rattle.kernel_laws.proofs.Quiet.{told_if}

-- the replies among what is given, one entry after the other
replies_in-append : (xs ys : List Item) → replies_in (xs ++ ys) ≡ replies_in xs ++ replies_in ys
replies_in-append [] ys = refl
replies_in-append (Got r ∷ xs) ys = ap (λ rs. r ∷ rs) (replies_in-append xs ys)
replies_in-append (End status ∷ xs) ys = replies_in-append xs ys

abbrev pub replies_of : ℕ → List Entry → List Reply
replies_of p log = replies_in (contents (told p log))

replies_more : (xs : List (Given Item)) (past : List Entry) (e : Entry) (items : List Item)
    → replies_in (contents (xs ++ given_by past e items)) ≡ replies_in (contents xs) ++ replies_in items
replies_more xs past e items =
    ap (λ ys. replies_in ys) (contents-append xs (given_by past e items))
    ∙ replies_in-append (contents xs) (contents (given_by past e items))
    ∙ ap (λ ys. replies_in (contents xs) ++ replies_in ys) (contents-given_by past e items)

-- what each process was told so far
abbrev told_so : List Entry → ℕ → List (Given Item)
told_so log q = told q log

-- a process that is not made by an event has what it is told by it after its own
replies_of-entry : (p : ℕ) (log : List Entry) (e : Entry) → is_made e.child p ≡ false → replies_of p (log ++ e ∷ []) ≡ replies_of p log ++ replies_in (items_for p e)
replies_of-entry p log e h =
    ap (λ (xs : List (Given Item)). replies_in (contents xs)) (told-entry p log e ∙ ap (told_if (told_so log) log e p) h)
    ∙ replies_more (told p log) log e (items_for p e)

-- and one that is has 0 after its parent's
pub replies_of-made : (p : ℕ) (log : List Entry) (e : Entry) → is_made e.child p ≡ true → replies_of p (log ++ e ∷ []) ≡ replies_of e.process log ++ zero_reply ∷ []
replies_of-made p log e h =
    ap (λ (xs : List (Given Item)). replies_in (contents xs)) (told-entry p log e ∙ ap (told_if (told_so log) log e p) h)
    ∙ replies_more (told e.process log) log e (Got zero_reply ∷ [])

-- The process that stands there now went on from the old one by these replies.
abbrev GoesOn : Process → List Reply → Option Process → Type 0
GoesOn old rs o = (new : Process) × (o ≡ Some new) × ((first : State) (before : List Reply) → ComesTo first before old.state → ComesTo first (before ++ rs) new.state)

-- it stays where it is, or ends there
stands_still : (old new : Process) (rs : List Reply) (o : Option Process) → o ≡ Some new → rs ≡ [] → new.state ≡ old.state → GoesOn old rs o
stands_still old new rs o there none same = (
  new,
  there,
  λ first before come.
      subst (λ (xs : List Reply). ComesTo first xs new.state) (sym (ap (λ ys. before ++ ys) none ∙ append-nil before))
      (subst (λ (u : State). ComesTo first before u) (sym same) come),
)

-- what a process is told by an event
none_if : (b : Bool) → replies_in (if b then [] else []) ≡ []
none_if true = refl
none_if false = refl

no_item : (p : ℕ) (e : Entry) → e.item ≡ None → replies_in (items_for p e) ≡ []
no_item p e h = ap (λ (o : Option Item). replies_in (if e.process == p then option_to_list o else [])) h ∙ none_if (e.process == p)

item_of_other : (p : ℕ) (e : Entry) → (p ≡ e.process → ⊥) → replies_in (items_for p e) ≡ []
item_of_other p e ne = elim (e.process == p) as (λ b. (e.process == p) ≡ b → replies_in (if b then option_to_list e.item else []) ≡ []) [
  | true ↦ λ h. absurd (ne (sym (eqb-true e.process p h)))
  | false ↦ λ h. refl
] refl

own_item : (p : ℕ) (o : Option Item) → replies_in (if p == p then option_to_list o else []) ≡ replies_in (option_to_list o)
own_item p o = ap (λ (b : Bool). replies_in (if b then option_to_list o else [])) (eq-eqb p p refl)

-- the process after an event of its own
abbrev OwnGoesOn : SyncState → ℕ → Process → Transition → Type 0
OwnGoesOn s p old t = GoesOn old (replies_in (items_for p t.entry)) (process_at t.state.processes p)

impossible_goes : (s : SyncState) (p : ℕ) (old : Process) → process_at s.processes p ≡ Some old → OwnGoesOn s p old (impossible p s)
impossible_goes s p old at = stands_still old old _ _ at (no_item p (impossible p s).entry refl) refl

run_goes_on : (s : SyncState) (p n : ℕ) (old : Process) → process_at s.processes p ≡ Some old
    → OwnGoesOn s p old (record { state = with_process s p (after_run n old); entry = own_entry p })
run_goes_on s p n old at = (
  after_run n old,
  at_same s.processes p (after_run n old) old at,
  λ first before come.
      subst (λ (xs : List Reply). ComesTo first xs (after_run n old).state) (sym (ap (λ ys. before ++ ys) (no_item p (own_entry p) refl) ∙ append-nil before))
      (comes_on first before old.state n come),
)

turn_goes : (s : SyncState) (p n : ℕ) (old : Process) → process_at s.processes p ≡ Some old → OwnGoesOn s p old (after_turn s p n (Some old))
turn_goes s p n old at = elim (is_some old.status) as (λ b. OwnGoesOn s p old (if b then impossible p s else record { state = with_process s p (after_run n old); entry = own_entry p })) [
  | true ↦ impossible_goes s p old at
  | false ↦ run_goes_on s p n old at
]

end_goes : (s : SyncState) (p : ℕ) (old : Process) (e : CallEffect) (status : ℕ) → process_at s.processes p ≡ Some old → OwnGoesOn s p old (after_effect s p old e (Ends status))
end_goes s p old e status at = stands_still old (after_end old status) _ _ (at_same s.processes p (after_end old status) old at) (own_item p (Some (End status))) refl

effect_goes : (s : SyncState) (p : ℕ) (old : Process) (e : CallEffect) (v : Verdict) → process_at s.processes p ≡ Some old → stopped_at old.state ≡ Some Call
    → OwnGoesOn s p old (after_effect s p old e v)
effect_goes s p old e Waits at call = stands_still old old _ _ at (no_item p (after_effect s p old e Waits).entry refl) refl
effect_goes s p old e (Replies r) at call = (
  after_reply old e r,
  at_append (put_process s.processes p (after_reply old e r)) (forked old e.child) p (after_reply old e r) (at_same s.processes p (after_reply old e r) old at),
  λ first before come.
      subst (λ (xs : List Reply). ComesTo first (before ++ xs) (after_reply old e r).state) (sym (own_item p (Some (Got r))))
      (comes_replied first before old.state r call come),
)
effect_goes s p old e (Ends status) at call = end_goes s p old e status at

enter_goes : (s : SyncState) (p : ℕ) (old : Process) → process_at s.processes p ≡ Some old → OwnGoesOn s p old (after_enter s p (Some old))
enter_goes s p old at = elim (is_some old.status) as (λ b. OwnGoesOn s p old (if b then impossible p s else after_effect_if s p old (effect_at (shared s) p old (stopped_at old.state)))) [
  | true ↦ impossible_goes s p old at
  | false ↦ by_stop (stopped_at old.state) refl
]
  where
    by_stop : (o : Option Stop) → stopped_at old.state ≡ o → OwnGoesOn s p old (after_effect_if s p old (effect_at (shared s) p old o))
    by_stop None h = impossible_goes s p old at
    by_stop (Some Limit) h = impossible_goes s p old at
    by_stop (Some Call) h = let e = row (shared s) p old.descriptors old.children (request_of old.state) in effect_goes s p old e e.verdict at h
    by_stop (Some (Trap cause)) h = end_goes s p old (row_end old.descriptors (256 + cause_number cause)) (256 + cause_number cause) at

-- an event is of the process that its entry names
effect_is_of : (s : SyncState) (q : ℕ) (y : Process) (e : CallEffect) (v : Verdict) → (after_effect s q y e v).entry.process ≡ q
effect_is_of s q y e Waits = refl
effect_is_of s q y e (Replies r) = refl
effect_is_of s q y e (Ends status) = refl

each_is_of : (s : SyncState) (q : ℕ) → OfEachEvent (λ (t : Transition). t.entry.process ≡ q) s q
each_is_of s q = each_event (λ (t : Transition). t.entry.process ≡ q) s q refl (λ n y at lives. refl) (λ y e at lives is. effect_is_of s q y e e.verdict)

-- a process goes on through each event
step_goes : (s : SyncState) (p : ℕ) (old : Process) (e : Event) → process_at s.processes p ≡ Some old → OwnGoesOn s p old (step s e)
step_goes s p old (Turn q n) at = elim (q == p) as (λ b. (q == p) ≡ b → OwnGoesOn s p old (step s (Turn q n))) [
  | true ↦ λ h. subst (λ (r : ℕ). OwnGoesOn s p old (step s (Turn r n))) (sym (eqb-true q p h))
      (subst (λ (o : Option Process). OwnGoesOn s p old (after_turn s p n o)) (sym at) (turn_goes s p n old at))
  | false ↦ λ h. let ne : (p ≡ q → ⊥) = λ same. eqb-false q p h (sym same) in
      stands_still old old _ _ (step_keeps s p old (Turn q n) at ne)
      (item_of_other p (step s (Turn q n)).entry (λ same. ne (same ∙ of_turn (λ (t : Transition). t.entry.process ≡ q) s q (each_is_of s q) n))) refl
] refl
step_goes s p old (Enter q) at = elim (q == p) as (λ b. (q == p) ≡ b → OwnGoesOn s p old (step s (Enter q))) [
  | true ↦ λ h. subst (λ (r : ℕ). OwnGoesOn s p old (step s (Enter r))) (sym (eqb-true q p h))
      (subst (λ (o : Option Process). OwnGoesOn s p old (after_enter s p o)) (sym at) (enter_goes s p old at))
  | false ↦ λ h. let ne : (p ≡ q → ⊥) = λ same. eqb-false q p h (sym same) in
      stands_still old old _ _ (step_keeps s p old (Enter q) at ne)
      (item_of_other p (step s (Enter q)).entry (λ same. ne (same ∙ of_enter (λ (t : Transition). t.entry.process ≡ q) s q (each_is_of s q)))) refl
] refl
step_goes s p old Cut at = stands_still old old _ _ at (no_item p (step s Cut).entry refl) refl
step_goes s p old (Complete k) at = stands_still old old _ _ at (no_item p (step s (Complete k)).entry refl) refl
step_goes s p old (Fail k) at = stands_still old old _ _ at (no_item p (step s (Fail k)).entry refl) refl

-- so one that is there goes on from where it stands
pub goes_on : (w : World) (p : ℕ) (old : Process) (e : Event) (first : State) → process_at w.sync.processes p ≡ Some old → ComesTo first (replies_of p w.log) old.state
    → (new : Process) × (process_at (happens w e).sync.processes p ≡ Some new) × ComesTo first (replies_of p (happens w e).log) new.state
goes_on w p old e first at comes =
    let g = step_goes w.sync p old e at in
    let told = replies_of-entry p w.log (step w.sync e).entry (step_not_made w.sync p old e at) in (
      g.0,
      g.1,
      subst (λ (rs : List Reply). ComesTo first rs g.0.state) (sym told) (g.2 first (replies_of p w.log) comes),
    )

pub happens_runs : (w : World) (p : ℕ) (first : Process) (e : Event) → IsRunOn w p first → IsRunOn (happens w e) p first
happens_runs w p first e h =
    let g = goes_on w p h.process e first.state h.there h.comes in
    record { process = g.0; there = g.1; comes = g.2 }

pub after_runs : (es : List Event) (w : World) (p : ℕ) (first : Process) → IsRunOn w p first → IsRunOn (after w es) p first
after_runs [] w p first h = h
after_runs (e ∷ es) w p first h = after_runs es (happens w e) p first (happens_runs w p first e h)
