-- A process has ended where that is what it was told last.
use Rattle.std.proofs.Common.{◌≡◌, ℕ, zero, suc, ◌+◌, ◌≤◌, ◌==◌, Bool, true, false, if◌then◌else◌, List, [], ◌∷◌, ◌++◌, length, slice_get, Option, Some, None, is_some, option_to_list, refl, sym, ap, subst, ◌∙◌, append-nil, arith, eq-eqb, ne_eqb, eqb-true, true≢false}
use Rattle.kernel_model.specs.Answers.{Kernel, changes, committed, has_ended, now, process_of}
use Rattle.kernel_model.specs.Drains.{IsAllCommitted}
use Rattle.kernel_model.specs.Entries.{Entry, Item, Got, End}
use Rattle.kernel_model.specs.Rows.{CallEffect}
use Rattle.kernel_model.specs.Shown.{Given, end_in, given_by, handed, is_made, items_for, told}
use Rattle.kernel_model.specs.State.{Process, SyncState, process_at, put_process}
use Rattle.kernel_model.specs.Steps.{Transition, after_effect, after_end, after_reply, after_run, forked, impossible, step, unchanged, zero_reply}
use Rattle.kernel_model.specs.Views.{contents}
use Rattle.kernel_model.specs.World.{Boot, BootProgram, World, after, first_process, first_world, happens, processes_from}
use Rattle.kernel_model.specs.declared.event.Event.{Event}
use Rattle.kernel_model.specs.declared.request.Verdict.{Verdict}
use Rattle.kernel_model.specs.declared.request.Verdict.TheVariants.{Waits, Replies, Ends}
use Rattle.kernel_model.proofs.ChildRows.{IsNoneOrNextProcess, call_next}
use Rattle.kernel_model.proofs.Limits.{at_below, put_length}
use Rattle.kernel_model.proofs.Runs.{told-entry}
use Rattle.kernel_model.proofs.Transitions.{OfEachEvent, call_of, of_step, trap_of, turned}
use Rattle.kernel_laws.proofs.Processes.{at_append, at_last, at_put, at_same}
use Rattle.machine_model.specs.Numbers.{cause_number}
use Rattle.machine_model.specs.Replies.{replied}
use Rattle.machine_model.specs.declared.reply.Reply.{Reply}

-- ---- the end among items
end-got : (xs : List Item) (r : Reply) → end_in (xs ++ Got r ∷ []) ≡ end_in xs
end-got [] r = refl
end-got (Got q ∷ xs) r = end-got xs r
end-got (End status ∷ xs) r = refl

end-last : (xs : List Item) (status : ℕ) → end_in xs ≡ None → end_in (xs ++ End status ∷ []) ≡ Some status
end-last [] status none = refl
end-last (Got q ∷ xs) status none = end-last xs status none
end-last (End other ∷ xs) status none = absurd (let no : ⊥ = cc in no)

contents-append : (xs ys : List (Given Item)) → contents (xs ++ ys) ≡ contents xs ++ contents ys
contents-append [] ys = refl
contents-append (x ∷ xs) ys = ap (λ (zs : List Item). x.what ∷ zs) (contents-append xs ys)

contents-given : (past : List Entry) (e : Entry) (xs : List Item) → contents (given_by past e xs) ≡ xs
contents-given past e [] = refl
contents-given past e (x ∷ xs) = ap (λ (ys : List Item). x ∷ ys) (contents-given past e xs)

-- ---- what a process was told after an event, where `before` is what each was told before it
abbrev items_after : (ℕ → List Item) → Entry → ℕ → List Item
items_after before e p = if is_made e.child p then before e.process ++ Got zero_reply ∷ [] else before p ++ items_for p e

-- what each process was told
abbrev told_in : List Entry → ℕ → List Item
told_in log p = contents (told p log)

told-after : (log : List Entry) (e : Entry) (p : ℕ) → told_in (log ++ e ∷ []) p ≡ items_after (λ q. told_in log q) e p
told-after log e p = ap contents (told-entry p log e) ∙ by (is_made e.child p)
  where
    by : (b : Bool) → contents (if b then told e.process log ++ given_by log e (Got zero_reply ∷ []) else told p log ++ given_by log e (items_for p e))
        ≡ (if b then told_in log e.process ++ Got zero_reply ∷ [] else told_in log p ++ items_for p e)
    by true =
        contents-append (told e.process log) (given_by log e (Got zero_reply ∷ []))
        ∙ ap (λ (xs : List Item). told_in log e.process ++ xs) (contents-given log e (Got zero_reply ∷ []))
    by false =
        contents-append (told p log) (given_by log e (items_for p e))
        ∙ ap (λ (xs : List Item). told_in log p ++ xs) (contents-given log e (items_for p e))

-- an event that makes no process tells the process of which it is its item
end-told : (before : ℕ → List Item) (e : Entry) (p : ℕ) (b : Bool) → e.child ≡ None → (e.process == p) ≡ b
    → end_in (items_after before e p) ≡ end_in (before p ++ (if b then option_to_list e.item else []))
end-told before e p b none is =
    ap (λ (o : Option ℕ). end_in (if is_made o p then before e.process ++ Got zero_reply ∷ [] else before p ++ items_for p e)) none
    ∙ ap (λ (v : Bool). end_in (before p ++ (if v then option_to_list e.item else []))) is

-- ---- each process has ended as it was told
abbrev HasEnds : (ℕ → List Item) → List Process → Type 0
HasEnds before ps = (p : ℕ) (y : Process) → process_at ps p ≡ Some y → y.status ≡ end_in (before p)

-- so it has after a transition
abbrev KeepsEnds : (ℕ → List Item) → Transition → Type 0
KeepsEnds before t = HasEnds (λ p. items_after before t.entry p) t.state.processes

same-if : {A : Type 0} (b : Bool) (x : A) → (if b then x else x) ≡ x
same-if true x = refl
same-if false x = refl

-- where processes stay, and nobody is told anything
still-ends : (before : ℕ → List Item) (ps : List Process) (t : Transition) → HasEnds before ps → t.state.processes ≡ ps → t.entry.item ≡ None → t.entry.child ≡ None
    → KeepsEnds before t
still-ends before ps t h same item child p y at =
    let there : process_at ps p ≡ Some y = ap (λ (qs : List Process). process_at qs p) (sym same) ∙ at in
    let told : end_in (items_after before t.entry p) ≡ end_in (before p ++ []) =
    end-told before t.entry p (t.entry.process == p) child refl
    ∙ ap (λ (o : Option Item). end_in (before p ++ (if t.entry.process == p then option_to_list o else []))) item
    ∙ ap (λ (xs : List Item). end_in (before p ++ xs)) (same-if (t.entry.process == p) []) in
    h p y there ∙ ap end_in (sym (append-nil (before p))) ∙ sym told

-- where one process is now another, which was told what the event has for it
put-ends : (before : ℕ → List Item) (ps : List Process) (t : Transition) (pid : ℕ) (x z : Process) → HasEnds before ps → process_at ps pid ≡ Some x
    → t.state.processes ≡ put_process ps pid z → t.entry.process ≡ pid → t.entry.child ≡ None
    → z.status ≡ end_in (before pid ++ option_to_list t.entry.item) → KeepsEnds before t
put-ends before ps t pid x z h there put own child status p y at = by (pid == p) refl
  where
    now_at : process_at (put_process ps pid z) p ≡ Some y
    now_at = ap (λ (qs : List Process). process_at qs p) (sym put) ∙ at

    told : (b : Bool) → (pid == p) ≡ b → end_in (items_after before t.entry p) ≡ end_in (before p ++ (if b then option_to_list t.entry.item else []))
    told b is = end-told before t.entry p b child (ap (λ (q : ℕ). q == p) own ∙ is)

    by : (b : Bool) → (pid == p) ≡ b → y.status ≡ end_in (items_after before t.entry p)
    by true is =
        let same : pid ≡ p = eqb-true pid p is in
        let here : process_at (put_process ps pid z) p ≡ Some z =
        subst (λ (q : ℕ). process_at (put_process ps pid z) q ≡ Some z) same (at_same ps pid z x there) in
        let one : z ≡ y = cc in
        ap (λ (q : Process). q.status) (sym one) ∙ status ∙ ap (λ (q : ℕ). end_in (before q ++ option_to_list t.entry.item)) same ∙ sym (told true is)
    by false is =
        let other : process_at (put_process ps pid z) p ≡ process_at ps p =
        at_put ps pid p z (λ (same : pid ≡ p). true≢false (sym (eq-eqb pid p same) ∙ is)) in
        h p y (sym other ∙ now_at) ∙ ap end_in (sym (append-nil (before p))) ∙ sym (told false is)

-- the process that a fork makes
abbrev child_of : Process → Process
child_of x = record { state = replied x.state zero_reply; descriptors = x.descriptors; children = []; status = None }

not-made : (count p child : ℕ) → child ≡ count + 1 → p ≤ count → is_made (Some child) p ≡ false
not-made count p child next le = ne_eqb child p (λ (same : child ≡ p). omega arith)

-- a reply that makes a process, which is told what its parent was, and 0
fork-ends : (before : ℕ → List Item) (s : SyncState) (pid child : ℕ) (x : Process) (e : CallEffect) (r : Reply) → HasEnds before s.processes
    → process_at s.processes pid ≡ Some x → x.status ≡ None → e.child ≡ Some child → child ≡ length s.processes + 1
    → KeepsEnds before (after_effect s pid x e (Replies r))
fork-ends before s pid child x e r h there runs made next p y at = by (process_at (put_process s.processes pid (after_reply x e r)) p) refl
  where
    put : List Process
    put = put_process s.processes pid (after_reply x e r)

    entry : Entry
    entry = (after_effect s pid x e (Replies r)).entry

    whole : process_at (put ++ child_of x ∷ []) p ≡ Some y
    whole = ap (λ (o : Option ℕ). process_at (put ++ forked x o) p) (sym made) ∙ at

    size : length put ≡ length s.processes
    size = put_length s.processes pid (after_reply x e r)

    parent : end_in (before pid) ≡ None
    parent = sym (h pid x there) ∙ runs

    told : (b : Bool) → is_made e.child p ≡ b → end_in (items_after before entry p) ≡ end_in (if b then before pid ++ Got zero_reply ∷ [] else before p ++ items_for p entry)
    told b is = ap (λ (v : Bool). end_in (if v then before pid ++ Got zero_reply ∷ [] else before p ++ items_for p entry)) is

    by : (o : Option Process) → process_at put p ≡ o → y.status ≡ end_in (items_after before entry p)
    by None none =
        let last = at_last put p (child_of x) y none whole in
        let number : child ≡ p = let place = last.0 in let all = size in omega (arith, place, all, next) in
        ap (λ (q : Process). q.status) (sym last.1)
        ∙ sym (end-got (before pid) zero_reply ∙ parent)
        ∙ sym (told true (ap (λ (o : Option ℕ). is_made o p) made ∙ eq-eqb child p number))
    by (Some q) was =
        let first : process_at (put ++ child_of x ∷ []) p ≡ Some q = at_append put (child_of x ∷ []) p q was in
        let one : q ≡ y = let seen = whole in cc in
        let le : p ≤ length s.processes = let below = at_below put p q was in let all = size in omega (arith, below, all) in
        let none : is_made e.child p ≡ false = ap (λ (o : Option ℕ). is_made o p) made ∙ not-made (length s.processes) p child next le in
        put-ends before s.processes (record { state = record s { processes = put }; entry = record entry { child = None } }) pid x (after_reply x e r)
        h there refl refl refl (sym (end-got (before pid) r ∙ parent)) p y (was ∙ ap (λ (z : Process). Some z) one)
        ∙ sym (told false none)

reply-ends : (before : ℕ → List Item) (s : SyncState) (pid : ℕ) (x : Process) (e : CallEffect) (r : Reply) (o : Option ℕ) → HasEnds before s.processes
    → process_at s.processes pid ≡ Some x → x.status ≡ None → e.child ≡ o → IsNoneOrNextProcess (length s.processes) o
    → KeepsEnds before (after_effect s pid x e (Replies r))
reply-ends before s pid x e r None h there runs made next =
    put-ends before s.processes (after_effect s pid x e (Replies r)) pid x (after_reply x e r) h there
    (ap (λ (o : Option ℕ). put_process s.processes pid (after_reply x e r) ++ forked x o) made ∙ append-nil (put_process s.processes pid (after_reply x e r)))
    refl made (sym (end-got (before pid) r ∙ sym (h pid x there) ∙ runs))
reply-ends before s pid x e r (Some child) h there runs made next = fork-ends before s pid child x e r h there runs made next.0

end-ends : (before : ℕ → List Item) (s : SyncState) (pid : ℕ) (x : Process) (e : CallEffect) (status : ℕ) → HasEnds before s.processes
    → process_at s.processes pid ≡ Some x → x.status ≡ None → KeepsEnds before (after_effect s pid x e (Ends status))
end-ends before s pid x e status h there runs =
    put-ends before s.processes (after_effect s pid x e (Ends status)) pid x (after_end x status) h there refl refl refl
    (sym (end-last (before pid) status (sym (h pid x there) ∙ runs)))

effect-ends : (before : ℕ → List Item) (s : SyncState) (pid : ℕ) (x : Process) (e : CallEffect) (v : Verdict) → HasEnds before s.processes
    → process_at s.processes pid ≡ Some x → x.status ≡ None → IsNoneOrNextProcess (length s.processes) e.child → KeepsEnds before (after_effect s pid x e v)
effect-ends before s pid x e Waits h there runs next = still-ends before s.processes (after_effect s pid x e Waits) h refl refl refl
effect-ends before s pid x e (Replies r) h there runs next = reply-ends before s pid x e r e.child h there runs refl next
effect-ends before s pid x e (Ends status) h there runs next = end-ends before s pid x e status h there runs

none-of : (o : Option ℕ) → is_some o ≡ false → o ≡ None
none-of None is = refl
none-of (Some status) is = absurd (let no : ⊥ = cc in no)

each-ends : (before : ℕ → List Item) (s : SyncState) → HasEnds before s.processes → (pid : ℕ) → OfEachEvent (KeepsEnds before) s pid
each-ends before s h pid = record {
  cannot = still-ends before s.processes (impossible pid s) h refl refl refl;
  turns = λ n x at lives. put-ends before s.processes (turned s pid n x) pid x (after_run n x) h at refl refl refl
      (h pid x at ∙ ap end_in (sym (append-nil (before pid))));
  calls = λ x at lives stands. effect-ends before s pid x (call_of s pid x) (call_of s pid x).verdict h at (none-of x.status lives) (call_next s pid x);
  traps = λ x cause at lives stands. end-ends before s pid x (trap_of x cause) (256 + cause_number cause) h at (none-of x.status lives);
}

step-ends : (before : ℕ → List Item) (s : SyncState) (e : Event) → HasEnds before s.processes → KeepsEnds before (step s e)
step-ends before s e h = of_step (KeepsEnds before) s (still-ends before s.processes (unchanged s) h refl refl refl) (each-ends before s h) e

-- ---- whole runs
abbrev TellsEnds : World → Type 0
TellsEnds w = HasEnds (λ p. told_in w.log p) w.sync.processes

happens-ends : (w : World) (e : Event) → TellsEnds w → TellsEnds (happens w e)
happens-ends w e h p y at =
    step-ends (λ q. told_in w.log q) w.sync e h p y at ∙ ap end_in (sym (told-after w.log (step w.sync e).entry p))

after-ends : (es : List Event) (w : World) → TellsEnds w → TellsEnds (after w es)
after-ends [] w h = h
after-ends (e ∷ es) w h = after-ends es (happens w e) (happens-ends w e h)

first-runs : (i : ℕ) (programs : List BootProgram) (n : ℕ) (y : Process) → slice_get (processes_from i programs) n ≡ Some y → y.status ≡ None
first-runs i [] n y at = absurd (let no : ⊥ = cc in no)
first-runs i (program ∷ programs) zero y at = let same : first_process i program ≡ y = cc in ap (λ (q : Process). q.status) (sym same)
first-runs i (program ∷ programs) (suc n) y at = first-runs (i + 1) programs n y at

first-ends : (b : Boot) → TellsEnds (first_world b)
first-ends b zero y at = absurd (let no : ⊥ = cc in no)
first-ends b (suc n) y at = first-runs 0 b.programs n y at

-- where all is committed, all that processes were told is handed out
pub ended-handed : ((b : Boot) (es : List Event) → committed (after (first_world b) es) ≡ changes (after (first_world b) es)
    → (p : ℕ) → handed (after (first_world b) es) p ≡ contents (told p (after (first_world b) es).log))
    → (k : Kernel) (p : ℕ) → IsAllCommitted (now k) → is_some (process_of k p) ≡ true → has_ended (process_of k p) ≡ is_some (end_in (handed (now k) p))
ended-handed all k p is_all there = by (process_of k p) refl there
  where
    by : (o : Option Process) → process_of k p ≡ o → is_some o ≡ true → has_ended o ≡ is_some (end_in (handed (now k) p))
    by None at some = absurd (let no : ⊥ = cc in no)
    by (Some y) at some =
        ap (λ (o : Option ℕ). is_some o)
        (after-ends k.history (first_world k.boot) (first-ends k.boot) p y at ∙ ap end_in (sym (all k.boot k.history is_all p)))
