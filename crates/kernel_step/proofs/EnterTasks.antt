-- Tasks after an Enter.
use Rattle.std.proofs.Common.{◌≡◌, ℕ, suc, ◌+◌, ◌^◌, ◌<◌, ◌≤◌, ◌==◌, ◌&&◌, inl, inr, Bool, true, false, List, [], ◌∷◌, ◌++◌, length, map, slice_get, slice_set, Option, Some, None, is_some, IfSome, if◌then◌else◌, option_to_list, refl, sym, ap, subst, ◌∙◌, arith}
use Rattle.std.proofs.lemmas.Option.{slice_get_within}
use Rattle.std.proofs.lemmas.List.{map-set, length-set, map-append, append-nil}
use Rattle.std.proofs.lemmas.Bool.{eq-eqb, ne_eqb}
use Rattle.disk_model.specs.Storage.{is_empty}
use Rattle.machine_model.specs.States.{State}
use Rattle.machine_model.specs.Replies.{replied}
use Rattle.calls.specs.Plans.{IsNext}
use Rattle.calls.specs.declared.plan.CallPlan.{CallPlan}
use Rattle.commit_deps.specs.Marks.{IsMarkOf}
use Rattle.kernel_model.specs.Entries.{Entry, Item, Got, End as Ended}
use Rattle.kernel_model.specs.Loans.{is_waiting}
use Rattle.kernel_model.specs.Shown.{given_by, is_made, told, end_in}
use Rattle.kernel_model.specs.State.{Process, put_process}
use Rattle.kernel_model.specs.Steps.{forked, zero_reply}
use Rattle.kernel_model.specs.World.{World}
use Rattle.kernel_model.specs.declared.carrier.Carrier.{Carrier}
use Rattle.kernel_model.specs.declared.request.Verdict.{Verdict}
use Rattle.kernel_model.specs.declared.request.Verdict.TheVariants.{Waits, Replies, Ends}
use Rattle.kernel_step.specs.Entering.{item_of, machine_after, status_after, writes_of, entry_of, process_after, planned, IsTold, IsForked, MakesTask}
use Rattle.kernel_step.specs.Mirrors.{IsTask, AreTasks}
use Rattle.held_output.specs.Withheld.{Withheld, Held, whats, all_held}
use Rattle.kernel_step.specs.Seen.{Withholds}
use Rattle.kernel_step.specs.Tasks.{machine_of, out_of, process_of, bare, needed, status_of}
use Rattle.kernel_step.specs.Waiting.{is_asleep, served_after, waited_after}
use Rattle.kernel_step.specs.declared.task.Task.{Task}
use Rattle.kernel_step.proofs.EnterFine.{IsFineTask}
use Rattle.kernel_step.proofs.EnterLists.{withholds-more, withholds-same, items-here, items-elsewhere}
use Rattle.kernel_step.proofs.Lists.{get-set, get-joined}
use Rattle.kernel_step.proofs.Replying.{replied-count}
use Rattle.kernel_step.proofs.Quiet.{told-own, told-made, waiting-more}
use Rattle.kernel_step.proofs.Turning.{IsProcessOf, world_with}

-- ---- waiting
-- whether process p waits after an event, by what the event did
abbrev waits_by : ℕ → Bool → Option Item → ℕ → List Carrier → Bool
waits_by p before item process writes = if is_some item then false else if (process == p) && is_empty writes then true else before

awake-later : (served : ℕ) (o : Option ℕ) → IfSome o (λ before. before ≤ served) → is_asleep (served + 1) o ≡ false
awake-later served None h = refl
awake-later served (Some before) h = ne_eqb before (served + 1) (λ e. absurd (omega arith))

waits-told : (v : Verdict) (served p : ℕ) (b : Bool) (waited : Option ℕ) (cs : List Carrier) → IfSome waited (λ before. before ≤ served)
    → waits_by p b (item_of v) p (writes_of p v cs) ≡ is_asleep (served_after v served) (waited_after v served waited)
waits-told Waits served p b waited cs since =
    ap (λ (x : Bool). if x && true then true else b) (eq-eqb p p refl) ∙ sym (eq-eqb served served refl)
waits-told (Replies r) served p b waited cs since = sym (awake-later served waited since)
waits-told (Ends status) served p b waited cs since = sym (awake-later served waited since)

waits-other : (v : Verdict) (served p q : ℕ) (b : Bool) (waited : Option ℕ) (cs : List Carrier) → (q ≡ p → ⊥) → IfSome waited (λ before. before ≤ served)
    → b ≡ is_asleep served waited → waits_by p b (item_of v) q (writes_of q v cs) ≡ is_asleep (served_after v served) waited
waits-other Waits served p q b waited cs other since h =
    ap (λ (x : Bool). if x && true then true else b) (ne_eqb q p (λ e. other e)) ∙ h
waits-other (Replies r) served p q b waited cs other since h = sym (awake-later served waited since)
waits-other (Ends status) served p q b waited cs other since h = sym (awake-later served waited since)

served-grows : (v : Verdict) (served : ℕ) → served ≤ served_after v served
served-grows Waits served = omega arith
served-grows (Replies r) served = omega arith
served-grows (Ends status) served = omega arith

pub served-by-one : (v : Verdict) (served : ℕ) → served_after v served ≤ served + 1
served-by-one Waits served = omega arith
served-by-one (Replies r) served = omega arith
served-by-one (Ends status) served = omega arith

since-more : (n m : ℕ) (o : Option ℕ) → n ≤ m → IfSome o (λ before. before ≤ n) → IfSome o (λ before. before ≤ m)
since-more n m None more h = tt
since-more n m (Some before) more h = omega (arith, more, h)

since-served : (v : Verdict) (served : ℕ) (waited : Option ℕ) → IfSome waited (λ before. before ≤ served)
    → IfSome (waited_after v served waited) (λ before. before ≤ served_after v served)
since-served Waits served waited h = omega arith
since-served (Replies r) served waited h = since-more served (served + 1) waited (omega arith) h
since-served (Ends status) served waited h = since-more served (served + 1) waited (omega arith) h

-- ---- traces
-- that of the process that was told something
trace-told : (c : ℕ) (log : List Entry) (e : Entry) (p : ℕ) (v : Verdict) (mark served : ℕ) (t t' : Task)
    → e.process ≡ p → e.item ≡ item_of v → is_made e.child p ≡ false → IsMarkOf mark log e
    → IsTold v mark served t t' → Withholds c (told p log) t.trace → Withholds c (told p (log ++ e ∷ [])) t'.trace
trace-told c log e p v mark served t t' here tells unmade is_mark new h =
    withholds-more c (told p log) (told p (log ++ e ∷ [])) t.trace t'.trace log e mark (option_to_list (item_of v))
    (told-own p log e unmade
    ∙ ap (λ (xs : List Item). told p log ++ given_by log e xs) (items-here p e here ∙ ap (λ (o : Option Item). option_to_list o) tells))
    is_mark new.items new.committed h

-- that of a process that it made
trace-forked : (c : ℕ) (log : List Entry) (e : Entry) (p q mark : ℕ) (s : State) (t : Withheld Item) (u : Task)
    → e.process ≡ p → is_made e.child q ≡ true → IsMarkOf mark log e
    → IsForked mark s t u → Withholds c (told p log) t → Withholds c (told q (log ++ e ∷ [])) u.trace
trace-forked c log e p q mark s t u here made is_mark new h =
    withholds-more c (told p log) (told q (log ++ e ∷ [])) t u.trace log e mark (Got zero_reply ∷ [])
    (told-made q log e made ∙ ap (λ (k : ℕ). told k log ++ given_by log e (Got zero_reply ∷ [])) here)
    is_mark new.items new.committed h

-- that of another process
trace-other : (c : ℕ) (log : List Entry) (e : Entry) (p : ℕ) (t : Withheld Item) → (e.process ≡ p → ⊥) → is_made e.child p ≡ false
    → Withholds c (told p log) t → Withholds c (told p (log ++ e ∷ [])) t
trace-other c log e p t other unmade h =
    withholds-same c (told p log) (told p (log ++ e ∷ [])) t
    (told-own p log e unmade
    ∙ ap (λ (xs : List Item). told p log ++ given_by log e xs) (items-elsewhere p e other)
    ∙ append-nil (told p log)) h

-- ---- which process was made
unmade : (o : Option ℕ) (n k : ℕ) → IfSome o (IsNext n) → k < n → is_made o (k + 1) ≡ false
unmade None n k next less = refl
unmade (Some child) n k next less = ne_eqb child (k + 1) (λ e. absurd (omega (arith, next.0)))

made-last : (o : Option ℕ) (n child : ℕ) → IfSome o (IsNext n) → o ≡ Some child → is_made o (n + 1) ≡ true
made-last None n child next is = cc
made-last (Some other) n child next is = eq-eqb other (n + 1) next.0

next-is : (o : Option ℕ) (n child : ℕ) → IfSome o (IsNext n) → o ≡ Some child → child ≡ n + 1
next-is None n child next is = cc
next-is (Some other) n child next is = let same : other ≡ child = cc in sym same ∙ next.0

-- ---- how a process has ended
-- the status among items to which these come
abbrev end_or : Option ℕ → Option ℕ → Option ℕ
end_or None o = o
end_or (Some status) o = Some status

end-after : (hs : List (Held Item)) (mark : ℕ) (xs : List Item) → end_in (whats (hs ++ all_held mark xs)) ≡ end_or (end_in (whats hs)) (end_in xs)
end-after [] mark xs = ap end_in (whats-held mark xs)
  where
    whats-held : (mark : ℕ) (xs : List Item) → whats (all_held mark xs) ≡ xs
    whats-held mark [] = refl
    whats-held mark (x ∷ xs) = ap (λ ys. x ∷ ys) (whats-held mark xs)
end-after (h ∷ hs) mark xs = by h.what (end-after hs mark xs)
  where
    by : (i : Item) → end_in (whats (hs ++ all_held mark xs)) ≡ end_or (end_in (whats hs)) (end_in xs)
        → end_in (i ∷ whats (hs ++ all_held mark xs)) ≡ end_or (end_in (i ∷ whats hs)) (end_in xs)
    by (Got r) rest = rest
    by (Ended status) rest = refl

status-by : (v : Verdict) → end_in (option_to_list (item_of v)) ≡ status_after v None
status-by Waits = refl
status-by (Replies r) = refl
status-by (Ends status) = refl

process-told : (q : Process) (t t' : Task) (full : Bool) (plan : CallPlan) (mark served : ℕ) → IsFineTask t full → q.state ≡ machine_of t → q.status ≡ None
    → IsTold plan.verdict mark served t t' → process_of t' ≡ bare (process_after q plan)
process-told q t t' full plan mark served fine state running new =
    let status : status_of t' ≡ status_after plan.verdict q.status =
    ap (λ (hs : List (Held Item)). end_in (whats hs)) new.items ∙ end-after t.trace.items mark (option_to_list (item_of plan.verdict))
    ∙ ap (λ (o : Option ℕ). end_or o (end_in (option_to_list (item_of plan.verdict)))) fine.running ∙ status-by plan.verdict
    ∙ ap (λ (o : Option ℕ). status_after plan.verdict o) (sym running) in
    ap (λ (s : State). record { state = s; descriptors = []; children = []; status = status_of t' })
    (new.machine ∙ ap (λ (s : State). machine_after s plan.verdict) (sym state))
    ∙ ap (λ (o : Option ℕ). record { state = machine_after q.state plan.verdict; descriptors = []; children = []; status = o }) status

-- a process that is made has not ended
forked-runs : (mark : ℕ) (s : State) (t : Withheld Item) (u : Task) → end_in (whats t.items) ≡ None → IsForked mark s t u → status_of u ≡ None
forked-runs mark s t u running new =
    ap (λ (hs : List (Held Item)). end_in (whats hs)) new.items ∙ end-after t.items mark (Got zero_reply ∷ [])
    ∙ ap (λ (o : Option ℕ). end_or o None) running

-- ---- the tasks
machine-count : (s : State) (v : Verdict) → (machine_after s v).count ≤ s.count + 1
machine-count s Waits = omega arith
machine-count s (Replies r) = omega (arith, replied-count s r)
machine-count s (Ends status) = omega arith

told-task : (w : World) (served pid place n : ℕ) (full : Bool) (q : Process) (t t' : Task) (plan : CallPlan) (mark : ℕ)
    → pid ≡ place + 1 → place < n → IsFineTask t full → IfSome plan.child (IsNext n)
    → IsMarkOf mark w.log (entry_of pid plan)
    → IsTold plan.verdict mark served t t'
    → IsTask w served place t → IsTask (world_with w (planned w.sync pid q plan)) (served_after plan.verdict served) place t'
told-task w served pid place n full q t t' plan mark number within fine child is_mark new h =
    let out : out_of t' ≡ None = new.out ∙ fine.here in
    let none : needed (out_of t') ≡ 0 = ap needed out in
    let count : (machine_of t').count ≤ (machine_of t).count + 1 =
    subst (λ (s : State). s.count ≤ (machine_of t).count + 1) (sym new.machine) (machine-count (machine_of t) plan.verdict) in
    let few : (machine_of t).count < 2 ^ 40 = fine.few in
    record {
      number = new.pid ∙ h.number;
      trace = trace-told w.storage.committed w.log (entry_of pid plan) (place + 1) plan.verdict mark served t t'
          number refl (unmade plan.child n place child within) is_mark new h.trace;
      budget = omega (arith, none, count, few);
      waits =
          waiting-more (place + 1) w.log (entry_of pid plan)
          ∙ ap (λ (k : ℕ). waits_by (place + 1) (is_waiting (place + 1) w.log) (item_of plan.verdict) k (writes_of k plan.verdict plan.writes.items)) number
          ∙ waits-told plan.verdict served (place + 1) (is_waiting (place + 1) w.log) t.waited plan.writes.items h.since
          ∙ ap (λ (o : Option ℕ). is_asleep (served_after plan.verdict served) o) (sym new.waited);
      since =
          subst (λ (o : Option ℕ). IfSome o (λ x. x ≤ served_after plan.verdict served)) (sym new.waited)
          (since-served plan.verdict served t.waited h.since);
      running = λ lent. cc (ap (λ (o : Option ℕ). is_some o) out);
    }

other-task : (w : World) (served pid place k n : ℕ) (q : Process) (u : Task) (plan : CallPlan)
    → pid ≡ place + 1 → (k ≡ place → ⊥) → k < n → IfSome plan.child (IsNext n)
    → IsTask w served k u → IsTask (world_with w (planned w.sync pid q plan)) (served_after plan.verdict served) k u
other-task w served pid place k n q u plan number other within child h = record {
  number = h.number;
  trace = trace-other w.storage.committed w.log (entry_of pid plan) (k + 1) u.trace (λ same. other (omega arith)) (unmade plan.child n k child within) h.trace;
  budget = h.budget;
  waits =
      waiting-more (k + 1) w.log (entry_of pid plan)
      ∙ waits-other plan.verdict served (k + 1) pid (is_waiting (k + 1) w.log) u.waited plan.writes.items (λ same. other (omega arith)) h.since h.waits;
  since = since-more served (served_after plan.verdict served) u.waited (served-grows plan.verdict served) h.since;
  running = h.running;
}

child-waits : (v : Verdict) (p q : ℕ) (b : Bool) (cs : List Carrier) → is_some (item_of v) ≡ true → waits_by p b (item_of v) q (writes_of q v cs) ≡ false
child-waits Waits p q b cs h = cc
child-waits (Replies r) p q b cs h = refl
child-waits (Ends status) p q b cs h = refl

child-task : (w : World) (served pid place n : ℕ) (full : Bool) (q : Process) (t u : Task) (plan : CallPlan) (mark : ℕ)
    → pid ≡ place + 1 → IsFineTask t full → IfSome plan.child (IsNext n) → plan.child ≡ Some u.pid → is_some (item_of plan.verdict) ≡ true
    → IsMarkOf mark w.log (entry_of pid plan)
    → IsForked mark (machine_of t) t.trace u
    → IsTask w served place t → IsTask (world_with w (planned w.sync pid q plan)) (served_after plan.verdict served) n u
child-task w served pid place n full q t u plan mark number fine child is tells is_mark new h =
    let none : needed (out_of u) ≡ 0 = ap needed new.out in
    let count : (machine_of u).count ≡ (machine_of t).count + 1 = ap (λ (s : State). s.count) new.machine in
    let few : (machine_of t).count < 2 ^ 40 = fine.few in
    record {
      number = next-is plan.child n u.pid child is;
      trace = trace-forked w.storage.committed w.log (entry_of pid plan) (place + 1) (n + 1) mark (machine_of t) t.trace u
          number (made-last plan.child n u.pid child is) is_mark new h.trace;
      budget = omega (arith, none, count, few);
      waits =
          waiting-more (n + 1) w.log (entry_of pid plan)
          ∙ child-waits plan.verdict (n + 1) pid (is_waiting (n + 1) w.log) plan.writes.items tells
          ∙ ap (λ (o : Option ℕ). is_asleep (served_after plan.verdict served) o) (sym new.waited);
      since = subst (λ (o : Option ℕ). IfSome o (λ x. x ≤ served_after plan.verdict served)) (sym new.waited) tt;
      running = λ lent. forked-runs mark (machine_of t) t.trace u fine.running new;
    }

-- ---- the list of them
process-made : (number : Option ℕ) (mark : ℕ) (q : Process) (t : Task) (o : Option Task) → q.state ≡ machine_of t → status_of t ≡ None
    → MakesTask number mark (machine_of t) t.trace o → map process_of (option_to_list o) ≡ map bare (forked q number)
process-made number mark q t None state running made = ap (λ (x : Option ℕ). map bare (forked q x)) (sym made)
process-made number mark q t (Some u) state running made =
    ap (λ (s : State). record { state = s; descriptors = []; children = []; status = status_of u } ∷ [])
    (made.1.machine ∙ ap (λ (s : State). replied s zero_reply) (sym state))
    ∙ ap (λ (x : Option ℕ). record { state = replied q.state zero_reply; descriptors = []; children = []; status = x } ∷ [])
    (forked-runs mark (machine_of t) t.trace u running made.1)
    ∙ ap (λ (x : Option ℕ). map bare (forked q x)) (sym made.0)

-- the made process is that which its plan names
child-is : (number : Option ℕ) (mark : ℕ) (s : State) (r : Withheld Item) (o : Option Task) (u : Task) → o ≡ Some u → MakesTask number mark s r o
    → (number ≡ Some u.pid) × IsForked mark s r u
child-is number mark s r o u is made = let P : Option Task → Type 0 = λ x. MakesTask number mark s r x in subst P is made

pub told-tasks : (w : World) (served : ℕ) (tasks : List Task) (pid place : ℕ) (full : Bool) (t t' : Task) (plan : CallPlan) (mark : ℕ) (child : Option Task)
    → pid ≡ place + 1 → slice_get tasks place ≡ Some t → IsFineTask t full → (of : IsProcessOf w.sync.processes pid t)
    → IfSome plan.child (IsNext (length tasks))
    → (is_some plan.child ≡ true → is_some (item_of plan.verdict) ≡ true)
    → IsMarkOf mark w.log (entry_of pid plan)
    → IsTold plan.verdict mark served t t'
    → MakesTask plan.child mark (machine_of t) t.trace child
    → AreTasks w served tasks
    → AreTasks (world_with w (planned w.sync pid of.process plan)) (served_after plan.verdict served) (slice_set tasks place t' ++ option_to_list child)
told-tasks w served tasks pid place full t t' plan mark child number there fine of next tells is_mark new made h =
    let q : Process = of.process in
    let v : World = world_with w (planned w.sync pid q plan) in
    let after : ℕ = served_after plan.verdict served in
    let is_suc : pid ≡ suc place = omega arith in
    let size : length (slice_set tasks place t') ≡ length tasks = length-set tasks place t' in
    let running : q.status ≡ None = of.status ∙ fine.running in
    record {
      processes =
          map-append process_of (slice_set tasks place t') (option_to_list child)
          ∙ ap (λ (ps : List Process). ps ++ map process_of (option_to_list child))
          (map-set process_of tasks place t'
          ∙ ap (λ (ps : List Process). slice_set ps place (process_of t')) h.processes
          ∙ ap (λ (p : Process). slice_set (map bare w.sync.processes) place p) (process-told q t t' full plan mark served fine of.state running new)
          ∙ sym (map-set bare w.sync.processes place (process_after q plan))
          ∙ ap (λ n. map bare (put_process w.sync.processes n (process_after q plan))) (sym is_suc))
          ∙ ap (λ (ps : List Process). map bare (put_process w.sync.processes pid (process_after q plan)) ++ ps)
          (process-made plan.child mark q t child of.state fine.running made)
          ∙ sym (map-append bare (put_process w.sync.processes pid (process_after q plan)) (forked q plan.child));
      each = λ k u at. elim (get-joined (slice_set tasks place t') child k u at) as (λ _. IsTask v after k u) [
        | inl g ↦ elim (get-set tasks place k t' u g) as (λ _. IsTask v after k u) [
          | inl s ↦
              subst (λ (x : Task). IsTask v after k x) (sym s.1)
              (subst (λ (j : ℕ). IsTask v after j t') (sym s.0)
              (told-task w served pid place (length tasks) full q t t' plan mark number (slice_get_within tasks place t there) fine next is_mark new (h.each place t there)))
          | inr s ↦ other-task w served pid place k (length tasks) q u plan number s.0 (slice_get_within tasks k u s.1) next (h.each k u s.1)
        ]
        | inr g ↦
            (let one = child-is plan.child mark (machine_of t) t.trace child u g.1 made in
            subst (λ (j : ℕ). IsTask v after j u) (sym (g.0 ∙ size))
            (child-task w served pid place (length tasks) full q t u plan mark number fine next one.0
            (tells (ap (λ (o : Option ℕ). is_some o) one.0)) is_mark one.1 (h.each place t there)))
      ];
    }
