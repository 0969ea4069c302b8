-- What an accepted event does to what every core keeps.
use Rattle.std.proofs.Common.{◌≡◌, ℕ, zero, suc, ◌+◌, ◌*◌, ◌<◌, ◌≤◌, Bool, true, false, ◌||◌, not, nat_lt, nat_le, List, [], ◌∷◌, ◌++◌, length, map, slice_get, Option, Some, None, is_some, is_none, refl, sym, ap, subst, ◌∙◌, arith}
use Rattle.std.specs.Prelude.{if◌then◌else◌, cond, count_by}
use Rattle.std.specs.List.{AllByRecursion}
use Rattle.std.proofs.lemmas.Bool.{leb-false, lt-leb}
use Rattle.std.proofs.lemmas.List.{append_assoc, append-nil}
use Rattle.std.proofs.lemmas.List.Sums.{sum_by-cons}
use Rattle.std.proofs.lemmas.Option.{slice_get_within}
use Rattle.disk_model.specs.Storage.{is_empty, piece_at}
use Rattle.machine_model.specs.States.{stopped_at}
use Rattle.kernel_model.specs.Answers.{Kernel, Lending, AllAccepted, at_boot, Test, ◌⇒◌, first_of, now, process_of, refusal, turn_refusal, enter_refusal, cut_refusal, write_refusal, has_ended, is_stopped, count_at, limit, is_lent, is_full, lending_at, quantum_out, loans_out, uncommitted, never_lent, with_child, with_event, with_events}
use Rattle.kernel_model.specs.Loans.{LoanResult, events_of, settled_answer, outcome_after}
use Rattle.kernel_model.specs.Rows.{most_processes}
use Rattle.kernel_model.specs.State.{Process, process_at}
use Rattle.kernel_model.specs.Steps.{step}
use Rattle.kernel_model.specs.World.{World, BootProgram, Boot, first_world, after}
use Rattle.kernel_model.specs.declared.answer.Answer.TheVariants as answer_of
use Rattle.kernel_model.specs.declared.answer.Refused.{Refused}
use Rattle.kernel_model.specs.declared.answer.Refused.TheVariants as refused
use Rattle.kernel_model.specs.declared.event.Event.{Event}
use Rattle.kernel_model.specs.declared.event.Event.TheVariants.{Turn, Enter, Cut, Complete, Fail}
use Rattle.kernel.specs.Sums.{process_of_turn, process_of_enter, sum_of_turns, sum_of_enters, tells_enter}
use Rattle.kernel.proofs.Applying.{accepted-more}

-- ---- a core of which nothing was ever lent
abbrev AreHere : List Lending → Type 0
AreHere lendings = AllByRecursion (λ (l : Lending). l.out ≡ None) lendings

here-first : (ps : List BootProgram) → AreHere (map (λ p. never_lent) ps)
here-first [] = tt
here-first (p ∷ ps) = (refl, here-first ps)

here-append : (ls : List Lending) → AreHere ls → AreHere (ls ++ never_lent ∷ [])
here-append [] h = (refl, tt)
here-append (l ∷ ls) h = (h.0, here-append ls h.1)

here-child : (ls : List Lending) (child : Option ℕ) → AreHere ls → AreHere (with_child ls child)
here-child ls None h = h
here-child ls (Some child) h = here-append ls h

-- such a core, of this boot and this history
record IsUnlent (b : Boot) (events : List Event) (k : Kernel) : Type 0 where
  boot : k.boot ≡ b
  history : k.history ≡ events
  here : AreHere k.lendings

unlent-event : (b : Boot) (history : List Event) (k : Kernel) (e : Event) → IsUnlent b history k → IsUnlent b (history ++ e ∷ []) (with_event k e)
unlent-event b history k e h = record {
  boot = h.boot;
  history = ap (λ es. es ++ e ∷ []) h.history;
  here = here-child k.lendings (step (now k).sync e).entry.child h.here;
}

unlent-events : (b : Boot) (history : List Event) (k : Kernel) (es : List Event) → IsUnlent b history k → IsUnlent b (history ++ es) (with_events k es)
unlent-events b history k [] h = subst (λ (xs : List Event). IsUnlent b xs k) (sym (append-nil history)) h
unlent-events b history k (e ∷ es) h =
    subst (λ (xs : List Event). IsUnlent b xs (with_events (with_event k e) es)) (append_assoc history (e ∷ []) es)
    (unlent-events b (history ++ e ∷ []) (with_event k e) es (unlent-event b history k e h))

unlent-from-boot : (b : Boot) (es : List Event) → IsUnlent b es (with_events (at_boot b) es)
unlent-from-boot b es = unlent-events b [] (at_boot b) es (record { boot = refl; history = refl; here = here-first b.programs })

out-at : (ls : List Lending) (n : ℕ) → AreHere ls → quantum_out (slice_get ls n) ≡ None
out-at [] n h = refl
out-at (l ∷ ls) zero h = h.0
out-at (l ∷ ls) (suc n) h = out-at ls n h.1

unlent-at : (ls : List Lending) (pid : ℕ) → AreHere ls → is_some (quantum_out (lending_at ls pid)) ≡ false
unlent-at ls zero h = refl
unlent-at ls (suc n) h = ap (λ (o : Option ℕ). is_some o) (out-at ls n h)

count-here : (ls : List Lending) → AreHere ls → count_by (λ (l : Lending). is_some l.out) ls ≡ 0
count-here [] h = refl
count-here (l ∷ ls) h =
    let weight : Lending → ℕ = λ (l : Lending). cond (is_some l.out) 1 0 in
    let none : weight l ≡ 0 = ap (λ (o : Option ℕ). cond {A = ℕ} (is_some o) 1 0) h.0 in
    let rest = count-here ls h.1 in
    sum_by-cons weight l ls ∙ omega (arith, none, rest)

-- ---- what is accepted of a core is accepted where nothing was lent
or-false : (a b c : Bool) → (b ≡ false → c ≡ false) → (a || b) ≡ false → (a || c) ≡ false
or-false true b c f h = cc
or-false false b c f h = f h

-- a test that fails may be put in place of another one, and none of them holds still
skip : (t u : Bool) (why : Refused) (ts us : List Test) → (t ≡ false → u ≡ false) → (first_of ts ≡ None → first_of us ≡ None)
    → first_of ((t ⇒ why) ∷ ts) ≡ None → first_of ((u ⇒ why) ∷ us) ≡ None
skip true u why ts us f g h = cc
skip false u why ts us f g h = ap (λ (v : Bool). if v then Some why else first_of us) (f refl) ∙ g h

same-test : (t : Bool) → t ≡ false → t ≡ false
same-test t h = h

unlent-turn : (p : Option Process) (lent full unlent roomy : Bool) (n : ℕ) → unlent ≡ false → (full ≡ false → roomy ≡ false)
    → turn_refusal p lent full n ≡ None → turn_refusal p unlent roomy n ≡ None
unlent-turn p lent full unlent roomy n none room h =
    let budget : Bool → List Test = λ full. (nat_lt limit (count_at p + n) || full ⇒ refused.Budget) ∷ [] in
    let lends : Bool → Bool → List Test = λ lent full. (lent ⇒ refused.Lent) ∷ budget full in
    let ends : Bool → Bool → List Test = λ lent full. (has_ended p ⇒ refused.Ended) ∷ lends lent full in
    skip (is_none p) (is_none p) refused.NoProcess (ends lent full) (ends unlent roomy) (same-test (is_none p))
    (skip (has_ended p) (has_ended p) refused.Ended (lends lent full) (lends unlent roomy) (same-test (has_ended p))
    (skip lent unlent refused.Lent (budget full) (budget roomy) (λ was. none)
    (skip (nat_lt limit (count_at p + n) || full) (nat_lt limit (count_at p + n) || roomy) refused.Budget [] [] (or-false (nat_lt limit (count_at p + n)) full roomy room) (λ z. z)))) h

unlent-enter : (p : Option Process) (lent full unlent roomy : Bool) → unlent ≡ false → (full ≡ false → roomy ≡ false)
    → enter_refusal p lent full ≡ None → enter_refusal p unlent roomy ≡ None
unlent-enter p lent full unlent roomy none room h =
    let budget : Bool → List Test = λ full. (nat_le limit (count_at p) || full ⇒ refused.Budget) ∷ [] in
    let stops : Bool → List Test = λ full. (not (is_stopped p) ⇒ refused.NotStopped) ∷ budget full in
    let lends : Bool → Bool → List Test = λ lent full. (lent ⇒ refused.Lent) ∷ stops full in
    let ends : Bool → Bool → List Test = λ lent full. (has_ended p ⇒ refused.Ended) ∷ lends lent full in
    skip (is_none p) (is_none p) refused.NoProcess (ends lent full) (ends unlent roomy) (same-test (is_none p))
    (skip (has_ended p) (has_ended p) refused.Ended (lends lent full) (lends unlent roomy) (same-test (has_ended p))
    (skip lent unlent refused.Lent (stops full) (stops roomy) (λ was. none)
    (skip (not (is_stopped p)) (not (is_stopped p)) refused.NotStopped (budget full) (budget roomy) (same-test (not (is_stopped p)))
    (skip (nat_le limit (count_at p) || full) (nat_le limit (count_at p) || roomy) refused.Budget [] [] (or-false (nat_le limit (count_at p)) full roomy room) (λ z. z))))) h

same-run : (k m : Kernel) → m.boot ≡ k.boot → m.history ≡ k.history → now m ≡ now k
same-run k m boot history =
    ap (λ (b : Boot). after (first_world b) m.history) boot ∙ ap (λ (es : List Event). after (first_world k.boot) es) history

unlent-write : (k m : Kernel) (at : ℕ) → m.boot ≡ k.boot → m.history ≡ k.history → (is_full k ≡ false → is_full m ≡ false)
    → write_refusal (now k).storage at (is_full k) ≡ None → write_refusal (now m).storage at (is_full m) ≡ None
unlent-write k m at boot history room h =
    let rest : List Test = (is_none (piece_at (now k).storage.device.in_flight at) ⇒ refused.NoSuchWrite) ∷ [] in
    subst (λ (w : World). write_refusal w.storage at (is_full m) ≡ None) (sym (same-run k m boot history))
    (skip (is_full k) (is_full m) refused.Budget rest rest room (λ z. z) h)

-- with nothing lent there is room where there was room
room-unlent : (k m : Kernel) → m.history ≡ k.history → AreHere m.lendings → is_full k ≡ false → is_full m ≡ false
room-unlent k m history here room =
    let few : length k.history + 2 * loans_out k < limit = leb-false limit (length k.history + 2 * loans_out k) room in
    let none : loans_out m ≡ 0 = count-here m.lendings here in
    let same : length m.history ≡ length k.history = ap (λ (es : List Event). length es) history in
    lt-leb limit (length m.history + 2 * loans_out m) (omega (arith, few, none, same))

-- the same of two cores with the same run
unlent-refusal : (k m : Kernel) (e : Event) → m.boot ≡ k.boot → m.history ≡ k.history → AreHere m.lendings → (is_full k ≡ false → is_full m ≡ false)
    → refusal k e ≡ None → refusal m e ≡ None
unlent-refusal k m (Turn pid n) boot history here room h =
    let same = same-run k m boot history in
    let fine : turn_refusal (process_of k pid) (is_lent m pid) (is_full m) n ≡ None =
    unlent-turn (process_of k pid) (is_lent k pid) (is_full k) (is_lent m pid) (is_full m) n (unlent-at m.lendings pid here) room h in
    subst (λ (w : World). turn_refusal (process_at w.sync.processes pid) (is_lent m pid) (is_full m) n ≡ None) (sym same) fine
unlent-refusal k m (Enter pid) boot history here room h =
    let same = same-run k m boot history in
    let fine : enter_refusal (process_of k pid) (is_lent m pid) (is_full m) ≡ None =
    unlent-enter (process_of k pid) (is_lent k pid) (is_full k) (is_lent m pid) (is_full m) (unlent-at m.lendings pid here) room h in
    subst (λ (w : World). enter_refusal (process_at w.sync.processes pid) (is_lent m pid) (is_full m) ≡ None) (sym same) fine
unlent-refusal k m Cut boot history here room h =
    let same = same-run k m boot history in
    let st = (now k).storage in
    let last : List Test = (is_empty (uncommitted (now k)) ⇒ refused.NothingToCut) ∷ [] in
    let flies : List Test = (not (is_empty st.device.in_flight) ⇒ refused.GroupInFlight) ∷ last in
    let fails : List Test = (not (is_empty st.device.failed) ⇒ refused.DiskFailed) ∷ flies in
    let fine : cut_refusal (now k).storage (uncommitted (now k)) (is_full m) ≡ None =
    skip (is_full k) (is_full m) refused.Budget fails fails room (λ z. z) h in
    subst (λ (w : World). cut_refusal w.storage (uncommitted w) (is_full m) ≡ None) (sym same) fine
unlent-refusal k m (Complete at) boot history here room h = unlent-write k m at boot history room h
unlent-refusal k m (Fail at) boot history here room h = unlent-write k m at boot history room h

-- an event that is accepted of a core is accepted of one with its boot and its history of which nothing was ever lent
pub accepted-unlent : (k : Kernel) (e : Event) → refusal k e ≡ None → refusal (with_events (at_boot k.boot) k.history) e ≡ None
accepted-unlent k e h =
    let m : Kernel = with_events (at_boot k.boot) k.history in
    let of = unlent-from-boot k.boot k.history in
    unlent-refusal k m e of.boot of.history of.here (room-unlent k m of.history of.here) h

pub accepted-from-boot : (k : Kernel) (es : List Event) → AllAccepted (at_boot k.boot) k.history → AllAccepted k es → AllAccepted (at_boot k.boot) (k.history ++ es)
accepted-from-boot k [] h fine = subst (λ (xs : List Event). AllAccepted (at_boot k.boot) xs) (sym (append-nil k.history)) h
accepted-from-boot k (e ∷ es) h fine =
    subst (λ (xs : List Event). AllAccepted (at_boot k.boot) xs) (append_assoc k.history (e ∷ []) es)
    (accepted-from-boot (with_event k e) es (accepted-more (at_boot k.boot) k.history e h (accepted-unlent k e fine.0)) fine.1)

-- ---- process numbers
number-within : (ps : List Process) (pid : ℕ) → is_none (process_at ps pid) ≡ false → pid ≤ length ps
number-within ps zero there = cc
number-within ps (suc n) there = within (slice_get ps n) refl there
  where
    within : (o : Option Process) → slice_get ps n ≡ o → is_none o ≡ false → suc n ≤ length ps
    within None at some = cc
    within (Some p) at some = let less = slice_get_within ps n p at in omega (arith, less)

first-fails : (t : Bool) (why : Refused) (ts : List Test) → first_of ((t ⇒ why) ∷ ts) ≡ None → t ≡ false
first-fails true why ts h = cc
first-fails false why ts h = refl

-- the process of an accepted event is one of the processes
pub number-few : (k : Kernel) (e : Event) → length (now k).sync.processes ≤ most_processes → refusal k e ≡ None → process_of_turn e + process_of_enter e ≤ most_processes
number-few k (Turn pid n) few h =
    let p : Option Process = process_of k pid in
    let rest : List Test =
    (has_ended p ⇒ refused.Ended) ∷ (is_lent k pid ⇒ refused.Lent) ∷ (nat_lt limit (count_at p + n) || is_full k ⇒ refused.Budget) ∷ [] in
    let within = number-within (now k).sync.processes pid (first-fails (is_none p) refused.NoProcess rest h) in
    omega (arith, within, few)
number-few k (Enter pid) few h =
    let p : Option Process = process_of k pid in
    let rest : List Test =
    (has_ended p ⇒ refused.Ended) ∷ (is_lent k pid ⇒ refused.Lent) ∷ (not (is_stopped p) ⇒ refused.NotStopped)
    ∷ (nat_le limit (count_at p) || is_full k ⇒ refused.Budget) ∷ [] in
    let within = number-within (now k).sync.processes pid (first-fails (is_none p) refused.NoProcess rest h) in
    omega (arith, within, few)
number-few k Cut few h = omega (arith, few)
number-few k (Complete at) few h = omega (arith, few)
number-few k (Fail at) few h = omega (arith, few)

-- ---- the sums of a result's events
pub turns-of : (r : LoanResult) → sum_of_turns (events_of r) ≡ r.process
turns-of r = by (is_some (stopped_at r.reached.state))
  where
    by : (b : Bool) → sum_of_turns (Turn r.process r.reached.count ∷ (if b then Enter r.process ∷ [] else [])) ≡ r.process
    by true = omega arith
    by false = omega arith

pub enters-of : (k : Kernel) (r : LoanResult) → sum_of_enters (events_of r) ≡ (if tells_enter (settled_answer k r) then r.process else 0)
enters-of k r = by (is_some (stopped_at r.reached.state))
  where
    by : (b : Bool) → sum_of_enters (Turn r.process r.reached.count ∷ (if b then Enter r.process ∷ [] else []))
        ≡ (if tells_enter (answer_of.Settled r.reached.count r.reached.stop (if b then Some (outcome_after k r.process r.reached.count) else None)) then r.process else 0)
    by true = omega arith
    by false = refl
