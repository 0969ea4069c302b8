-- What one more event of a run leaves of what its core keeps.
use Rattle.std.proofs.Common.{◌≡◌, ℕ, zero, suc, ◌+◌, ◌-◌, ◌<◌, ◌≤◌, ◌==◌, ◌&&◌, Bool, true, false, nat_lt, List, [], ◌∷◌, ◌++◌, length, map, drop, take, slice_get, get_or, Option, Some, None, is_some, option_to_list, refl, sym, ap, subst, ◌∙◌, arith}
use Rattle.std.specs.Prelude.{if◌then◌else◌, unwrap_or}
use Rattle.std.proofs.lemmas.Bool.{lt-ltb, le-ltb, ltb-true, eqb-true, eq-eqb}
use Rattle.std.proofs.lemmas.List.{length-map, length-append}
use Rattle.std.proofs.Math.Seq.{drop-append_seam, take-append_seam, get_or-append_seam}
use Rattle.disk_model.specs.declared.change.Change.{Change}
use Rattle.machine_model.specs.declared.reply.Reply.{Reply}
use Rattle.footprints.specs.Footprints.{footprint_of, footprint_by, enters_among, enter_count, AreFootprints}
use Rattle.footprints.specs.Kept.{footprint, no_footprint}
use Rattle.footprints.proofs.Logs.{footprint_at, after_length, enters_grown}
use Rattle.kernel_model.specs.Answers.{Kernel, now, with_event, refusal, enter_refusal, is_lent, is_full, entered, outcome_of, terminals, answer, process_of}
use Rattle.kernel_model.specs.Entries.{Entry, Item, Got, End}
use Rattle.kernel_model.specs.Paths.{changes_in_log}
use Rattle.kernel_model.specs.Rows.{CallEffect, status_in}
use Rattle.kernel_model.specs.Shown.{Given, printed, bytes_for, told, is_made, items_for, replies_in, given_by}
use Rattle.kernel_model.specs.State.{SyncState, Process, process_at, put_process, with_process}
use Rattle.kernel_model.specs.Steps.{Transition, step, after_effect, after_end, after_reply, after_run, after_turn, impossible, own_entry, forked, zero_reply}
use Rattle.kernel_model.specs.Views.{contents}
use Rattle.kernel_model.specs.World.{World, terminal_count}
use Rattle.kernel_model.specs.declared.answer.Answer.{Answer}
use Rattle.kernel_model.specs.declared.answer.Answer.TheVariants as answer_of
use Rattle.kernel_model.specs.declared.carrier.Carrier.{Carrier}
use Rattle.kernel_model.specs.declared.carrier.Carrier.TheVariants.{Proc}
use Rattle.kernel_model.specs.declared.effect.Output.{Output}
use Rattle.kernel_model.specs.declared.event.Event.{Event}
use Rattle.kernel_model.specs.declared.event.Event.TheVariants.{Turn, Enter, Cut, Complete, Fail}
use Rattle.kernel_model.specs.declared.request.Request.{Request}
use Rattle.kernel_model.specs.declared.request.Verdict.{Verdict}
use Rattle.kernel_model.specs.declared.request.Verdict.TheVariants.{Waits, Replies, Ends}
use Rattle.kernel_model.proofs.ChildRows.{IsNoneOrNextProcess, call_next}
use Rattle.kernel_model.proofs.Runs.{now-with_event, printed-entry, told-entry, changes_in_log-entry, contents-append, contents-given_by}
use Rattle.kernel_model.proofs.Transitions.{OfEachEvent, call_of, each_event, of_step, of_turn, of_enter}
use Rattle.kernel_laws.proofs.Children.{step_not_made}
use Rattle.kernel_laws.proofs.Handed.{step_long}
use Rattle.kernel_laws.proofs.Parts.{made_by}
use Rattle.kernel_laws.proofs.Processes.{at_same, at_append}
use Rattle.processes.specs.Parts.{Part, part_of, statuses_of}
use Rattle.run_events.specs.Records.{seen, seen_output, process_in, call_site, request, record_of}
use Rattle.run_events.specs.declared.call_site.CallSite.{CallSite}

-- ---- the log
pub log-grown : (k : Kernel) (e : Event) → (now (with_event k e)).log ≡ (now k).log ++ (step (now k).sync e).entry ∷ []
log-grown k e = ap (λ (w : World). w.log) (now-with_event k e)

pub sync-grown : (k : Kernel) (e : Event) → (now (with_event k e)).sync ≡ (step (now k).sync e).state
sync-grown k e = ap (λ (w : World). w.sync) (now-with_event k e)

-- ---- a change
at-seam : {A : Type 0} (xs : List A) (o : Option A) → slice_get (xs ++ option_to_list o) (length xs) ≡ o
at-seam [] None = refl
at-seam [] (Some y) = refl
at-seam (x ∷ xs) o = at-seam xs o

pub change-last : (log : List Entry) (x : Entry) (cs : List Change) (n : ℕ) → cs ≡ changes_in_log (log ++ x ∷ []) → n ≡ length (changes_in_log log) → n < length cs
    → slice_get cs (length cs - 1) ≡ x.change
change-last log x cs n all were more =
    let one : cs ≡ changes_in_log log ++ option_to_list x.change = all ∙ changes_in_log-entry log x in
    ap (λ (ds : List Change). slice_get ds (length ds - 1)) one ∙ by x.change (subst (λ (ds : List Change). n < length ds) one more)
  where
    by : (o : Option Change) → n < length (changes_in_log log ++ option_to_list o)
        → slice_get (changes_in_log log ++ option_to_list o) (length (changes_in_log log ++ option_to_list o) - 1) ≡ o
    by None less = absurd (let no : ⊥ = omega (arith, less, were, length-append (changes_in_log log) []) in no)
    by (Some c) less =
        let place : length (changes_in_log log ++ c ∷ []) - 1 ≡ length (changes_in_log log) = omega (arith, length-append (changes_in_log log) (c ∷ [])) in
        ap (λ (i : ℕ). slice_get (changes_in_log log ++ c ∷ []) i) place ∙ at-seam (changes_in_log log) (Some c)

pub no-change : (log : List Entry) (x : Entry) (cs : List Change) (n : ℕ) → cs ≡ changes_in_log (log ++ x ∷ []) → n ≡ length (changes_in_log log)
    → (n < length cs → ⊥) → None ≡ x.change
no-change log x cs n all were none =
    let one : cs ≡ changes_in_log log ++ option_to_list x.change = all ∙ changes_in_log-entry log x in
    by x.change (subst (λ (ds : List Change). n < length ds → ⊥) one none)
  where
    by : (o : Option Change) → (n < length (changes_in_log log ++ option_to_list o) → ⊥) → None ≡ o
    by None not = refl
    by (Some c) not = absurd (not (omega (arith, were, length-append (changes_in_log log) (c ∷ []))))

pub change-since : (log : List Entry) (x : Entry) → slice_get (changes_in_log (log ++ x ∷ [])) (length (changes_in_log log)) ≡ x.change
change-since log x = ap (λ (cs : List Change). slice_get cs (length (changes_in_log log))) (changes_in_log-entry log x) ∙ at-seam (changes_in_log log) x.change

-- ---- an output
contents-length : {A : Type 0} (xs : List (Given A)) → length (contents xs) ≡ length xs
contents-length xs = length-map xs (λ g. g.what)

pub written-grown : (t : ℕ) (log : List Entry) (x : Entry) → contents (printed t (log ++ x ∷ [])) ≡ contents (printed t log) ++ bytes_for t x.output
written-grown t log x =
    ap (λ (gs : List (Given ℕ)). contents gs) (printed-entry t log x)
    ∙ contents-append (printed t log) (given_by log x (bytes_for t x.output))
    ∙ ap (λ (ys : List ℕ). contents (printed t log) ++ ys) (contents-given_by log x (bytes_for t x.output))

pub bytes-since : (t : ℕ) (log : List Entry) (x : Entry) → drop (length (printed t log)) (contents (printed t (log ++ x ∷ []))) ≡ bytes_for t x.output
bytes-since t log x =
    ap (λ (ys : List ℕ). drop (length (printed t log)) ys) (written-grown t log x)
    ∙ ap (λ (n : ℕ). drop n (contents (printed t log) ++ bytes_for t x.output)) (sym (contents-length (printed t log)))
    ∙ drop-append_seam (contents (printed t log)) (bytes_for t x.output)

pub written-long : (t : ℕ) (log : List Entry) (x : Entry)
    → length (contents (printed t (log ++ x ∷ []))) ≡ length (printed t log) + length (bytes_for t x.output)
written-long t log x =
    let all = ap (λ (ys : List ℕ). length ys) (written-grown t log x) in
    omega (arith, all, length-append (contents (printed t log)) (bytes_for t x.output), contents-length (printed t log))

nothing-seen : (b c : Bool) (out : Output) → c ≡ false → None ≡ (if b && c then Some out else None)
nothing-seen true c out h = ap (λ (d : Bool). if d then Some out else None) (sym h)
nothing-seen false c out h = refl

seen-if : (b c : Bool) (out : Output) → b ≡ true → c ≡ true → Some out ≡ (if b && c then Some out else None)
seen-if b c out h g = ap (λ (d : Bool). if d then Some out else None) (sym (ap (λ (x : Bool). x && c) h ∙ g))

-- more bytes stand on a terminal: they are the output
pub seen-is : (t : ℕ) (o : Option Output) → t < terminal_count → 0 < length (bytes_for t o) → Some (record { terminal = t; bytes = bytes_for t o }) ≡ seen_output o
seen-is t None below some = absurd (let no : ⊥ = omega (arith, some) in no)
seen-is t (Some out) below some = by (out.terminal == t) refl
  where
    by : (b : Bool) → (out.terminal == t) ≡ b → Some (record { terminal = t; bytes = bytes_for t (Some out) }) ≡ seen_output (Some out)
    by true is =
        let here : out.terminal ≡ t = eqb-true out.terminal t is in
        let bytes : bytes_for t (Some out) ≡ out.bytes = ap (λ (b : Bool). if b then out.bytes else []) is in
        let many : length (bytes_for t (Some out)) ≡ length out.bytes = ap (λ (ys : List ℕ). length ys) bytes in
        ap (λ (n : ℕ). Some (record { terminal = n; bytes = bytes_for t (Some out) })) (sym here)
        ∙ ap (λ (ys : List ℕ). Some (record { terminal = out.terminal; bytes = ys })) bytes
        ∙ seen-if (nat_lt out.terminal terminal_count) (nat_lt 0 (length out.bytes)) out
        (lt-ltb out.terminal terminal_count (omega (arith, here, below))) (lt-ltb 0 (length out.bytes) (omega (arith, many, some)))
    by false is =
        let bytes : bytes_for t (Some out) ≡ [] = ap (λ (b : Bool). if b then out.bytes else []) is in
        let many : length (bytes_for t (Some out)) ≡ 0 = ap (λ (ys : List ℕ). length ys) bytes in
        absurd (let no : ⊥ = omega (arith, many, some) in no)

-- on no terminal stand more bytes: there is no output to be seen
pub unseen-is : (o : Option Output) → ((t : ℕ) → t < terminal_count → length (bytes_for t o) ≡ 0) → None ≡ seen_output o
unseen-is None h = refl
unseen-is (Some out) h = by (nat_lt out.terminal terminal_count) refl
  where
    by : (b : Bool) → nat_lt out.terminal terminal_count ≡ b → None ≡ seen_output (Some out)
    by true is =
        let none = h out.terminal (ltb-true out.terminal terminal_count is) in
        let bytes : bytes_for out.terminal (Some out) ≡ out.bytes = ap (λ (b : Bool). if b then out.bytes else []) (eq-eqb out.terminal out.terminal refl) in
        let many = ap (λ (ys : List ℕ). length ys) bytes in
        nothing-seen (nat_lt out.terminal terminal_count) (nat_lt 0 (length out.bytes)) out (le-ltb 0 (length out.bytes) (omega (arith, none, many)))
    by false is = ap (λ (b : Bool). if b && nat_lt 0 (length out.bytes) then Some out else None) (sym is)

at-terminal : (f : ℕ → ℕ) (t : ℕ) → t < 8 → get_or (map f terminals) t 0 ≡ f t
at-terminal f zero h = refl
at-terminal f (suc zero) h = refl
at-terminal f (suc (suc zero)) h = refl
at-terminal f (suc (suc (suc zero))) h = refl
at-terminal f (suc (suc (suc (suc zero)))) h = refl
at-terminal f (suc (suc (suc (suc (suc zero))))) h = refl
at-terminal f (suc (suc (suc (suc (suc (suc zero)))))) h = refl
at-terminal f (suc (suc (suc (suc (suc (suc (suc zero))))))) h = refl
at-terminal f (suc (suc (suc (suc (suc (suc (suc (suc t)))))))) h = absurd (let no : ⊥ = omega (arith, h) in no)

-- more stands on a terminal than before: that is the output
pub printed-is : (all log : List Entry) (x : Entry) (t : ℕ) (lengths written bytes : List ℕ) → all ≡ log ++ x ∷ [] → lengths ≡ map (λ t. length (printed t log)) terminals
    → t < terminal_count → written ≡ contents (printed t all) → get_or lengths t 0 < length written → bytes ≡ drop (get_or lengths t 0) written
    → Some (record { terminal = t; bytes = bytes }) ≡ seen_output x.output
printed-is all log x t lengths written bytes grown were below is more rest =
    let before : get_or lengths t 0 ≡ length (printed t log) = ap (λ (ns : List ℕ). get_or ns t 0) were ∙ at-terminal (λ t. length (printed t log)) t below in
    let here : written ≡ contents (printed t (log ++ x ∷ [])) = is ∙ ap (λ (es : List Entry). contents (printed t es)) grown in
    let new : bytes ≡ bytes_for t x.output =
    rest ∙ ap (λ (n : ℕ). drop n written) before ∙ ap (λ (ys : List ℕ). drop (length (printed t log)) ys) here ∙ bytes-since t log x in
    let many : length written ≡ length (printed t log) + length (bytes_for t x.output) = ap (λ (ys : List ℕ). length ys) here ∙ written-long t log x in
    ap (λ (ys : List ℕ). Some (record { terminal = t; bytes = ys })) new ∙ seen-is t x.output below (omega (arith, before, many, more))

-- no more stands on any
pub unprinted-is : (all log : List Entry) (x : Entry) (end : ℕ) (lengths : List ℕ) → all ≡ log ++ x ∷ [] → lengths ≡ map (λ t. length (printed t log)) terminals
    → terminal_count ≤ end → ((t : ℕ) → t < end → length (contents (printed t all)) ≤ get_or lengths t 0) → None ≡ seen_output x.output
unprinted-is all log x end lengths grown were past none = unseen-is x.output (λ t below.
    let before : get_or lengths t 0 ≡ length (printed t log) = ap (λ (ns : List ℕ). get_or ns t 0) were ∙ at-terminal (λ t. length (printed t log)) t below in
    let many : length (contents (printed t all)) ≡ length (printed t log) + length (bytes_for t x.output) =
    ap (λ (es : List Entry). length (contents (printed t es))) grown ∙ written-long t log x in
    let less = none t (omega (arith, below, past)) in
    omega (arith, before, many, less))

-- ---- a process that is made
effect_next : (s : SyncState) (q : ℕ) (y : Process) (e : CallEffect) (v : Verdict) → IsNoneOrNextProcess (length s.processes) e.child
    → IsNoneOrNextProcess (length s.processes) (after_effect s q y e v).entry.child
effect_next s q y e Waits next = tt
effect_next s q y e (Replies r) next = next
effect_next s q y e (Ends status) next = tt

pub step_next : (s : SyncState) (e : Event) → IsNoneOrNextProcess (length s.processes) (step s e).entry.child
step_next s e = of_step (λ (t : Transition). IsNoneOrNextProcess (length s.processes) t.entry.child) s tt (λ q. record {
  cannot = tt;
  turns = λ n y at lives. tt;
  calls = λ y at lives stands. effect_next s q y (call_of s q y) (call_of s q y).verdict (call_next s q y);
  traps = λ y cause at lives stands. tt;
}) e

made-since : (old new : ℕ) (o : Option ℕ) → new ≡ old + made_by o → IsNoneOrNextProcess old o → old < new → Some new ≡ o
made-since old new None many next more = absurd (let no : ⊥ = omega (arith, many, more) in no)
made-since old new (Some c) many next more = ap (λ (n : ℕ). Some n) (omega (arith, many, next.0))

unmade-since : (old new : ℕ) (o : Option ℕ) → new ≡ old + made_by o → (old < new → ⊥) → None ≡ o
unmade-since old new None many none = refl
unmade-since old new (Some c) many none = absurd (none (omega (arith, many)))

pub child-since : (k : Kernel) (e : Event) → length (now k).sync.processes < length (now (with_event k e)).sync.processes
    → Some (length (now (with_event k e)).sync.processes) ≡ (step (now k).sync e).entry.child
child-since k e more =
    made-since (length (now k).sync.processes) (length (now (with_event k e)).sync.processes) (step (now k).sync e).entry.child
    (ap (λ (s : SyncState). length s.processes) (sync-grown k e) ∙ step_long (now k).sync e) (step_next (now k).sync e) more

pub no-child-since : (k : Kernel) (e : Event) → (length (now k).sync.processes < length (now (with_event k e)).sync.processes → ⊥)
    → None ≡ (step (now k).sync e).entry.child
no-child-since k e none =
    unmade-since (length (now k).sync.processes) (length (now (with_event k e)).sync.processes) (step (now k).sync e).entry.child
    (ap (λ (s : SyncState). length s.processes) (sync-grown k e) ∙ step_long (now k).sync e) none

-- the same, where both are counted
pub child-is : (k new : Kernel) (e : Event) (count before : ℕ) → new ≡ with_event k e → before ≡ length (now k).sync.processes
    → count ≡ length (now new).sync.processes → before < count → Some count ≡ (step (now k).sync e).entry.child
child-is k new e count before grown was is more =
    let long : count ≡ length (now (with_event k e)).sync.processes = is ∙ ap (λ (c : Kernel). length (now c).sync.processes) grown in
    ap (λ (n : ℕ). Some n) long ∙ child-since k e (omega (arith, was, long, more))

pub no-child-is : (k new : Kernel) (e : Event) (count before : ℕ) → new ≡ with_event k e → before ≡ length (now k).sync.processes
    → count ≡ length (now new).sync.processes → (before < count → ⊥) → None ≡ (step (now k).sync e).entry.child
no-child-is k new e count before grown was is none =
    let long : count ≡ length (now (with_event k e)).sync.processes = is ∙ ap (λ (c : Kernel). length (now c).sync.processes) grown in
    no-child-since k e (λ more. none (omega (arith, was, long, more)))

-- ---- the footprint of the last event
last-map : (xs : List Entry) (x : Entry) → get_or (map footprint_of (xs ++ x ∷ [])) (length xs) no_footprint ≡ footprint_of x
last-map [] x = refl
last-map (y ∷ ys) x = last-map ys x

last-of : (es : List Event) (e d : Event) → get_or (es ++ e ∷ []) (length es) d ≡ e
last-of es e d = get_or-append_seam es e [] d

-- the footprint that was kept last, of an Enter, is that of its entry; that of another event is known
pub last-footprint : (es : List Event) (e : Event) (log : List Entry) (x : Entry) (kept : List Entry) → AreFootprints (es ++ e ∷ []) (log ++ x ∷ []) kept
    → footprint_by e (get_or kept (enters_among es) no_footprint) ≡ footprint_of x
last-footprint es e log x kept h =
    let events : length (es ++ e ∷ []) ≡ length es + 1 = length-append es (e ∷ []) in
    let entries : length (log ++ x ∷ []) ≡ length log + 1 = length-append log (x ∷ []) in
    let long = ap (λ (fs : List Entry). length fs) h.1 in
    let same : length es ≡ length log =
    omega (arith, events, entries, long, after_length (es ++ e ∷ []) 0 kept, length-map (log ++ x ∷ []) footprint_of) in
    let none : enters_among (take (length es) (es ++ e ∷ [])) ≡ 0 + enters_among (take (length es) (es ++ e ∷ [])) = omega arith in
    ap (λ (d : Event). footprint_by d (get_or kept (enters_among es) no_footprint)) (sym (last-of es e e))
    ∙ ap (λ (ds : List Event). footprint_by (get_or (es ++ e ∷ []) (length es) e) (get_or kept (enters_among ds) no_footprint)) (sym (take-append_seam es (e ∷ [])))
    ∙ ap (λ (n : ℕ). footprint_by (get_or (es ++ e ∷ []) (length es) e) (get_or kept n no_footprint)) none
    ∙ sym (footprint_at (es ++ e ∷ []) 0 kept (length es) e (omega (arith, events)))
    ∙ ap (λ (fs : List Entry). get_or fs (length es) no_footprint) h.1
    ∙ ap (λ (n : ℕ). get_or (map footprint_of (log ++ x ∷ [])) n no_footprint) same
    ∙ last-map log x

pub last-enter : (es : List Event) (pid : ℕ) (log kept : List Entry) → AreFootprints (es ++ Enter pid ∷ []) log kept → length kept - 1 ≡ enters_among es
last-enter es pid log kept h =
    let one : enter_count (Enter pid) ≡ 1 = refl in
    omega (arith, h.0, enters_grown es (Enter pid), one)

entry-footprint : (k new : Kernel) (e : Event) (kept : List Entry) → new ≡ with_event k e → AreFootprints new.history (now new).log kept
    → AreFootprints (k.history ++ e ∷ []) ((now k).log ++ (step (now k).sync e).entry ∷ []) kept
entry-footprint k new e kept grown h =
    subst (λ (log : List Entry). AreFootprints (k.history ++ e ∷ []) log kept) (log-grown k e)
    (subst (λ (c : Kernel). AreFootprints c.history (now c).log kept) grown h)

pub enter-footprint : (k new : Kernel) (e : Event) (pid : ℕ) (kept : List Entry) (reads writes : List Carrier) → e ≡ Enter pid → new ≡ with_event k e
    → AreFootprints new.history (now new).log kept → reads ≡ (get_or kept (length kept - 1) no_footprint).reads → writes ≡ (get_or kept (length kept - 1) no_footprint).writes
    → footprint_by e (footprint reads writes) ≡ footprint_of (step (now k).sync e).entry
enter-footprint k new e pid kept reads writes is grown h r w =
    let all = entry-footprint k new e kept grown h in
    let these = subst (λ (d : Event). AreFootprints (k.history ++ d ∷ []) ((now k).log ++ (step (now k).sync e).entry ∷ []) kept) is all in
    ap (λ (d : Event). footprint_by d (footprint reads writes)) is
    ∙ ap (λ (rs : List Carrier). footprint (Proc pid ∷ rs) writes) r
    ∙ ap (λ (ws : List Carrier). footprint (Proc pid ∷ (get_or kept (length kept - 1) no_footprint).reads) ws) w
    ∙ ap (λ (n : ℕ). footprint_by (Enter pid) (get_or kept n no_footprint)) (last-enter k.history pid ((now k).log ++ (step (now k).sync e).entry ∷ []) kept these)
    ∙ last-footprint k.history (Enter pid) (now k).log (step (now k).sync e).entry kept these

pub other-footprint : (k new : Kernel) (e : Event) (kept : List Entry) → ((pid : ℕ) → e ≡ Enter pid → ⊥) → new ≡ with_event k e
    → AreFootprints new.history (now new).log kept → footprint_by e (footprint [] []) ≡ footprint_of (step (now k).sync e).entry
other-footprint k new (Turn pid n) kept not grown h = last-footprint k.history (Turn pid n) (now k).log _ kept (entry-footprint k new (Turn pid n) kept grown h)
other-footprint k new (Enter pid) kept not grown h = absurd (not pid refl)
other-footprint k new Cut kept not grown h = last-footprint k.history Cut (now k).log _ kept (entry-footprint k new Cut kept grown h)
other-footprint k new (Complete at) kept not grown h = last-footprint k.history (Complete at) (now k).log _ kept (entry-footprint k new (Complete at) kept grown h)
other-footprint k new (Fail at) kept not grown h = last-footprint k.history (Fail at) (now k).log _ kept (entry-footprint k new (Fail at) kept grown h)

-- ---- what a process is told
replies-append : (xs ys : List Item) → replies_in (xs ++ ys) ≡ replies_in xs ++ replies_in ys
replies-append [] ys = refl
replies-append (Got r ∷ xs) ys = ap (λ rs. r ∷ rs) (replies-append xs ys)
replies-append (End status ∷ xs) ys = replies-append xs ys

told-own : (p : ℕ) (log : List Entry) (x : Entry) → is_made x.child p ≡ false → x.process ≡ p
    → contents (told p (log ++ x ∷ [])) ≡ contents (told p log) ++ option_to_list x.item
told-own p log x unmade own =
    let here : (x.process == p) ≡ true = eq-eqb x.process p own in
    ap (λ (gs : List (Given Item)). contents gs) (told-entry p log x)
    ∙ ap (λ (b : Bool). contents (if b then told x.process log ++ given_by log x (Got zero_reply ∷ []) else told p log ++ given_by log x (items_for p x))) unmade
    ∙ contents-append (told p log) (given_by log x (items_for p x))
    ∙ ap (λ (is : List Item). contents (told p log) ++ is) (contents-given_by log x (items_for p x))
    ∙ ap (λ (b : Bool). contents (told p log) ++ (if b then option_to_list x.item else [])) here

pub replies-own : (p : ℕ) (log : List Entry) (x : Entry) → is_made x.child p ≡ false → x.process ≡ p
    → replies_in (contents (told p (log ++ x ∷ []))) ≡ replies_in (contents (told p log)) ++ replies_in (option_to_list x.item)
replies-own p log x unmade own =
    ap replies_in (told-own p log x unmade own) ∙ replies-append (contents (told p log)) (option_to_list x.item)

at-last : (rs : List Reply) (r : Reply) → slice_get (rs ++ r ∷ []) (length (rs ++ r ∷ []) - 1) ≡ Some r
at-last rs r =
    let long : length (rs ++ r ∷ []) - 1 ≡ length rs = omega (arith, length-append rs (r ∷ [])) in
    ap (λ (n : ℕ). slice_get (rs ++ r ∷ []) n) long ∙ at-seam rs (Some r)

-- the last of its replies is the one that it was told
pub reply-is : (p : ℕ) (log : List Entry) (x : Entry) (r : Reply) (rs : List Reply) → is_made x.child p ≡ false → x.process ≡ p → x.item ≡ Some (Got r)
    → rs ≡ replies_in (contents (told p (log ++ x ∷ []))) → slice_get rs (length rs - 1) ≡ Some r
reply-is p log x r rs unmade own is all =
    let one : rs ≡ replies_in (contents (told p log)) ++ r ∷ [] =
    all ∙ replies-own p log x unmade own ∙ ap (λ (o : Option Item). replies_in (contents (told p log)) ++ replies_in (option_to_list o)) is in
    ap (λ (qs : List Reply). slice_get qs (length qs - 1)) one ∙ at-last (replies_in (contents (told p log))) r

-- ---- the event's process
process-effect : (s : SyncState) (pid : ℕ) (p : Process) (e : CallEffect) (v : Verdict) → (after_effect s pid p e v).entry.process ≡ pid
process-effect s pid p e Waits = refl
process-effect s pid p e (Replies r) = refl
process-effect s pid p e (Ends status) = refl

process-each : (s : SyncState) (pid : ℕ) → OfEachEvent (λ (t : Transition). t.entry.process ≡ pid) s pid
process-each s pid = each_event (λ (t : Transition). t.entry.process ≡ pid) s pid refl (λ n p at lives. refl) (λ p e at lives is. process-effect s pid p e e.verdict)

pub process-is : (s : SyncState) (e : Event) → (step s e).entry.process ≡ process_in e
process-is s (Turn pid n) = of_turn (λ (t : Transition). t.entry.process ≡ pid) s pid (process-each s pid) n
process-is s (Enter pid) = of_enter (λ (t : Transition). t.entry.process ≡ pid) s pid (process-each s pid)
process-is s Cut = refl
process-is s (Complete at) = refl
process-is s (Fail at) = refl

-- it is there after the event
abbrev pub IsThere : List Process → ℕ → Type 0
IsThere ps pid = (p : Process) × (process_at ps pid ≡ Some p)

there-effect : (s : SyncState) (pid : ℕ) (p : Process) (e : CallEffect) (v : Verdict) → process_at s.processes pid ≡ Some p
    → IsThere (after_effect s pid p e v).state.processes pid
there-effect s pid p e Waits at = (p, at)
there-effect s pid p e (Replies r) at =
    (after_reply p e r, at_append (put_process s.processes pid (after_reply p e r)) (forked p e.child) pid (after_reply p e r) (at_same s.processes pid (after_reply p e r) p at))
there-effect s pid p e (Ends status) at = (after_end p status, at_same s.processes pid (after_end p status) p at)

pub there-after : (s : SyncState) (pid : ℕ) (q : Process) → process_at s.processes pid ≡ Some q → IsThere (step s (Enter pid)).state.processes pid
there-after s pid q there = of_enter (λ (t : Transition). IsThere t.state.processes pid) s pid
    (each_event (λ (t : Transition). IsThere t.state.processes pid) s pid (q, there)
    (λ n p at lives. (after_run n p, at_same s.processes pid (after_run n p) p at))
    (λ p e at lives is. there-effect s pid p e e.verdict at))

-- an end leaves its status
pub record HasEnded (ps : List Process) (pid status : ℕ) : Type 0 where
  pub process : Process
  pub there : process_at ps pid ≡ Some process
  pub ended : process.status ≡ Some status

ended-effect : (s : SyncState) (pid : ℕ) (p : Process) (e : CallEffect) (v : Verdict) (status : ℕ) → process_at s.processes pid ≡ Some p
    → (after_effect s pid p e v).entry.item ≡ Some (End status) → HasEnded (after_effect s pid p e v).state.processes pid status
ended-effect s pid p e Waits status at is = absurd (let no : ⊥ = cc in no)
ended-effect s pid p e (Replies r) status at is = absurd (let no : ⊥ = cc in no)
ended-effect s pid p e (Ends other) status at is =
    let same : other ≡ status = cc in
    record { process = after_end p other; there = at_same s.processes pid (after_end p other) p at; ended = ap (λ (n : ℕ). Some n) same }

pub ended-after : (s : SyncState) (pid status : ℕ) → (step s (Enter pid)).entry.item ≡ Some (End status) → HasEnded (step s (Enter pid)).state.processes pid status
ended-after s pid status = of_enter (λ (t : Transition). t.entry.item ≡ Some (End status) → HasEnded t.state.processes pid status) s pid
    (each_event (λ (t : Transition). t.entry.item ≡ Some (End status) → HasEnded t.state.processes pid status) s pid
    (λ is. absurd (let no : ⊥ = cc in no))
    (λ n p at lives is. absurd (let no : ⊥ = cc in no))
    (λ p e at lives of is. ended-effect s pid p e e.verdict status at is))

status-there : (ps : List Process) (k : ℕ) (p : Process) → slice_get ps k ≡ Some p
    → unwrap_or (slice_get (statuses_of (map part_of ps)) k) None ≡ p.status
status-there [] k p at = absurd (let no : ⊥ = cc in no)
status-there (q ∷ ps) zero p at = let same : q ≡ p = cc in ap (λ (r : Process). r.status) same
status-there (q ∷ ps) (suc k) p at = status-there ps k p at

status-at : (ps : List Process) (pid : ℕ) (p : Process) → process_at ps pid ≡ Some p → status_in (statuses_of (map part_of ps)) pid ≡ p.status
status-at ps zero p at = absurd (let no : ⊥ = cc in no)
status-at ps (suc k) p at = status-there ps k p at

pub status-is : (ps : List Process) (parts : List Part) (pid status : ℕ) → HasEnded ps pid status → parts ≡ map part_of ps → status_in (statuses_of parts) pid ≡ Some status
status-is ps parts pid status h same =
    ap (λ (qs : List Part). status_in (statuses_of qs) pid) same ∙ status-at ps pid h.process h.there ∙ h.ended

-- the status of a process that ended by an Enter
pub end-is : (k new : Kernel) (pid status : ℕ) (parts : List Part) (o : Option ℕ) → new ≡ with_event k (Enter pid)
    → (step (now k).sync (Enter pid)).entry.item ≡ Some (End status) → parts ≡ map part_of (now new).sync.processes → o ≡ status_in (statuses_of parts) pid
    → o ≡ Some status
end-is k new pid status parts o grown is these found =
    let ps : (now new).sync.processes ≡ (step (now k).sync (Enter pid)).state.processes =
    ap (λ (c : Kernel). (now c).sync.processes) grown ∙ ap (λ (s : SyncState). s.processes) (sync-grown k (Enter pid)) in
    found ∙ status-is (step (now k).sync (Enter pid)).state.processes parts pid status (ended-after (now k).sync pid status is) (these ∙ ap (λ (qs : List Process). map part_of qs) ps)

pub some-end : (o : Option Item) (a b : ℕ) → Some a ≡ Some b → o ≡ Some (End b) → Some (End a) ≡ o
some-end o a b same is = let equal : a ≡ b = cc in ap (λ (n : ℕ). Some (End n)) equal ∙ sym is

-- nothing is not something
pub none-some : {A : Type 0} (x : A) (P : Type 0) → None ≡ Some x → P
none-some x P is = absurd (let never : ⊥ = cc in never)

pub some-reply : (o : Option Item) (a r : Reply) → Some a ≡ Some r → o ≡ Some (Got r) → Some (Got a) ≡ o
some-reply o a r same is = let equal : a ≡ r = cc in ap (λ (q : Reply). Some (Got q)) equal ∙ sym is

-- ---- what the answer to an Enter says of what its process is told
pub record IsReplied (o : Option Item) : Type 0 where
  pub reply : Reply
  pub is : o ≡ Some (Got reply)

pub replied-is : (o : Option Item) → answer_of.Entered ≡ entered (outcome_of o) → IsReplied o
replied-is None is = absurd (let no : ⊥ = cc in no)
replied-is (Some (Got r)) is = record { reply = r; is = refl }
replied-is (Some (End status)) is = absurd (let no : ⊥ = cc in no)

pub record IsEnded (o : Option Item) : Type 0 where
  pub status : ℕ
  pub is : o ≡ Some (End status)

pub ended-is : (o : Option Item) → answer_of.Ended ≡ entered (outcome_of o) → IsEnded o
ended-is None is = absurd (let no : ⊥ = cc in no)
ended-is (Some (Got r)) is = absurd (let no : ⊥ = cc in no)
ended-is (Some (End status)) is = record { status = status; is = refl }

pub waits-is : (o : Option Item) → answer_of.Waits ≡ entered (outcome_of o) → None ≡ o
waits-is None is = refl
waits-is (Some (Got r)) is = absurd (let no : ⊥ = cc in no)
waits-is (Some (End status)) is = absurd (let no : ⊥ = cc in no)

pub told-none : (o : Option Item) (a : Answer) → a ≡ entered (outcome_of o) → (a ≡ answer_of.Entered → ⊥) → (a ≡ answer_of.Ended → ⊥) → None ≡ o
told-none None a is not_entered not_ended = refl
told-none (Some (Got r)) a is not_entered not_ended = absurd (not_entered is)
told-none (Some (End status)) a is not_entered not_ended = absurd (not_ended is)

-- a process that enters is there
pub entered-there : (k : Kernel) (pid : ℕ) → refusal k (Enter pid) ≡ None → IsThere (now k).sync.processes pid
entered-there k pid fine = by (process_at (now k).sync.processes pid) refl fine
  where
    by : (o : Option Process) → process_at (now k).sync.processes pid ≡ o → enter_refusal o (is_lent k pid) (is_full k) ≡ None → IsThere (now k).sync.processes pid
    by None at h = absurd (let no : ⊥ = cc in no)
    by (Some p) at h = (p, at)

-- the last of its replies is the one that it was told
pub last-reply : (k new : Kernel) (pid : ℕ) (r : Reply) (rs : List Reply) → new ≡ with_event k (Enter pid) → refusal k (Enter pid) ≡ None
    → (step (now k).sync (Enter pid)).entry.item ≡ Some (Got r) → rs ≡ replies_in (contents (told pid (now new).log)) → slice_get rs (length rs - 1) ≡ Some r
last-reply k new pid r rs grown fine is all =
    let there = entered-there k pid fine in
    let x : Entry = (step (now k).sync (Enter pid)).entry in
    let log : (now new).log ≡ (now k).log ++ x ∷ [] = ap (λ (c : Kernel). (now c).log) grown ∙ log-grown k (Enter pid) in
    reply-is pid (now k).log x r rs (step_not_made (now k).sync pid there.0 (Enter pid) there.1) (process-is (now k).sync (Enter pid)) is
    (all ∙ ap (λ (es : List Entry). replies_in (contents (told pid es))) log)

-- its process is there still
pub still-there : (k new : Kernel) (pid : ℕ) (P : Type 0) → new ≡ with_event k (Enter pid) → refusal k (Enter pid) ≡ None → process_of new pid ≡ None → P
still-there k new pid P grown fine none =
    let there = entered-there k pid fine in
    let here = there-after (now k).sync pid there.0 there.1 in
    let ps : (now new).sync.processes ≡ (step (now k).sync (Enter pid)).state.processes =
    ap (λ (c : Kernel). (now c).sync.processes) grown ∙ ap (λ (s : SyncState). s.processes) (sync-grown k (Enter pid)) in
    let both : None ≡ Some here.0 = sym none ∙ ap (λ (qs : List Process). process_at qs pid) ps ∙ here.1 in
    none-some here.0 P both

-- ---- entries
pub same-entry : (a b : Entry) → a.process ≡ b.process → a.reads ≡ b.reads → a.writes ≡ b.writes → a.change ≡ b.change → a.output ≡ b.output
    → a.item ≡ b.item → a.child ≡ b.child → a ≡ b
same-entry a b p r w c o i m =
    ap (λ n. record a { process = n }) p ∙ ap (λ rs. record b { reads = rs; writes = a.writes; change = a.change; output = a.output; item = a.item; child = a.child }) r
    ∙ ap (λ ws. record b { writes = ws; change = a.change; output = a.output; item = a.item; child = a.child }) w
    ∙ ap (λ d. record b { change = d; output = a.output; item = a.item; child = a.child }) c
    ∙ ap (λ d. record b { output = d; item = a.item; child = a.child }) o
    ∙ ap (λ d. record b { item = d; child = a.child }) i
    ∙ ap (λ d. record b { child = d }) m

pub same-record : (k : Kernel) (e : Event) (a : Answer) (site : Option CallSite) (asks : Option Request) (x : Entry) → a ≡ answer k e → site ≡ call_site k e → asks ≡ request k e
    → x ≡ seen (step (now k).sync e).entry → record { event = e; answer = a; call_site = site; request = asks; entry = x } ≡ record_of k e
same-record k e a site asks x answered stands same is =
    ap (λ (b : Answer). record { event = e; answer = b; call_site = site; request = asks; entry = x }) answered
    ∙ ap (λ (o : Option CallSite). record { event = e; answer = answer k e; call_site = o; request = asks; entry = x }) stands
    ∙ ap (λ (o : Option Request). record { event = e; answer = answer k e; call_site = call_site k e; request = o; entry = x }) same
    ∙ ap (λ (y : Entry). record { event = e; answer = answer k e; call_site = call_site k e; request = request k e; entry = y }) is

-- an event that is no Enter tells its process nothing
turn-silent : (s : SyncState) (pid n : ℕ) (o : Option Process) → None ≡ (after_turn s pid n o).entry.item
turn-silent s pid n None = refl
turn-silent s pid n (Some p) = by (is_some p.status)
  where
    by : (b : Bool) → None ≡ (if b then impossible pid s else record { state = with_process s pid (after_run n p); entry = own_entry pid }).entry.item
    by true = refl
    by false = refl

pub other-silent : (s : SyncState) (e : Event) → ((pid : ℕ) → e ≡ Enter pid → ⊥) → None ≡ (step s e).entry.item
other-silent s (Turn pid n) not = turn-silent s pid n (process_at s.processes pid)
other-silent s (Enter pid) not = absurd (not pid refl)
other-silent s Cut not = refl
other-silent s (Complete at) not = refl
other-silent s (Fail at) not = refl
