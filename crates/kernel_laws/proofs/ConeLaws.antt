-- The promises, of any boot.
use Rattle.std.proofs.Common.{◌≡◌, ℕ, zero, suc, ◌+◌, ◌-◌, ◌≤◌, ◌⊎◌, inl, inr, ◌&&◌, Bool, true, false, List, [], ◌∷◌, ◌++◌, length, take, slice_get, Option, Some, is_some, append-nil, append_assoc, refl, sym, ap, subst, ◌∙◌, arith}
use Rattle.std.specs.Prelude.{if◌then◌else◌}
use Rattle.std.specs.List.{Contains}
use Rattle.std.proofs.lemmas.Bool.{false≢true, or_cases, and_parts, and_from}
use Rattle.std.proofs.lemmas.List.Elements.{Contains-append_left, Contains-append_right, Contains-append_cases}
use Rattle.disk_model.specs.declared.change.Change.{Change}
use Rattle.disk_model.specs.Files.{files_after}
use Rattle.disk_model.proofs.Lists.{each_more}
use Rattle.kernel_model.specs.Answers.{Kernel, at_boot, now, answer, ran_by, entered, outcome_of, with_event, with_events}
use Rattle.kernel_model.specs.Entries.{Entry, Item, is_same, is_among, meets}
use Rattle.kernel_model.specs.Limits.{AreNumbered}
use Rattle.kernel_model.specs.Paths.{RestsOn, wanted, change_count, changes_in_log}
use Rattle.kernel_model.specs.Rows.{CallEffect}
use Rattle.kernel_model.specs.Shown.{released, bytes_for, printed, told}
use Rattle.kernel_model.specs.State.{SyncState, Process, process_at}
use Rattle.kernel_model.specs.Steps.{Transition, after_effect, step}
use Rattle.kernel_model.specs.Views.{contents}
use Rattle.kernel_model.specs.World.{World, Boot, first_world, after, run_of, sync_run, sync_log}
use Rattle.kernel_model.specs.declared.carrier.Carrier.{Carrier}
use Rattle.kernel_model.specs.declared.carrier.Carrier.TheVariants.{Proc}
use Rattle.kernel_model.specs.declared.event.Event.{Event}
use Rattle.kernel_model.specs.declared.event.Event.TheVariants.{Turn, Enter, Cut, Complete, Fail}
use Rattle.kernel_model.specs.declared.request.Verdict.{Verdict}
use Rattle.kernel_model.specs.declared.request.Verdict.TheVariants.{Waits, Replies, Ends}
use Rattle.kernel_model.proofs.Folding.{after_folded, with_change-length}
use Rattle.kernel_model.proofs.Meets.{same_is}
use Rattle.kernel_model.proofs.Numbering.{numbered_first}
use Rattle.kernel_model.proofs.Paths.{leads_from, leads_to}
use Rattle.kernel_model.proofs.Runs.{after_sync, after_log}
use Rattle.kernel_model.proofs.Transitions.{each_event, of_turn}
use Rattle.kernel_laws.specs.Agreement.{Agree, AgreeOn, IsAlike, AreAlike, edit_by}
use Rattle.kernel_laws.specs.Cones.{selected, path_flags, cone_flags, entry_of, cone_before, HasPath, changes_selected, visible_flags, IsOfProcess, IsBeginningOf}
use Rattle.kernel_laws.specs.ConePromises.{IsFramed, ConeSuffices, VisibleSuffice}
use Rattle.kernel_laws.proofs.Coned.{agree_all, cone_alone}
use Rattle.kernel_laws.proofs.Frames.{framed, step_keeps_but}
use Rattle.kernel_laws.proofs.Handed.{handed_all}
use Rattle.kernel_laws.proofs.Selected.{run_numbered, alone, needed}
use Rattle.kernel_laws.proofs.Visible.{log_idles, visible_closed, visible_changes, shown_begins}
use Rattle.kernel_laws.proofs.Written.{step_reads}

-- ---- the frame
agree_at : (s t : SyncState) (c : Carrier) (rs : List Carrier) → Agree s t rs → is_among c rs ≡ true → AgreeOn s t c
agree_at s t c [] a h = absurd (false≢true h)
agree_at s t c (r ∷ rs) a h = elim (or_cases (is_same c r) (is_among c rs) h) as (λ _. AgreeOn s t c) [
  | inl is ↦ subst (λ (x : Carrier). AgreeOn s t x) (sym (same_is c r is)) a.0
  | inr is ↦ agree_at s t c rs a.1 is
]

pub is_framed : (s t : SyncState) (e : Event) → AreNumbered s.files → AreNumbered t.files → IsFramed s t e
is_framed s t e are also = record {
  does = λ a. (framed s t e are also a).alike;
  edits = λ a. (framed s t e are also a).edit;
  written = λ a. each_more (λ (c : Carrier). is_among c (step s e).entry.reads ≡ true) (AgreeOn (step s e).state (step t e).state)
      (λ c m. (framed s t e are also a).carries c (agree_at s t c (step s e).entry.reads a m)) (step s e).entry.writes (step_reads s e);
  kept = λ a. (framed s t e are also a).carries;
  stays = step_keeps_but s e are;
}

-- ---- the cone
some_true : (b : Bool) → Some b ≡ Some true → b ≡ true
some_true true h = refl
some_true false h = absurd (let no : ⊥ = cc in no)

paths_to : (past : List Entry) (e : Entry) (i : ℕ) → slice_get (path_flags past e.reads) i ≡ Some true → HasPath past e i
paths_to [] e i h = absurd (let no : ⊥ = cc in no)
paths_to (x ∷ xs) e zero h = leads_from x.writes xs e.reads (some_true (meets x.writes (wanted xs e.reads)) h)
paths_to (x ∷ xs) e (suc i) h = paths_to xs e i h

paths_from : (past : List Entry) (e : Entry) (i : ℕ) → HasPath past e i → slice_get (path_flags past e.reads) i ≡ Some true
paths_from [] e i h = absurd h
paths_from (x ∷ xs) e zero h = ap (λ (b : Bool). Some b) (leads_to x.writes xs e.reads h)
paths_from (x ∷ xs) e (suc i) h = paths_from xs e i h

-- one number
in_one : (n k : ℕ) → Contains (n ∷ []) k → k ≡ n
in_one n k (zero, less, is) = sym is
in_one n k (suc i, less, is) = absurd (let no : ⊥ = omega (arith, less) in no)

one_in : (n k : ℕ) → k ≡ n → Contains (n ∷ []) k
one_in n k h = (0, omega arith, sym h)

in_none : (k : ℕ) → Contains [] k → ⊥
in_none k (i, less, is) = omega (arith, less)

made_if : (b : Bool) (n k : ℕ) (rest : List ℕ) → Contains (if b then n ∷ rest else rest) k → ((b ≡ true) × (k ≡ n)) ⊎ Contains rest k
made_if true n k rest h = elim (Contains-append_cases (n ∷ []) rest k h) [ inl t ↦ inl (refl, in_one n k t) | inr t ↦ inr t ]
made_if false n k rest h = inr h

if_made : (b : Bool) (n k : ℕ) (rest : List ℕ) → ((b ≡ true) × (k ≡ n)) ⊎ Contains rest k → Contains (if b then n ∷ rest else rest) k
if_made true n k rest (inl h) = Contains-append_left (n ∷ []) rest k (one_in n k h.1)
if_made true n k rest (inr h) = Contains-append_right (n ∷ []) rest k h
if_made false n k rest (inl h) = absurd (false≢true h.0)
if_made false n k rest (inr h) = h

rests_made : (past : List Entry) (n : ℕ) (e : Entry) (k : ℕ) → RestsOn n past e k → Contains (changes_selected n (cone_flags past e) (past ++ e ∷ [])) k
rests_made [] n e k h = if_made (is_some e.change) n k [] (inl (h.0, h.1))
rests_made (x ∷ xs) n e k (inl h) =
    if_made (meets x.writes (wanted xs e.reads) && is_some x.change) n k _ (inl (and_from (meets x.writes (wanted xs e.reads)) (is_some x.change) (leads_to x.writes xs e.reads h.2) h.0, h.1))
rests_made (x ∷ xs) n e k (inr h) = if_made (meets x.writes (wanted xs e.reads) && is_some x.change) n k _ (inr (rests_made xs (n + change_count x) e k h))

made_rests : (past : List Entry) (n : ℕ) (e : Entry) (k : ℕ) → Contains (changes_selected n (cone_flags past e) (past ++ e ∷ [])) k → RestsOn n past e k
made_rests [] n e k h = elim (made_if (is_some e.change) n k [] h) [ inl t ↦ t | inr t ↦ absurd (in_none k t) ]
made_rests (x ∷ xs) n e k h = elim (made_if (meets x.writes (wanted xs e.reads) && is_some x.change) n k _ h) [
  | inl t ↦ (let both = and_parts (meets x.writes (wanted xs e.reads)) (is_some x.change) t.0 in inl (both.1, t.1, leads_from x.writes xs e.reads both.0))
  | inr t ↦ inr (made_rests xs (n + change_count x) e k t)
]

first_numbered : (b : Boot) → AreNumbered (first_world b).sync.files
first_numbered b = numbered_first b.files

-- the log and the state of a run from a boot
log_is : (b : Boot) (es : List Event) → sync_log (first_world b).sync es ≡ (run_of b es).log
log_is b es = sym (after_log es (first_world b))

sync_is : (b : Boot) (es : List Event) → sync_run (first_world b).sync es ≡ (run_of b es).sync
sync_is b es = sym (after_sync es (first_world b))

-- an event does the same in two states, with the same change of the same file, and they agree on what it reads
abbrev DoesSame : SyncState → SyncState → Event → Type 0
DoesSame u v e = IsAlike (step u e).entry (step v e).entry × (edit_by u.files (step u e).entry.change ≡ edit_by v.files (step v e).entry.change) × Agree u v (step u e).entry.reads

does_by : (b : Boot) (es : List Event) (e : Event) → DoesSame (run_of b es).sync (run_of b (cone_before b es e)).sync e
does_by b es e =
    let s = (first_world b).sync in
    let rs = (step (sync_run s es) e).entry.reads in
    let agree = (cone_alone s es rs (first_numbered b)).agree in
    let frame = framed (sync_run s es) (sync_run s (selected (path_flags (sync_log s es) rs) es)) e (run_numbered es s (first_numbered b))
    (run_numbered (selected (path_flags (sync_log s es) rs) es) s (first_numbered b)) agree in
    let known : DoesSame (sync_run s es) (sync_run s (selected (path_flags (sync_log s es) rs) es)) e = (frame.alike, frame.edit, agree) in
    let by_state : DoesSame (run_of b es).sync (sync_run s (selected (path_flags (sync_log s es) (step (run_of b es).sync e).entry.reads) es)) e =
    subst (λ (u : SyncState). DoesSame u (sync_run s (selected (path_flags (sync_log s es) (step u e).entry.reads) es)) e) (sync_is b es) known in
    let by_log : DoesSame (run_of b es).sync (sync_run s (cone_before b es e)) e =
    subst (λ (log : List Entry). DoesSame (run_of b es).sync (sync_run s (selected (path_flags log (entry_of b es e).reads) es)) e) (log_is b es) by_state in
    subst (λ (u : SyncState). DoesSame (run_of b es).sync u e) (sync_is b (cone_before b es e)) by_log

-- ---- its answer
-- the process of an event is the first that it reads
abbrev ReadsOwn : SyncState → SyncState → ℕ → Transition → Type 0
ReadsOwn u v pid t = Agree u v t.entry.reads → AgreeOn u v (Proc pid)

effect_own : (u v : SyncState) (pid : ℕ) (p : Process) (e : CallEffect) (verdict : Verdict) → ReadsOwn u v pid (after_effect u pid p e verdict)
effect_own u v pid p e Waits a = a.0
effect_own u v pid p e (Replies r) a = a.0
effect_own u v pid p e (Ends status) a = a.0

turn_own : (u v : SyncState) (pid n : ℕ) → Agree u v (step u (Turn pid n)).entry.reads → AgreeOn u v (Proc pid)
turn_own u v pid n =
    of_turn (ReadsOwn u v pid) u pid (each_event (ReadsOwn u v pid) u pid (λ a. a.0) (λ m p at lives a. a.0) (λ p e at lives is. effect_own u v pid p e e.verdict)) n

boot_kept : (es : List Event) (k : Kernel) → (with_events k es).boot ≡ k.boot
boot_kept [] k = refl
boot_kept (e ∷ es) k = boot_kept es (with_event k e)

history_grown : (es : List Event) (k : Kernel) → (with_events k es).history ≡ k.history ++ es
history_grown [] k = sym (append-nil k.history)
history_grown (e ∷ es) k = history_grown es (with_event k e) ∙ append_assoc k.history (e ∷ []) es

now_is : (b : Boot) (es : List Event) → now (with_events (at_boot b) es) ≡ run_of b es
now_is b es =
    ap (λ (x : Boot). after (first_world x) (with_events (at_boot b) es).history) (boot_kept es (at_boot b))
    ∙ ap (λ (events : List Event). after (first_world b) events) (history_grown es (at_boot b))

answers_by : (b : Boot) (es : List Event) (e : Event) → IsOfProcess e → answer (with_events (at_boot b) es) e ≡ answer (with_events (at_boot b) (cone_before b es e)) e
answers_by b es (Turn pid n) of =
    let alone = cone_before b es (Turn pid n) in
    let same = turn_own (run_of b es).sync (run_of b alone).sync pid n (does_by b es (Turn pid n)).2 in
    ap (λ (w : World). ran_by (process_at w.sync.processes pid) n) (now_is b es)
    ∙ ap (λ (o : Option Process). ran_by o n) same
    ∙ ap (λ (w : World). ran_by (process_at w.sync.processes pid) n) (sym (now_is b alone))
answers_by b es (Enter pid) of =
    let alone = cone_before b es (Enter pid) in
    ap (λ (w : World). entered (outcome_of (step w.sync (Enter pid)).entry.item)) (now_is b es)
    ∙ ap (λ (o : Option Item). entered (outcome_of o)) (does_by b es (Enter pid)).0.item
    ∙ ap (λ (w : World). entered (outcome_of (step w.sync (Enter pid)).entry.item)) (sym (now_is b alone))
answers_by b es Cut of = absurd of
answers_by b es (Complete at) of = absurd of
answers_by b es (Fail at) of = absurd of

alike_by : (b : Boot) (es : List Event) (rs : List Carrier)
    → AreAlike (selected (path_flags (run_of b es).log rs) (run_of b es).log) (run_of b (selected (path_flags (run_of b es).log rs) es)).log
alike_by b es rs =
    let s = (first_world b).sync in
    let known = (cone_alone s es rs (first_numbered b)).alike in
    let by_log : AreAlike (selected (path_flags (run_of b es).log rs) (run_of b es).log) (sync_log s (selected (path_flags (run_of b es).log rs) es)) =
    subst (λ (log : List Entry). AreAlike (selected (path_flags log rs) log) (sync_log s (selected (path_flags log rs) es))) (log_is b es) known in
    subst (λ (log : List Entry). AreAlike (selected (path_flags (run_of b es).log rs) (run_of b es).log) log) (log_is b (selected (path_flags (run_of b es).log rs) es)) by_log

-- ---- how many changes the cone makes
selected_count : (ms : List Bool) (es : List Entry) (n : ℕ) → length (changes_selected n ms es) ≡ length (changes_in_log (selected ms es))
selected_count [] es n = refl
selected_count (m ∷ ms) [] n = refl
selected_count (m ∷ ms) (e ∷ es) n = by (selected_count ms es (n + change_count e)) m (is_some e.change) refl
  where
    by : length (changes_selected (n + change_count e) ms es) ≡ length (changes_in_log (selected ms es)) → (a b : Bool) → is_some e.change ≡ b
        → length (if a && b then n ∷ changes_selected (n + change_count e) ms es else changes_selected (n + change_count e) ms es) ≡ length (changes_in_log (if a then e ∷ selected ms es else selected ms es))
    by rest true true is =
        let one : (if is_some e.change then 1 else 0) ≡ 1 = ap (λ (b : Bool). if◌then◌else◌ {A = ℕ} b 1 0) is in
        let long = with_change-length e.change (changes_in_log (selected ms es)) in omega (arith, rest, one, long)
    by rest true false is =
        let none : (if is_some e.change then 1 else 0) ≡ 0 = ap (λ (b : Bool). if◌then◌else◌ {A = ℕ} b 1 0) is in
        let long = with_change-length e.change (changes_in_log (selected ms es)) in omega (arith, rest, none, long)
    by rest false b is = rest

alike_count : (xs ys : List Entry) → AreAlike xs ys → length (changes_in_log xs) ≡ length (changes_in_log ys)
alike_count [] [] like = refl
alike_count [] (y ∷ ys) like = absurd like
alike_count (x ∷ xs) [] like = absurd like
alike_count (x ∷ xs) (y ∷ ys) like =
    let same : (if is_some x.change then 1 else 0) ≡ (if is_some y.change then 1 else 0) = ap (λ (b : Bool). if◌then◌else◌ {A = ℕ} b 1 0) like.0.changes in
    omega (arith, same, alike_count xs ys like.1, with_change-length x.change (changes_in_log xs), with_change-length y.change (changes_in_log ys))

alike_last : (xs ys : List Entry) (a b : Entry) → AreAlike xs ys → IsAlike a b → AreAlike (xs ++ a ∷ []) (ys ++ b ∷ [])
alike_last [] [] a b like same = (same, tt)
alike_last [] (y ∷ ys) a b like same = absurd like
alike_last (x ∷ xs) [] a b like same = absurd like
alike_last (x ∷ xs) (y ∷ ys) a b like same = (like.0, alike_last xs ys a b like.1 same)

cone_whole : (log : List Entry) (rs : List Carrier) (e : Entry) → selected (path_flags log rs ++ true ∷ []) (log ++ e ∷ []) ≡ selected (path_flags log rs) log ++ e ∷ []
cone_whole [] rs e = refl
cone_whole (x ∷ xs) rs e = by (meets x.writes (wanted xs rs)) (cone_whole xs rs e)
  where
    by : (b : Bool) → selected (path_flags xs rs ++ true ∷ []) (xs ++ e ∷ []) ≡ selected (path_flags xs rs) xs ++ e ∷ []
        → (if b then x ∷ selected (path_flags xs rs ++ true ∷ []) (xs ++ e ∷ []) else selected (path_flags xs rs ++ true ∷ []) (xs ++ e ∷ []))
        ≡ (if b then x ∷ selected (path_flags xs rs) xs else selected (path_flags xs rs) xs) ++ e ∷ []
    by true h = ap (λ zs. x ∷ zs) h
    by false h = h

count_by_alone : (log alone : List Entry) (e a : Entry) → AreAlike (selected (path_flags log e.reads) log) alone → IsAlike e a
    → length (changes_selected 0 (cone_flags log e) (log ++ e ∷ [])) ≡ length (changes_in_log (alone ++ a ∷ []))
count_by_alone log alone e a like same =
    selected_count (cone_flags log e) (log ++ e ∷ []) 0
    ∙ ap (λ (es : List Entry). length (changes_in_log es)) (cone_whole log e.reads e)
    ∙ alike_count (selected (path_flags log e.reads) log ++ e ∷ []) (alone ++ a ∷ []) (alike_last (selected (path_flags log e.reads) log) alone e a like same)

pub cone_suffices : (b : Boot) (es : List Event) (e : Event) → ConeSuffices b es e
cone_suffices b es e = record {
  paths = λ i. (paths_to (run_of b es).log (entry_of b es e) i, paths_from (run_of b es).log (entry_of b es e) i);
  does = (does_by b es e).0;
  edits = (does_by b es e).1;
  answers = answers_by b es e;
  alike = alike_by b es (entry_of b es e).reads;
  numbers = λ k. (rests_made (run_of b es).log 0 (entry_of b es e) k, made_rests (run_of b es).log 0 (entry_of b es e) k);
  as_many = count_by_alone (run_of b es).log (run_of b (cone_before b es e)).log (entry_of b es e) (entry_of b (cone_before b es e) e) (alike_by b es (entry_of b es e).reads) (does_by b es e).0;
}

-- ---- what is shown
-- the visible events of a log, alone
module _ (b : Boot) (es : List Event) (c : ℕ) where
  abbrev s0 : SyncState
  s0 = (first_world b).sync

  abbrev log0 : List Entry
  log0 = sync_log s0 es

  abbrev seen : List Entry → List Event
  seen log = selected (visible_flags c [] log) es

  agreed : Agree s0 s0 (needed (visible_flags c [] log0) log0 [])
  agreed = agree_all s0 (needed (visible_flags c [] log0) log0 [])

  like : AreAlike (selected (visible_flags c [] log0) log0) (sync_log s0 (seen log0))
  like = (alone es (visible_flags c [] log0) s0 s0 [] (first_numbered b) (first_numbered b) (visible_closed log0 c [] (log_idles es s0 (first_numbered b))) agreed).alike

  changes_seen : changes_in_log (sync_log s0 (seen log0)) ≡ take c (changes_in_log log0)
  changes_seen =
      let all : c - 0 ≡ c = omega arith in
      visible_changes es c [] s0 s0 (first_numbered b) (first_numbered b) agreed (inl refl) ∙ ap (λ (k : ℕ). take k (changes_in_log log0)) all

  printed_seen : (t : ℕ) → IsBeginningOf (released c (printed t log0)) (contents (printed t (sync_log s0 (seen log0))))
  printed_seen t =
      shown_begins (λ (e : Entry). bytes_for t e.output) (λ e idle. ap (bytes_for t) idle.output) (λ x y same. ap (bytes_for t) same.output)
      log0 (sync_log s0 (seen log0)) c [] [] (log_idles es s0 (first_numbered b)) like

  told_seen : (p : ℕ) → p ≤ length (sync_run s0 (seen log0)).processes → contents (told p (sync_log s0 (seen log0))) ≡ released c (told p log0)
  told_seen p low =
      handed_all es c [] [] (λ q. []) (λ q. []) s0 s0 (first_numbered b) (first_numbered b) agreed (omega arith) (λ q h. tt) (λ q h. refl) p low

-- the same in the words of runs
seen_changes : (b : Boot) (es : List Event) (c : ℕ) → changes_in_log (run_of b (selected (visible_flags c [] (run_of b es).log) es)).log ≡ take c (changes_in_log (run_of b es).log)
seen_changes b es c =
    ap (λ (log : List Entry). changes_in_log log) (sym (log_is b (selected (visible_flags c [] (run_of b es).log) es)))
    ∙ subst (λ (log : List Entry). changes_in_log (sync_log (first_world b).sync (selected (visible_flags c [] log) es)) ≡ take c (changes_in_log log)) (log_is b es) (changes_seen b es c)

seen_files : (b : Boot) (es : List Event) (c : ℕ)
    → (run_of b (selected (visible_flags c [] (run_of b es).log) es)).sync.files.living ≡ files_after b.files (take c (changes_in_log (run_of b es).log))
seen_files b es c =
    after_folded b.files (selected (visible_flags c [] (run_of b es).log) es) (first_world b) refl ∙ ap (λ (cs : List Change). files_after b.files cs) (seen_changes b es c)

seen_printed : (b : Boot) (es : List Event) (c t : ℕ)
    → IsBeginningOf (released c (printed t (run_of b es).log)) (contents (printed t (run_of b (selected (visible_flags c [] (run_of b es).log) es)).log))
seen_printed b es c t =
    subst (λ (log : List Entry). IsBeginningOf (released c (printed t (run_of b es).log)) (contents (printed t log)))
    (log_is b (selected (visible_flags c [] (run_of b es).log) es))
    (subst (λ (log : List Entry). IsBeginningOf (released c (printed t log)) (contents (printed t (sync_log (first_world b).sync (selected (visible_flags c [] log) es)))))
    (log_is b es) (printed_seen b es c t))

seen_told : (b : Boot) (es : List Event) (c p : ℕ) → p ≤ length (run_of b (selected (visible_flags c [] (run_of b es).log) es)).sync.processes
    → contents (told p (run_of b (selected (visible_flags c [] (run_of b es).log) es)).log) ≡ released c (told p (run_of b es).log)
seen_told b es c p low =
    let vis = selected (visible_flags c [] (run_of b es).log) es in
    let of_log : p ≤ length (sync_run (first_world b).sync vis).processes → contents (told p (sync_log (first_world b).sync vis)) ≡ released c (told p (run_of b es).log) =
    subst (λ (log : List Entry). p ≤ length (sync_run (first_world b).sync (selected (visible_flags c [] log) es)).processes
    → contents (told p (sync_log (first_world b).sync (selected (visible_flags c [] log) es))) ≡ released c (told p log)) (log_is b es) (told_seen b es c p) in
    ap (λ (log : List Entry). contents (told p log)) (sym (log_is b vis)) ∙ of_log (subst (λ (u : SyncState). p ≤ length u.processes) (sym (sync_is b vis)) low)

pub visible_suffice : (b : Boot) (es : List Event) → VisibleSuffice b es
visible_suffice b es = record {
  changes = seen_changes b es (run_of b es).storage.committed;
  files = seen_files b es (run_of b es).storage.committed;
  terminals = λ t. seen_printed b es (run_of b es).storage.committed t;
  traces = λ p low. sym (seen_told b es (run_of b es).storage.committed p low);
}
