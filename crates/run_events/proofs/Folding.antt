-- What the records of events come to.
use Rattle.std.proofs.Common.{◌≡◌, ℕ, ◌+◌, ◌<◌, ◌≤◌, ◌==◌, ◌&&◌, Bool, true, false, nat_lt, List, [], ◌∷◌, ◌++◌, length, map, Option, Some, None, option_to_list, refl, sym, ap, ◌∙◌, arith, append-nil, append_assoc}
use Rattle.std.specs.Prelude.{if◌then◌else◌}
use Rattle.std.proofs.lemmas.Bool.{ltb-false, ne_eqb}
use Rattle.disk_model.specs.declared.change.Change.{Change}
use Rattle.kernel_model.specs.Answers.{Kernel, now, with_event, with_events}
use Rattle.kernel_model.specs.Entries.{Entry, Item, Got}
use Rattle.kernel_model.specs.Paths.{changes_in_log}
use Rattle.kernel_model.specs.Shown.{Given, printed, bytes_for, told, is_made, items_for, given_by}
use Rattle.kernel_model.specs.State.{SyncState}
use Rattle.kernel_model.specs.Steps.{step, zero_reply}
use Rattle.kernel_model.specs.Views.{contents}
use Rattle.kernel_model.specs.World.{sync_log, terminal_count}
use Rattle.kernel_model.specs.declared.effect.Output.{Output}
use Rattle.kernel_model.specs.declared.event.Event.{Event}
use Rattle.kernel_model.proofs.ChildRows.{IsNoneOrNextProcess}
use Rattle.kernel_model.proofs.Runs.{told-entry, changes_in_log-entry, contents-append, contents-given_by}
use Rattle.kernel_laws.proofs.Handed.{step_long}
use Rattle.kernel_laws.proofs.Parts.{made_by}
use Rattle.run_events.specs.Records.{RunEvent, records_of, seen, seen_output, bytes_in, changes_in, items_in}
use Rattle.run_events.proofs.Growing.{log-grown, sync-grown, written-grown, step_next}

no-bytes : (xs : List ℕ) → nat_lt 0 (length xs) ≡ false → xs ≡ []
no-bytes [] h = refl
no-bytes (x ∷ xs) h = absurd (let no : ⊥ = omega (arith, ltb-false 0 (length (x ∷ xs)) h) in no)

nothing-for : (t : ℕ) (out : Output) (b c : Bool) → (b && c) ≡ false → bytes_for t (if b && c then Some out else None) ≡ []
nothing-for t out b c h = ap (λ (d : Bool). bytes_for t (if d then Some out else None)) h

-- an output that nobody could see has no bytes for a terminal
pub seen-bytes : (t : ℕ) (o : Option Output) → t < terminal_count → bytes_for t (seen_output o) ≡ bytes_for t o
seen-bytes t None below = refl
seen-bytes t (Some out) below = by (nat_lt out.terminal terminal_count) (nat_lt 0 (length out.bytes)) refl refl
  where
    by : (b c : Bool) → nat_lt out.terminal terminal_count ≡ b → nat_lt 0 (length out.bytes) ≡ c → bytes_for t (if b && c then Some out else None) ≡ bytes_for t (Some out)
    by true true is some = refl
    by true false is some = both (out.terminal == t)
      where
        both : (d : Bool) → [] ≡ (if d then out.bytes else [])
        both true = sym (no-bytes out.bytes some)
        both false = refl
    by false c is some =
        let past : terminal_count ≤ out.terminal = ltb-false out.terminal terminal_count is in
        sym (ap (λ (d : Bool). if d then out.bytes else []) (ne_eqb out.terminal t (λ (e : out.terminal ≡ t). omega (arith, e, past, below))))

pub all-printed : (k : Kernel) (es : List Event) (t : ℕ) → t < terminal_count
    → contents (printed t (now (with_events k es)).log) ≡ contents (printed t (now k).log) ++ bytes_in t (records_of k es)
all-printed k [] t below = sym (append-nil (contents (printed t (now k).log)))
all-printed k (e ∷ es) t below =
    all-printed (with_event k e) es t below
    ∙ ap (λ (log : List Entry). contents (printed t log) ++ bytes_in t (records_of (with_event k e) es)) (log-grown k e)
    ∙ ap (λ (xs : List ℕ). xs ++ bytes_in t (records_of (with_event k e) es)) (written-grown t (now k).log (step (now k).sync e).entry)
    ∙ append_assoc (contents (printed t (now k).log)) (bytes_for t (step (now k).sync e).entry.output) (bytes_in t (records_of (with_event k e) es))
    ∙ ap (λ (xs : List ℕ). contents (printed t (now k).log) ++ (xs ++ bytes_in t (records_of (with_event k e) es))) (sym (seen-bytes t (step (now k).sync e).entry.output below))

pub all-changes : (k : Kernel) (es : List Event) → changes_in_log (now (with_events k es)).log ≡ changes_in_log (now k).log ++ changes_in (records_of k es)
all-changes k [] = sym (append-nil (changes_in_log (now k).log))
all-changes k (e ∷ es) =
    all-changes (with_event k e) es
    ∙ ap (λ (log : List Entry). changes_in_log log ++ changes_in (records_of (with_event k e) es)) (log-grown k e)
    ∙ ap (λ (cs : List Change). cs ++ changes_in (records_of (with_event k e) es)) (changes_in_log-entry (now k).log (step (now k).sync e).entry)
    ∙ append_assoc (changes_in_log (now k).log) (option_to_list (step (now k).sync e).entry.change) (changes_in (records_of (with_event k e) es))

pub all-entries : (k : Kernel) (es : List Event) → map (λ (r : RunEvent). r.entry) (records_of k es) ≡ map seen (sync_log (now k).sync es)
all-entries k [] = refl
all-entries k (e ∷ es) =
    ap (λ (xs : List Entry). seen (step (now k).sync e).entry ∷ xs)
    (all-entries (with_event k e) es ∙ ap (λ (s : SyncState). map seen (sync_log s es)) (sync-grown k e))

pub all-events : (k : Kernel) (es : List Event) → map (λ (r : RunEvent). r.event) (records_of k es) ≡ es
all-events k [] = refl
all-events k (e ∷ es) = ap (λ (ds : List Event). e ∷ ds) (all-events (with_event k e) es)

-- ---- what a process is told
below-next : (count p : ℕ) (o : Option ℕ) → IsNoneOrNextProcess count o → p ≤ count → is_made o p ≡ false
below-next count p None next le = refl
below-next count p (Some child) next le = ne_eqb child p (λ (same : child ≡ p). omega (arith, same, next.0, le))

told-more : (p : ℕ) (log : List Entry) (x : Entry) → is_made x.child p ≡ false → contents (told p (log ++ x ∷ [])) ≡ contents (told p log) ++ items_for p x
told-more p log x unmade =
    ap (λ (gs : List (Given Item)). contents gs) (told-entry p log x)
    ∙ ap (λ (b : Bool). contents (if b then told x.process log ++ given_by log x (Got zero_reply ∷ []) else told p log ++ given_by log x (items_for p x))) unmade
    ∙ contents-append (told p log) (given_by log x (items_for p x))
    ∙ ap (λ (is : List Item). contents (told p log) ++ is) (contents-given_by log x (items_for p x))

pub all-told : (k : Kernel) (es : List Event) (p : ℕ) → p ≤ length (now k).sync.processes
    → contents (told p (now (with_events k es)).log) ≡ contents (told p (now k).log) ++ items_in p (records_of k es)
all-told k [] p there = sym (append-nil (contents (told p (now k).log)))
all-told k (e ∷ es) p there =
    let x : Entry = (step (now k).sync e).entry in
    let long : length (now (with_event k e)).sync.processes ≡ length (now k).sync.processes + made_by x.child =
    ap (λ (s : SyncState). length s.processes) (sync-grown k e) ∙ step_long (now k).sync e in
    all-told (with_event k e) es p (omega (arith, there, long))
    ∙ ap (λ (log : List Entry). contents (told p log) ++ items_in p (records_of (with_event k e) es)) (log-grown k e)
    ∙ ap (λ (is : List Item). is ++ items_in p (records_of (with_event k e) es)) (told-more p (now k).log x (below-next (length (now k).sync.processes) p x.child (step_next (now k).sync e) there))
    ∙ append_assoc (contents (told p (now k).log)) (items_for p x) (items_in p (records_of (with_event k e) es))
