-- The files are what the changes of the log make of the boot's.
use Rattle.std.proofs.Common.{◌≡◌, ℕ, ◌+◌, if◌then◌else◌, List, [], ◌∷◌, ◌++◌, Option, Some, None, is_some, length, refl, sym, ap, ◌∙◌, arith}
use Rattle.disk_model.specs.declared.change.Change.{Change}
use Rattle.disk_model.specs.declared.change.NamedFile.{NamedFile}
use Rattle.disk_model.specs.Files.{changed, files_after}
use Rattle.disk_model.specs.Numbers.{Numbered, numbered_after}
use Rattle.kernel_model.specs.Entries.{Entry}
use Rattle.kernel_model.proofs.Transitions.{each_event, of_step}
use Rattle.kernel_model.specs.State.{SyncState, Process, changed_by}
use Rattle.kernel_model.specs.Rows.{CallEffect}
use Rattle.kernel_model.specs.Steps.{Transition, after_effect, step}
use Rattle.kernel_model.specs.Paths.{changes_in_log, with_change}
use Rattle.kernel_model.specs.World.{World, happens, after}
use Rattle.kernel_model.specs.declared.event.Event.{Event}
use Rattle.kernel_model.specs.declared.request.Verdict.{Verdict}
use Rattle.kernel_model.specs.declared.request.Verdict.TheVariants.{Waits, Replies, Ends}

-- the files that live after a change, if there is one
abbrev pub living_by : List NamedFile → Option Change → List NamedFile
living_by files None = files
living_by files (Some c) = changed files c

pub living_changed : (files : Numbered) (o : Option Change) → (changed_by files o).living ≡ living_by files.living o
living_changed files None = refl
living_changed files (Some c) = refl

pub with_change-length : (o : Option Change) (cs : List Change) → length (with_change o cs) ≡ (if is_some o then 1 else 0) + length cs
with_change-length None cs = omega arith
with_change-length (Some c) cs = omega arith

-- a change, if there is one, comes first
after_with : (files : List NamedFile) (o : Option Change) (cs : List Change) → files_after files (with_change o cs) ≡ files_after (living_by files o) cs
after_with files None cs = refl
after_with files (Some c) cs = refl

-- the files after the changes of one more entry
files_after-entry : (files : List NamedFile) (log : List Entry) (e : Entry)
    → files_after files (changes_in_log (log ++ e ∷ [])) ≡ living_by (files_after files (changes_in_log log)) e.change
files_after-entry files [] e = after_with files e.change []
files_after-entry files (x ∷ xs) e =
    after_with files x.change (changes_in_log (xs ++ e ∷ []))
    ∙ files_after-entry (living_by files x.change) xs e
    ∙ ap (λ (fs : List NamedFile). living_by fs e.change) (sym (after_with files x.change (changes_in_log xs)))

-- a transition changes the files by its entry's change alone
abbrev ChangesByEntry : SyncState → Transition → Type 0
ChangesByEntry s t = t.state.files ≡ changed_by s.files t.entry.change

effect_changes : (s : SyncState) (pid : ℕ) (p : Process) (e : CallEffect) (verdict : Verdict) → ChangesByEntry s (after_effect s pid p e verdict)
effect_changes s pid p e Waits = refl
effect_changes s pid p e (Replies r) = refl
effect_changes s pid p e (Ends status) = refl

-- so does each event
pub step_changes : (s : SyncState) (e : Event) → (step s e).state.files ≡ changed_by s.files (step s e).entry.change
step_changes s e = of_step (ChangesByEntry s) s refl
    (λ pid. each_event (ChangesByEntry s) s pid refl (λ n p at lives. refl) (λ p f at lives is. effect_changes s pid p f f.verdict)) e

-- the files of a run are those that its log's changes make of these
abbrev pub IsFoldOf : List NamedFile → World → Type 0
IsFoldOf files w = w.sync.files.living ≡ files_after files (changes_in_log w.log)

pub happens_folded : (files : List NamedFile) (w : World) (e : Event) → IsFoldOf files w → IsFoldOf files (happens w e)
happens_folded files w e h =
    ap (λ (fs : Numbered). fs.living) (step_changes w.sync e)
    ∙ living_changed w.sync.files (step w.sync e).entry.change
    ∙ ap (λ (fs : List NamedFile). living_by fs (step w.sync e).entry.change) h
    ∙ sym (files_after-entry files w.log (step w.sync e).entry)

pub after_folded : (files : List NamedFile) (es : List Event) (w : World) → IsFoldOf files w → IsFoldOf files (after w es)
after_folded files [] w h = h
after_folded files (e ∷ es) w h = after_folded files es (happens w e) (happens_folded files w e h)

-- ---- the same with their numbers

numbered_with : (files : Numbered) (o : Option Change) (cs : List Change) → numbered_after files (with_change o cs) ≡ numbered_after (changed_by files o) cs
numbered_with files None cs = refl
numbered_with files (Some c) cs = refl

numbered-entry : (files : Numbered) (log : List Entry) (e : Entry)
    → numbered_after files (changes_in_log (log ++ e ∷ [])) ≡ changed_by (numbered_after files (changes_in_log log)) e.change
numbered-entry files [] e = numbered_with files e.change []
numbered-entry files (x ∷ xs) e =
    numbered_with files x.change (changes_in_log (xs ++ e ∷ []))
    ∙ numbered-entry (changed_by files x.change) xs e
    ∙ ap (λ (fs : Numbered). changed_by fs e.change) (sym (numbered_with files x.change (changes_in_log xs)))

pub after_numbered : (files : Numbered) (es : List Event) (w : World) → w.sync.files ≡ numbered_after files (changes_in_log w.log)
    → (after w es).sync.files ≡ numbered_after files (changes_in_log (after w es).log)
after_numbered files [] w h = h
after_numbered files (e ∷ es) w h =
    after_numbered files es (happens w e) (
    step_changes w.sync e
    ∙ ap (λ (fs : Numbered). changed_by fs (step w.sync e).entry.change) h
    ∙ sym (numbered-entry files w.log (step w.sync e).entry)
    )
