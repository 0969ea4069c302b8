-- What is promised of an event, of its cone, and of the visible events.
use Rattle.std.specs.Prelude.{◌≡◌, ℕ, ◌≤◌, ◌↔◌, true, false, List, [], ◌∷◌, ◌++◌, length, take, slice_get, Some}
use Rattle.std.specs.List.{Contains}
use Rattle.disk_model.specs.Files.{files_after}
use Rattle.kernel_model.specs.Answers.{answer, at_boot, with_events}
use Rattle.kernel_model.specs.Entries.{is_among}
use Rattle.kernel_model.specs.Paths.{RestsOn, changes_in_log}
use Rattle.kernel_model.specs.Shown.{printed, told, shown, handed}
use Rattle.kernel_model.specs.State.{SyncState}
use Rattle.kernel_model.specs.Steps.{step}
use Rattle.kernel_model.specs.Views.{contents}
use Rattle.kernel_model.specs.World.{Boot, run_of}
use Rattle.kernel_model.specs.declared.carrier.Carrier.{Carrier}
use Rattle.kernel_model.specs.declared.event.Event.{Event}
use Rattle.kernel_laws.specs.Agreement.{Agree, AgreeOn, IsAlike, AreAlike, edit_by}
use Rattle.kernel_laws.specs.Cones.{selected, path_flags, cone_flags, entry_of, cone_before, HasPath, changes_selected, IsOfProcess, visible, IsBeginningOf}

-- The frame of an event, where two states agree on all that it reads. It does the same in both, with the same change of the same file,
-- which is named by its number. Afterwards they agree on what it writes, and on all on which they agreed before. And whatever the
-- other state, what it does not write stays.
pub record IsFramed (s t : SyncState) (e : Event) : Type 0 where
  pub does : Agree s t (step s e).entry.reads → IsAlike (step s e).entry (step t e).entry
  pub edits : Agree s t (step s e).entry.reads → edit_by s.files (step s e).entry.change ≡ edit_by t.files (step t e).entry.change
  pub written : Agree s t (step s e).entry.reads → Agree (step s e).state (step t e).state (step s e).entry.writes
  pub kept : Agree s t (step s e).entry.reads → (c : Carrier) → AgreeOn s t c → AgreeOn (step s e).state (step t e).state c
  pub stays : (c : Carrier) → is_among c (step s e).entry.writes ≡ false → AgreeOn (step s e).state s c

-- The cone of an event e, which comes after the events es, says all that e does.
pub record ConeSuffices (b : Boot) (es : List Event) (e : Event) : Type 0 where
  -- an event is in the cone exactly where a path leads from it to e
  pub paths : (i : ℕ) → (slice_get (path_flags (run_of b es).log (entry_of b es e).reads) i ≡ Some true) ↔ HasPath (run_of b es).log (entry_of b es e) i
  -- after the cone alone, e does what it does after all of es, with the same change of the same file, which is named by its number
  pub does : IsAlike (entry_of b es e) (entry_of b (cone_before b es e) e)
  pub edits : edit_by (run_of b es).sync.files (entry_of b es e).change ≡ edit_by (run_of b (cone_before b es e)).sync.files (entry_of b (cone_before b es e) e).change
  -- a Turn and an Enter get the same answer
  pub answers : IsOfProcess e → answer (with_events (at_boot b) es) e ≡ answer (with_events (at_boot b) (cone_before b es e)) e
  -- each event of the cone does what it did
  pub alike : AreAlike (selected (path_flags (run_of b es).log (entry_of b es e).reads) (run_of b es).log) (run_of b (cone_before b es e)).log
  -- the changes that the cone makes have exactly the numbers of those on which e rests, counted in the whole run
  pub numbers : (k : ℕ) → RestsOn 0 (run_of b es).log (entry_of b es e) k
      ↔ Contains (changes_selected 0 (cone_flags (run_of b es).log (entry_of b es e)) ((run_of b es).log ++ entry_of b es e ∷ [])) k
  -- and the cone alone makes as many
  pub as_many : length (changes_selected 0 (cone_flags (run_of b es).log (entry_of b es e)) ((run_of b es).log ++ entry_of b es e ∷ []))
      ≡ length (changes_in_log ((run_of b (cone_before b es e)).log ++ entry_of b (cone_before b es e) e ∷ []))

-- The run of the visible events gives the committed files, all that terminals show of the whole run, and all that is handed out there to
-- each process that is there.
pub record VisibleSuffice (b : Boot) (es : List Event) : Type 0 where
  -- its changes are exactly the committed ones, in their order, so its files are those after them
  pub changes : changes_in_log (run_of b (visible b es)).log ≡ take (run_of b es).storage.committed (changes_in_log (run_of b es).log)
  pub files : (run_of b (visible b es)).sync.files.living ≡ files_after b.files (take (run_of b es).storage.committed (changes_in_log (run_of b es).log))
  -- what each terminal shows is a beginning of what is written to it there
  pub terminals : (t : ℕ) → IsBeginningOf (shown (run_of b es) t) (contents (printed t (run_of b (visible b es)).log))
  -- What each process is handed that is there, its end included, is all that it is told there. A process whose fork rests on an
  -- uncommitted change is not there, and of what it is handed nothing is said.
  pub traces : (p : ℕ) → p ≤ length (run_of b (visible b es)).sync.processes → handed (run_of b es) p ≡ contents (told p (run_of b (visible b es)).log)
