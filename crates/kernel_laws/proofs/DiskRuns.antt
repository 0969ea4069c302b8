-- The disk of a run is that of a run of the disk.
use Rattle.std.proofs.Common.{append-nil, ◌≡◌, List, [], ◌∷◌, ◌++◌, drop, Option, Some, None, option_to_list, refl, sym, ap, ◌∙◌}
use Rattle.disk_model.specs.declared.change.Change.{Change}
use Rattle.disk_model.specs.declared.change.NamedFile.{NamedFile}
use Rattle.disk_model.specs.Storage.{Storage, cut, completed, failed}
use Rattle.disk_model.specs.Runs.{Move, Comes, Cuts, Completes, Fails, Run, first_run, moved, run_after, changes_in_moves}
use Rattle.kernel_model.specs.Entries.{Entry}
use Rattle.kernel_model.specs.Paths.{changes_in_log}
use Rattle.kernel_model.specs.Steps.{disk_entry, step}
use Rattle.kernel_model.specs.World.{World, Boot, first_world, happens, after}
use Rattle.kernel_model.specs.declared.event.Event.{Event}
use Rattle.kernel_model.specs.declared.event.Event.TheVariants.{Turn, Enter, Cut, Complete, Fail}
use Rattle.kernel_model.proofs.Folding.{IsFoldOf, happens_folded}
use Rattle.kernel_model.proofs.Runs.{changes_in_log-entry}

-- ---- an event as moves of the disk

come : Option Change → List Move
come None = []
come (Some c) = Comes c ∷ []

moves_of : Event → Option Change → List Move
moves_of (Turn pid n) o = come o
moves_of (Enter pid) o = come o
moves_of Cut o = Cuts ∷ []
moves_of (Complete at) o = Completes at ∷ []
moves_of (Fail at) o = Fails at ∷ []

come_changes : (o : Option Change) → changes_in_moves (come o) ≡ option_to_list o
unfolding come
come_changes None = refl
come_changes (Some c) = refl

changes_in_moves-append : (ms ns : List Move) → changes_in_moves (ms ++ ns) ≡ changes_in_moves ms ++ changes_in_moves ns
changes_in_moves-append [] ns = refl
changes_in_moves-append (Comes c ∷ ms) ns = ap (λ cs. c ∷ cs) (changes_in_moves-append ms ns)
changes_in_moves-append (Cuts ∷ ms) ns = changes_in_moves-append ms ns
changes_in_moves-append (Completes at ∷ ms) ns = changes_in_moves-append ms ns
changes_in_moves-append (Fails at ∷ ms) ns = changes_in_moves-append ms ns

run_after-append : (files : List NamedFile) (r : Run) (ms ns : List Move) → run_after files r (ms ++ ns) ≡ run_after files (run_after files r ms) ns
run_after-append files r [] ns = refl
run_after-append files r (m ∷ ms) ns = run_after-append files (moved files r m) ms ns

-- the changes of an event are those of its moves
event_changes : (w : World) (e : Event) → changes_in_moves (moves_of e (step w.sync e).entry.change) ≡ option_to_list (step w.sync e).entry.change
unfolding moves_of
event_changes w (Turn pid n) = come_changes (step w.sync (Turn pid n)).entry.change
event_changes w (Enter pid) = come_changes (step w.sync (Enter pid)).entry.change
event_changes w Cut = refl
event_changes w (Complete at) = refl
event_changes w (Fail at) = refl

-- the changes so far, and the disk
abbrev pub device_run : World → Run
device_run w = record { changes = changes_in_log w.log; storage = w.storage }

come_runs : (files : List NamedFile) (cs : List Change) (st : Storage) (o : Option Change)
    → run_after files (record { changes = cs; storage = st }) (come o) ≡ record { changes = cs ++ option_to_list o; storage = st }
unfolding come
come_runs files cs st None = ap (λ (ds : List Change). record { changes = ds; storage = st }) (sym (append-nil cs))
come_runs files cs st (Some c) = refl

-- the entry of an event of the disk adds no change
same_changes : (log : List Entry) → changes_in_log (log ++ disk_entry ∷ []) ≡ changes_in_log log
same_changes log = changes_in_log-entry log disk_entry ∙ append-nil (changes_in_log log)

-- an event does to the disk what its moves do
event_runs : (files : List NamedFile) (w : World) (e : Event) → IsFoldOf files w
    → run_after files (device_run w) (moves_of e (step w.sync e).entry.change) ≡ device_run (happens w e)
unfolding moves_of
event_runs files w (Turn pid n) folded =
    come_runs files (changes_in_log w.log) w.storage (step w.sync (Turn pid n)).entry.change
    ∙ ap (λ (cs : List Change). record { changes = cs; storage = w.storage }) (sym (changes_in_log-entry w.log (step w.sync (Turn pid n)).entry))
event_runs files w (Enter pid) folded =
    come_runs files (changes_in_log w.log) w.storage (step w.sync (Enter pid)).entry.change
    ∙ ap (λ (cs : List Change). record { changes = cs; storage = w.storage }) (sym (changes_in_log-entry w.log (step w.sync (Enter pid)).entry))
event_runs files w Cut folded =
    ap (λ (fs : List NamedFile). record { changes = changes_in_log w.log; storage = cut w.storage (drop w.storage.committed (changes_in_log w.log)) fs }) (sym folded)
    ∙ ap (λ (cs : List Change). record { changes = cs; storage = cut w.storage (drop w.storage.committed (changes_in_log w.log)) w.sync.files.living }) (sym (same_changes w.log))
event_runs files w (Complete at) folded =
    ap (λ (cs : List Change). record { changes = cs; storage = completed w.storage at }) (sym (same_changes w.log))
event_runs files w (Fail at) folded =
    ap (λ (cs : List Change). record { changes = cs; storage = failed w.storage at }) (sym (same_changes w.log))

-- ---- a run

-- some moves of the disk are those of the run, and the run's files are what its changes made
pub record IsDiskRun (b : Boot) (w : World) : Type 0 where
  pub folded : IsFoldOf b.files w
  pub moves : List Move
  pub changes : changes_in_moves moves ≡ changes_in_log w.log
  pub runs : run_after b.files (first_run b.disk b.gate) moves ≡ device_run w

happens_runs : (b : Boot) (w : World) (e : Event) → IsDiskRun b w → IsDiskRun b (happens w e)
happens_runs b w e h =
    let entry = (step w.sync e).entry in
    let more = moves_of e entry.change in
    record {
      folded = happens_folded b.files w e h.folded;
      moves = h.moves ++ more;
      changes = changes_in_moves-append h.moves more
          ∙ ap (λ (cs : List Change). cs ++ changes_in_moves more) h.changes
          ∙ ap (λ (cs : List Change). changes_in_log w.log ++ cs) (event_changes w e)
          ∙ sym (changes_in_log-entry w.log entry);
      runs = run_after-append b.files (first_run b.disk b.gate) h.moves more
          ∙ ap (λ (r : Run). run_after b.files r more) h.runs
          ∙ event_runs b.files w e h.folded;
    }

after_runs : (b : Boot) (es : List Event) (w : World) → IsDiskRun b w → IsDiskRun b (after w es)
after_runs b [] w h = h
after_runs b (e ∷ es) w h = after_runs b es (happens w e) (happens_runs b w e h)

pub disk_run : (b : Boot) (es : List Event) → IsDiskRun b (after (first_world b) es)
disk_run b es = after_runs b es (first_world b) (record { folded = refl; moves = []; changes = refl; runs = refl })
