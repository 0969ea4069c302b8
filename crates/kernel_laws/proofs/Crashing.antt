-- Each change of a run is possible where it comes, so that what a crash of the disk's run leaves holds a prefix of the changes.
use Rattle.std.proofs.Common.{◌≤◌, List, [], ◌∷◌, length, take, Option, Some, None, option_to_list, IfSome, refl, sym, subst}
use Rattle.disk_model.specs.declared.change.Change.{Change}
use Rattle.disk_model.specs.declared.change.NamedFile.{NamedFile}
use Rattle.disk_model.specs.Files.{Follow, IsMade, files_after, IsPossible}
use Rattle.disk_model.specs.Held.{IsHeld}
use Rattle.disk_model.specs.Runs.{Run, changes_in_moves}
use Rattle.disk_model.specs.Crash.{IsCrashOf}
use Rattle.kernel_model.specs.Bytes.{ProgramsHoldBytes, TapesHoldBytes}
use Rattle.kernel_model.specs.Paths.{changes_in_log}
use Rattle.kernel_model.specs.Steps.{step}
use Rattle.kernel_model.specs.World.{World, Boot, HoldsItsFiles, first_world, happens, after}
use Rattle.kernel_model.specs.declared.event.Event.{Event}
use Rattle.kernel_model.proofs.Folding.{IsFoldOf, happens_folded}
use Rattle.kernel_model.proofs.LimitRuns.{AllStand, step_kept, first_world_stand, stand_limits}
use Rattle.kernel_model.proofs.Runs.{changes_in_log-entry}
use Rattle.kernel_laws.specs.Crashes.{SurvivesCrash}
use Rattle.kernel_laws.proofs.DiskLaws.{DiskLaws}
use Rattle.kernel_laws.proofs.DiskRuns.{IsDiskRun, disk_run}
use Rattle.kernel_laws.proofs.Sound.{AreFit, step_fit, first_world_fit}

-- what holds all along
record IsPossibleRun (b : Boot) (w : World) : Type 0 where
  pub stand : AllStand (length b.programs) w.sync
  pub fit : AreFit w.sync
  pub folded : IsFoldOf b.files w
  pub possible : Follow b.files (changes_in_log w.log)

one_follows : (files : List NamedFile) (o : Option Change) → IfSome o (IsPossible files) → Follow files (option_to_list o)
one_follows files None h = tt
one_follows files (Some c) h = (h.0, h.1, tt)

happens_possible : DiskLaws → (b : Boot) (w : World) (e : Event) → IsPossibleRun b w → IsPossibleRun b (happens w e)
happens_possible laws b w e h =
    let entry = (step w.sync e).entry in
    let goes = step_fit laws w.sync e (stand_limits (length b.programs) w.sync h.stand) h.fit in
    let follows : Follow (files_after b.files (changes_in_log w.log)) (option_to_list entry.change) =
    subst (λ (fs : List NamedFile). Follow fs (option_to_list entry.change)) h.folded (one_follows w.sync.files.living entry.change goes.possible) in
    record {
      stand = (step_kept (length b.programs) w.sync e h.stand).stand;
      fit = goes.fit;
      folded = happens_folded b.files w e h.folded;
      possible = subst (λ (cs : List Change). Follow b.files cs) (sym (changes_in_log-entry w.log entry))
          (laws.possible b.files (changes_in_log w.log) (option_to_list entry.change) h.possible follows);
    }

after_possible : DiskLaws → (b : Boot) (es : List Event) (w : World) → IsPossibleRun b w → IsPossibleRun b (after w es)
after_possible laws b [] w h = h
after_possible laws b (e ∷ es) w h = after_possible laws b es (happens w e) (happens_possible laws b w e h)

first_world_possible : (b : Boot) → IsMade b.files → ProgramsHoldBytes b → TapesHoldBytes b → IsPossibleRun b (first_world b)
first_world_possible b made programs tapes = record { stand = first_world_stand b; fit = first_world_fit b made programs tapes; folded = refl; possible = tt }

-- ---- the law
run_survives : DiskLaws → (b : Boot) (w : World) → HoldsItsFiles b → IsDiskRun b w → Follow b.files (changes_in_log w.log) → SurvivesCrash b w
run_survives laws b w held h possible left crash =
    let follow : Follow b.files (changes_in_moves h.moves) = subst (λ (cs : List Change). Follow b.files cs) (sym h.changes) possible in
    let k = laws.crashes b.disk b.gate b.files held h.moves follow left (subst (λ (r : Run). IsCrashOf r.storage.device left) (sym h.runs) crash) in
    record {
      count = k.0;
      every_committed = subst (λ (r : Run). r.storage.committed ≤ k.0) h.runs k.1;
      among = subst (λ (cs : List Change). k.0 ≤ length cs) h.changes k.2;
      held = subst (λ (cs : List Change). IsHeld left (files_after b.files (take k.0 cs))) h.changes k.3;
    }

pub crash_keeps : DiskLaws → (b : Boot) (es : List Event) → HoldsItsFiles b → ProgramsHoldBytes b → TapesHoldBytes b
    → SurvivesCrash b (after (first_world b) es)
crash_keeps laws b es held programs tapes =
    let made : IsMade b.files = laws.made b.disk b.gate b.files held in
    let possible = after_possible laws b es (first_world b) (first_world_possible b made programs tapes) in
    run_survives laws b (after (first_world b) es) held (disk_run b es) possible.possible
