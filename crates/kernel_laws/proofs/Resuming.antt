-- Runs go on from the disks that crashes leave.
use Rattle.std.proofs.Common.{◌≡◌, ℕ, ◌≤◌, List, [], ◌∷◌, ◌++◌, length, take, refl, sym, ap, ◌∙◌, arith}
use Rattle.std.proofs.lemmas.List.{length-take}
use Rattle.disk_model.specs.declared.change.Change.{Change}
use Rattle.disk_model.specs.declared.change.NamedFile.{NamedFile}
use Rattle.disk_model.specs.Files.{files_after}
use Rattle.disk_model.specs.Held.{IsHeldTo, IsHeld, joined}
use Rattle.kernel_laws.specs.Crashes.{HoldsPrefix, SurvivesCrash}
use Rattle.kernel_model.specs.Answers.{committed}
use Rattle.kernel_model.specs.Bytes.{ProgramsHoldBytes, TapesHoldBytes}
use Rattle.kernel_model.specs.Paths.{changes_in_log}
use Rattle.kernel_model.specs.World.{World, Boot, HoldsItsFiles, first_world, after, run_of}
use Rattle.kernel_model.specs.declared.event.Event.{Event}
use Rattle.kernel_laws.specs.Resuming.{IsSound, MayLeave, GoesOn, Crashed, AreRuns, last_boot, ArePrefixes}

-- a disk holds one list of files, up to one gate
abbrev pub HeldOnce : Type 0
HeldOnce = (disk : List ℕ) (gate other : ℕ) (files others : List NamedFile) → IsHeldTo disk gate files → IsHeldTo disk other others → (files ≡ others) × (gate ≡ other)

-- some changes and then others make what all of them make
abbrev pub TurnLaw : Type 0
TurnLaw = (files : List NamedFile) (first later : List Change) → files_after files (first ++ later) ≡ files_after (files_after files first) later

-- what a crash of a run leaves
abbrev pub CrashLaw : Type 0
CrashLaw = (b : Boot) (es : List Event) → HoldsItsFiles b → ProgramsHoldBytes b → TapesHoldBytes b → SurvivesCrash b (after (first_world b) es)

prefix-first : (count : ℕ) (cs : List Change) → count ≤ length cs → length (take count cs) ≡ count
prefix-first count cs h = omega (arith, length-take count cs)

prefix-goes-on : HeldOnce → (b : Boot) (w : World) (next : Boot) → HoldsItsFiles next → HoldsPrefix b w next.disk → GoesOn b w next
prefix-goes-on once b w next held h =
    let size : length (take h.count (changes_in_log w.log)) ≡ h.count = prefix-first h.count (changes_in_log w.log) h.among in
    record {
      kept = take h.count (changes_in_log w.log);
      prefix = record {
        first = ap (λ n. take n (changes_in_log w.log)) (sym size);
        every_committed = (let most : committed w ≤ h.count = h.every_committed in omega (arith, most, size));
      };
      files = (once next.disk next.gate h.held.0 next.files (files_after b.files (take h.count (changes_in_log w.log))) held h.held.1).0;
    }

pub goes-on : HeldOnce → CrashLaw → (b : Boot) (es : List Event) (next : Boot) → IsSound b → HoldsItsFiles next
    → MayLeave (after (first_world b) es) next.disk → GoesOn b (after (first_world b) es) next
goes-on once law b es next sound held left =
    prefix-goes-on once b (after (first_world b) es) next held (law b es sound.held sound.programs sound.tapes next.disk left)

pub is-held : CrashLaw → (b : Boot) (es : List Event) (left : List ℕ) → IsSound b → MayLeave (after (first_world b) es) left
    → (files : List NamedFile) × IsHeld left files
is-held law b es left sound crash =
    let h = law b es sound.held sound.programs sound.tapes left crash in
    (files_after b.files (take h.count (changes_in_log (after (first_world b) es).log)), h.held)

sound-first : (b : Boot) (rs : List Crashed) → AreRuns b rs → IsSound b
sound-first b [] h = h
sound-first b (r ∷ rs) h = h.0

pub chain : HeldOnce → CrashLaw → TurnLaw → (rs : List Crashed) (b : Boot) → AreRuns b rs
    → (prefixes : List (List Change)) × ArePrefixes b rs prefixes × ((last_boot b rs).files ≡ files_after b.files (joined prefixes))
chain once law turn [] b h = ([], tt, refl)
chain once law turn (r ∷ rs) b h =
    let one : GoesOn b (run_of b r.events) r.next = goes-on once law b r.events r.next h.0 (sound-first r.next rs h.2).held h.1 in
    let rest = chain once law turn rs r.next h.2 in (
      one.kept ∷ rest.0,
      (one.prefix, rest.1),
      rest.2
          ∙ ap (λ (fs : List NamedFile). files_after fs (joined rest.0)) one.files
          ∙ sym (turn b.files one.kept (joined rest.0)),
    )
