-- What no event lowers.
use Rattle.std.proofs.Common.{◌≡◌, ℕ, ◌<◌, ◌≤◌, Bool, true, false, ◌&&◌, ◌==◌, List, [], ◌∷◌, length, drop, option_to_list, Option, Some, None, is_some, refl, ap, arith}
use Rattle.std.specs.Prelude.{if◌then◌else◌}
use Rattle.std.proofs.lemmas.List.{length-append}
use Rattle.disk_model.specs.declared.change.Change.{Change}
use Rattle.disk_model.specs.declared.change.Piece.{Piece}
use Rattle.disk_model.specs.Storage.{Storage, completed_by, failed_by, is_empty, is_quiet, piece_at}
use Rattle.disk_model.specs.Runs.{IsOrderly}
use Rattle.disk_model.proofs.Cutting.{cut-committed}
use Rattle.kernel_model.specs.Answers.{Kernel, now, committed, changes, with_event, with_events, writes_to_come}
use Rattle.kernel_model.specs.Paths.{changes_in_log}
use Rattle.kernel_model.specs.Steps.{step}
use Rattle.kernel_model.specs.World.{World, happens}
use Rattle.kernel_model.specs.declared.event.Event.{Event}
use Rattle.kernel_model.specs.declared.event.Event.TheVariants.{Turn, Enter, Cut, Complete, Fail}
use Rattle.kernel_model.proofs.Runs.{changes_in_log-entry, now-with_event}
use Rattle.kernel_laws.proofs.DiskLaws.{OrderLaw}
use Rattle.kernel_laws.proofs.DiskRuns.{device_run}
use Rattle.kernel_laws.proofs.Groups.{commits, run_orderly}

-- ---- how many changes are committed

-- a write that is there is in flight
in-flight : (ps : List Piece) (at : ℕ) → is_some (piece_at ps at) ≡ true → is_empty ps ≡ false
in-flight [] at there = cc
in-flight (p ∷ ps) at there = refl

completion-keeps : (w : World) (at : ℕ) → IsOrderly (device_run w) → committed w ≤ committed (happens w (Complete at))
completion-keeps w at h = go (piece_at w.storage.device.in_flight at) refl
  where
    by : (b : Bool) → w.storage.committed < w.storage.next_committed → w.storage.committed ≤ (if b then w.storage.next_committed else w.storage.committed)
    by true more = omega (arith, more)
    by false more = omega arith

    go : (o : Option Piece) → piece_at w.storage.device.in_flight at ≡ o → w.storage.committed ≤ (completed_by w.storage at o).committed
    go None e = omega arith
    go (Some p) e =
        let there : is_some (piece_at w.storage.device.in_flight at) ≡ true = ap (λ (o : Option Piece). is_some o) e in
        let busy : is_quiet w.storage.device ≡ false = ap (λ (b : Bool). b && is_empty w.storage.device.failed) (in-flight w.storage.device.in_flight at there) in
        let more : w.storage.committed < w.storage.next_committed = h.more busy in
        let one = commits w at h there in
        let same : (completed_by w.storage at (piece_at w.storage.device.in_flight at)).committed ≡ (completed_by w.storage at (Some p)).committed =
        ap (λ (o : Option Piece). (completed_by w.storage at o).committed) e in
        let most = by (is_empty w.storage.device.failed && writes_to_come w.storage == 1) more in
        omega (arith, one, same, most)

failure-keeps : (st : Storage) (at : ℕ) (o : Option Piece) → (failed_by st at o).committed ≡ st.committed
failure-keeps st at None = refl
failure-keeps st at (Some p) = refl

committed-rises : (w : World) (e : Event) → IsOrderly (device_run w) → committed w ≤ committed (happens w e)
committed-rises w (Turn pid n) h = omega arith
committed-rises w (Enter pid) h = omega arith
committed-rises w Cut h =
    let same = cut-committed w.storage (drop w.storage.committed (changes_in_log w.log)) w.sync.files.living in omega (arith, same)
committed-rises w (Complete at) h = completion-keeps w at h
committed-rises w (Fail at) h = let same = failure-keeps w.storage at (piece_at w.storage.device.in_flight at) in omega (arith, same)

-- ---- how many changes there are
changes-rise : (w : World) (e : Event) → changes w ≤ changes (happens w e)
changes-rise w e =
    let one = ap (λ (cs : List Change). length cs) (changes_in_log-entry w.log (step w.sync e).entry) in
    let all = length-append (changes_in_log w.log) (option_to_list (step w.sync e).entry.change) in
    omega (arith, one, all)

-- ---- events, one after the other
pub committed-never-falls : OrderLaw → (k : Kernel) (es : List Event) → committed (now k) ≤ committed (now (with_events k es))
committed-never-falls law k [] = omega arith
committed-never-falls law k (e ∷ es) =
    let one = committed-rises (now k) e (run_orderly law k.boot k.history) in
    let rest = committed-never-falls law (with_event k e) es in
    let same : committed (now (with_event k e)) ≡ committed (happens (now k) e) = ap committed (now-with_event k e) in
    omega (arith, one, rest, same)

pub changes-never-fall : (k : Kernel) (es : List Event) → changes (now k) ≤ changes (now (with_events k es))
changes-never-fall k [] = omega arith
changes-never-fall k (e ∷ es) =
    let one = changes-rise (now k) e in
    let rest = changes-never-fall (with_event k e) es in
    let same : changes (now (with_event k e)) ≡ changes (happens (now k) e) = ap changes (now-with_event k e) in
    omega (arith, one, rest, same)
