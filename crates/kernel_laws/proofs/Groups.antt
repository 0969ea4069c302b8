-- The group that a run has on its way, and how its writes are counted down.
use Rattle.std.proofs.Common.{◌≡◌, ℕ, suc, ◌+◌, ◌<◌, ◌≤◌, ◌==◌, Bool, true, false, ◌&&◌, List, [], ◌∷◌, length, Option, Some, None, is_some, refl, sym, ap, subst, ◌∙◌, arith}
use Rattle.std.specs.Prelude.{if◌then◌else◌}
use Rattle.std.specs.List.{AllByRecursion}
use Rattle.std.proofs.lemmas.Bool.{and_right}
use Rattle.std.proofs.lemmas.Bool.Decides.{nat_tests}
use Rattle.disk_model.specs.declared.change.Piece.{Piece}
use Rattle.disk_model.specs.Storage.{Storage, is_empty, next_stage, completed, completed_by, piece_at, with_completion, without}
use Rattle.disk_model.specs.Runs.{IsOrderly}
use Rattle.kernel_model.specs.Answers.{committed, changes, piece_count, writes_to_come}
use Rattle.kernel_model.specs.World.{World, Boot, first_world, happens, after}
use Rattle.kernel_model.specs.declared.event.Event.{Event}
use Rattle.kernel_model.specs.declared.event.Event.TheVariants.{Complete}
use Rattle.kernel_laws.proofs.DiskLaws.{OrderLaw}
use Rattle.kernel_laws.proofs.DiskRuns.{device_run, disk_run}

-- ---- the group
pub run_orderly : OrderLaw → (b : Boot) (es : List Event) → IsOrderly (device_run (after (first_world b) es))
run_orderly law b es = let r = disk_run b es in subst IsOrderly r.runs (law b.disk b.gate b.files r.moves)

pub failed_uncommitted : (w : World) → IsOrderly (device_run w) → is_empty w.storage.device.failed ≡ false → committed w < changes w
failed_uncommitted w h some =
    let busy = and_right (is_empty w.storage.device.in_flight) (is_empty w.storage.device.failed) some in
    let more = h.more busy in let most = h.most busy in omega arith

-- ---- a completion
without_one : (ps : List Piece) (at : ℕ) (p : Piece) → piece_at ps at ≡ Some p → length ps ≡ suc (length (without ps at))
without_one [] at p e = absurd cc
without_one (x ∷ ps) at p e = elim (x.at == at) as (λ b. (if b then Some x else piece_at ps at) ≡ Some p → length (x ∷ ps) ≡ suc (length (if b then ps else x ∷ without ps at))) [
  | true ↦ λ _. refl
  | false ↦ λ there. ap suc (without_one ps at p there)
] e

-- once this write is complete, which begins there
abbrev done : Storage → ℕ → Piece → Storage
done st at p = record st { device = with_completion st.device at p }

-- where the pieces left in flight and those that failed are these, and these stages are to come
counted : (left broken : List Piece) (stages : List (List Piece)) (st : Storage) → st.device.in_flight ≡ left → st.stages ≡ stages
    → suc (length left) + piece_count stages ≡ suc (writes_to_come (if (is_empty left && is_empty broken) then next_stage st stages else st))
counted [] [] [] st flight is = omega (arith, ap (λ (ps : List Piece). length ps) flight, ap piece_count is)
counted [] [] (stage ∷ stages) st flight is = omega arith
counted [] (x ∷ broken) stages st flight is = omega (arith, ap (λ (ps : List Piece). length ps) flight, ap piece_count is)
counted (x ∷ left) broken stages st flight is = omega (arith, ap (λ (ps : List Piece). length ps) flight, ap piece_count is)

pub counts_down : (st : Storage) (at : ℕ) → is_some (piece_at st.device.in_flight at) ≡ true → writes_to_come st ≡ writes_to_come (completed st at) + 1
counts_down st at there = go (piece_at st.device.in_flight at) refl there
  where
    go : (o : Option Piece) → piece_at st.device.in_flight at ≡ o → is_some o ≡ true → writes_to_come st ≡ writes_to_come (completed_by st at o) + 1
    go None e some = absurd cc
    go (Some p) e some =
        let fewer = without_one st.device.in_flight at p e in
        let one = counted (without st.device.in_flight at) st.device.failed st.stages (done st at p) refl refl in
        omega (arith, fewer, one)

-- more than one is not one
not_one : (n : ℕ) → 2 ≤ n → (n == 1) ≡ false
not_one n more = grind (arith, nat_tests)

committed_by : (left broken : List Piece) (stages : List (List Piece)) (st : Storage) → AllByRecursion (λ (stage : List Piece). is_empty stage ≡ false) stages
    → (if (is_empty left && is_empty broken) then next_stage st stages else st).committed
    ≡ (if is_empty broken && (suc (length left) + piece_count stages == 1) then st.next_committed else st.committed)
committed_by [] [] [] st some = refl
committed_by [] [] ([] ∷ stages) st some = absurd (let no = some.0 in cc)
committed_by [] [] ((x ∷ stage) ∷ stages) st some =
    ap (λ (b : Bool). if b then st.next_committed else st.committed) (sym (not_one (1 + piece_count ((x ∷ stage) ∷ stages)) (omega arith)))
committed_by [] (y ∷ broken) stages st some = refl
committed_by (x ∷ left) [] stages st some =
    ap (λ (b : Bool). if b then st.next_committed else st.committed) (sym (not_one (suc (length (x ∷ left)) + piece_count stages) (omega arith)))
committed_by (x ∷ left) (y ∷ broken) stages st some = refl

pub commits : (w : World) (at : ℕ) → IsOrderly (device_run w) → is_some (piece_at w.storage.device.in_flight at) ≡ true
    → committed (happens w (Complete at))
    ≡ (if is_empty w.storage.device.failed && writes_to_come w.storage == 1 then w.storage.next_committed else committed w)
commits w at h there = go (piece_at w.storage.device.in_flight at) refl there
  where
    go : (o : Option Piece) → piece_at w.storage.device.in_flight at ≡ o → is_some o ≡ true
        → (completed_by w.storage at o).committed
        ≡ (if is_empty w.storage.device.failed && writes_to_come w.storage == 1 then w.storage.next_committed else committed w)
    go None e some = absurd cc
    go (Some p) e some =
        let st = w.storage in
        committed_by (without st.device.in_flight at) st.device.failed st.stages (done st at p) h.pieces
        ∙ ap (λ (n : ℕ). if is_empty st.device.failed && n + piece_count st.stages == 1 then st.next_committed else st.committed) (sym (without_one st.device.in_flight at p e))
