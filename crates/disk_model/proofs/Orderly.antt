-- A run has its group in order, whatever its disk holds.
use Rattle.std.proofs.Common.{◌≡◌, ℕ, ◌+◌, ◌<◌, ◌≤◌, ◌⊎◌, inl, inr, Bool, true, false, ◌&&◌, List, [], ◌∷◌, ◌++◌, length, drop, Option, Some, None, refl, sym, ap, subst, arith, length-append}
use Rattle.std.specs.Prelude.{if◌then◌else◌}
use Rattle.std.specs.List.{AllByRecursion}
use Rattle.std.proofs.lemmas.Bool.{and_left, both_ways}
use Rattle.std.proofs.lemmas.List.{length-drop}
use Rattle.disk_model.specs.declared.change.Change.{Change}
use Rattle.disk_model.specs.declared.change.NamedFile.{NamedFile}
use Rattle.disk_model.specs.declared.change.Piece.{Piece}
use Rattle.disk_model.specs.Files.{files_after}
use Rattle.disk_model.specs.Spelling.{record_of}
use Rattle.disk_model.specs.Rebuild.{rebuild}
use Rattle.disk_model.specs.Storage.{Storage, is_empty, is_quiet, pieces, fits, group, group_of, checkpoint, group_or_checkpoint, cut, with_completion, without, next_stage, completed, completed_by, failed, failed_by, piece_at}
use Rattle.disk_model.specs.Runs.{Move, Comes, Cuts, Completes, Fails, Run, IsOrderly, first_run, moved, run_after}
use Rattle.disk_model.proofs.Reading.{record_length}
use Rattle.disk_model.proofs.Places.{pieces_some}
use Rattle.disk_model.proofs.Whole.{group_short}

-- each stage has a piece
abbrev HavePieces : List (List Piece) → Type 0
HavePieces stages = AllByRecursion (λ (stage : List Piece). is_empty stage ≡ false) stages

-- with so many changes: either nothing is on its way, or a group is
abbrev Orderly : ℕ → Storage → Type 0
Orderly count st =
    ((is_quiet st.device ≡ true) × (st.stages ≡ []) × (st.committed ≤ count))
    ⊎ ((is_quiet st.device ≡ false) × HavePieces st.stages × (st.committed < st.next_committed) × (st.next_committed ≤ count))

-- ---- both ways of saying it

to_record : (r : Run) → Orderly (length r.changes) r.storage → IsOrderly r
to_record r (inl (quiet, none, among)) = record {
  among = among;
  pieces = subst HavePieces (sym none) tt;
  none = λ _. none;
  more = λ busy. absurd (both_ways (is_quiet r.storage.device) busy quiet);
  most = λ busy. absurd (both_ways (is_quiet r.storage.device) busy quiet);
}
to_record r (inr (busy, some, more, most)) = record {
  among = omega arith;
  pieces = some;
  none = λ quiet. absurd (both_ways (is_quiet r.storage.device) busy quiet);
  more = λ _. more;
  most = λ _. most;
}

from_record : (r : Run) → IsOrderly r → Orderly (length r.changes) r.storage
from_record r h = by (is_quiet r.storage.device) refl
  where
    by : (b : Bool) → is_quiet r.storage.device ≡ b → Orderly (length r.changes) r.storage
    by true e = inl (e, h.none e, h.among)
    by false e = inr (e, h.pieces, h.more e, h.most e)

-- ---- a change comes
more_orderly : (n m : ℕ) (st : Storage) → n ≤ m → Orderly n st → Orderly m st
more_orderly n m st le (inl (quiet, none, among)) = inl (quiet, none, omega arith)
more_orderly n m st le (inr (busy, some, more, most)) = inr (busy, some, more, omega arith)

-- ---- a cut

record_pieces : (at : ℕ) (cs : List Change) → is_empty (pieces at (record_of cs)) ≡ false
record_pieces at cs = pieces_some at (record_of cs) (let l = record_length cs in omega arith)

group_some : (c : Change) (cs : List Change) → 1 ≤ length (group_of (c ∷ cs))
unfolding group_of
group_some c cs = omega arith

module _ (count : ℕ) (st : Storage) (c : Change) (cs : List Change) (room : st.committed + length (c ∷ cs) ≡ count) where
  group_orderly : Orderly count (group st (group_of (c ∷ cs)))
  group_orderly =
      let some = group_some c cs in let short = group_short (c ∷ cs) in
      inr (
        and_left (is_empty (pieces (st.gate + 1) (record_of (group_of (c ∷ cs))))) (is_empty st.device.failed) (record_pieces (st.gate + 1) (group_of (c ∷ cs))),
        (refl, tt),
        omega arith,
        omega arith,
      )

  checkpoint_orderly : (changes : List Change) → Orderly count (checkpoint st (length (c ∷ cs)) changes)
  checkpoint_orderly changes = inr (refl, (record_pieces _ changes, (refl, (refl, tt))), omega arith, omega arith)

  submitted_orderly : (files : List NamedFile) → Orderly count (group_or_checkpoint st (c ∷ cs) files)
  submitted_orderly files = by (fits st (group_of (c ∷ cs)))
    where
      by : (b : Bool) → Orderly count (if b then group st (group_of (c ∷ cs)) else checkpoint st (length (c ∷ cs)) (rebuild files))
      by true = group_orderly
      by false = checkpoint_orderly (rebuild files)

cut_orderly : (changes : List Change) (st : Storage) (files : List NamedFile) → Orderly (length changes) st
    → Orderly (length changes) (cut st (drop st.committed changes) files)
cut_orderly changes st files h = go (drop st.committed changes) refl
  where
    go : (cs : List Change) → drop st.committed changes ≡ cs → Orderly (length changes) (cut st cs files)
    go [] is = h
    go (c ∷ cs) is = by (is_quiet st.device)
      where
        room : st.committed + length (c ∷ cs) ≡ length changes
        room = omega (arith, ap length is, length-drop st.committed changes)

        by : (b : Bool) → Orderly (length changes) (if b then group_or_checkpoint st (c ∷ cs) files else st)
        by true = submitted_orderly (length changes) st c cs room files
        by false = h

-- ---- a write is complete, or has failed

-- with a write in flight a group is on its way
busy_orderly : (count : ℕ) (st : Storage) (at : ℕ) (p : Piece) → piece_at st.device.in_flight at ≡ Some p → Orderly count st
    → HavePieces st.stages × (st.committed < st.next_committed) × (st.next_committed ≤ count)
busy_orderly count st at p e (inl (quiet, none, among)) = absurd (by st.device.in_flight e quiet)
  where
    by : (ps : List Piece) → piece_at ps at ≡ Some p → (is_empty ps && is_empty st.device.failed) ≡ true → ⊥
    by [] e q = absurd cc
    by (x ∷ ps) e q = absurd cc
busy_orderly count st at p e (inr (busy, some, more, most)) = (some, more, most)

stage_orderly : (count : ℕ) (st : Storage) (stages : List (List Piece)) → is_quiet st.device ≡ true → HavePieces stages
    → st.committed < st.next_committed → st.next_committed ≤ count → st.stages ≡ stages → Orderly count (next_stage st stages)
stage_orderly count st [] quiet some more most is = inl (quiet, is, most)
stage_orderly count st (stage ∷ stages) quiet some more most is = inr (and_left (is_empty stage) (is_empty st.device.failed) some.0, some.1, more, most)

completed_orderly : (count : ℕ) (st : Storage) (at : ℕ) → Orderly count st → Orderly count (completed st at)
completed_orderly count st at h = go (piece_at st.device.in_flight at) refl
  where
    go : (o : Option Piece) → piece_at st.device.in_flight at ≡ o → Orderly count (completed_by st at o)
    go None e = h
    go (Some p) e = by (is_quiet (with_completion st.device at p)) refl
      where
        rest : HavePieces st.stages × (st.committed < st.next_committed) × (st.next_committed ≤ count)
        rest = busy_orderly count st at p e h

        done : Storage
        done = record st { device = with_completion st.device at p }

        by : (b : Bool) → is_quiet (with_completion st.device at p) ≡ b → Orderly count (if b then next_stage done st.stages else done)
        by true q = stage_orderly count done st.stages q rest.0 rest.1 rest.2 refl
        by false q = inr (q, rest.0, rest.1, rest.2)

failed_orderly : (count : ℕ) (st : Storage) (at : ℕ) → Orderly count st → Orderly count (failed st at)
failed_orderly count st at h = go (piece_at st.device.in_flight at) refl
  where
    go : (o : Option Piece) → piece_at st.device.in_flight at ≡ o → Orderly count (failed_by st at o)
    go None e = h
    go (Some p) e = let rest = busy_orderly count st at p e h in inr (left (is_empty (without st.device.in_flight at)) st.device.failed, rest.0, rest.1, rest.2)
      where
        left : (b : Bool) (ps : List Piece) → (b && is_empty (ps ++ p ∷ [])) ≡ false
        left true [] = refl
        left true (x ∷ ps) = refl
        left false ps = refl

-- ---- a run
moved_orderly : (files : List NamedFile) (r : Run) (m : Move) → Orderly (length r.changes) r.storage
    → Orderly (length (moved files r m).changes) (moved files r m).storage
moved_orderly files r (Comes c) h = more_orderly (length r.changes) (length (r.changes ++ c ∷ [])) r.storage (omega (arith, length-append r.changes (c ∷ []))) h
moved_orderly files r Cuts h = cut_orderly r.changes r.storage (files_after files r.changes) h
moved_orderly files r (Completes at) h = completed_orderly (length r.changes) r.storage at h
moved_orderly files r (Fails at) h = failed_orderly (length r.changes) r.storage at h

pub run_after_orderly : (files : List NamedFile) (ms : List Move) (r : Run) → IsOrderly r → IsOrderly (run_after files r ms)
run_after_orderly files [] r h = h
run_after_orderly files (m ∷ ms) r h = run_after_orderly files ms (moved files r m) (to_record (moved files r m) (moved_orderly files r m (from_record r h)))

pub first_orderly : (disk : List ℕ) (gate : ℕ) → IsOrderly (first_run disk gate)
first_orderly disk gate = to_record (first_run disk gate) (inl (refl, refl, omega arith))
