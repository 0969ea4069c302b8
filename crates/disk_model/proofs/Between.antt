-- In the middle of a move: each disk that a crash leaves there is one that a crash after the move may leave.
use Rattle.std.proofs.Common.{◌≡◌, ℕ, inl, inr, Bool, true, false, List, [], ◌∷◌, ◌++◌, Option, Some, refl, sym, subst}
use Rattle.std.specs.Prelude.{if◌then◌else◌}
use Rattle.std.proofs.lemmas.Bool.{and_parts}
use Rattle.disk_model.specs.declared.change.Piece.{Piece}
use Rattle.disk_model.specs.Storage.{Device, Storage, is_empty, is_quiet, sent, piece_at, with_completion, completed, completed_by, next_stage}
use Rattle.disk_model.specs.Crash.{InRange, IsCrashOf}
use Rattle.disk_model.proofs.Places.{same_less, in_left, in_right, in_either}
use Rattle.disk_model.proofs.Machine.{is_nil}

-- a prefix of a stage's pieces is submitted
pub prefix_submitted : (v : Device) (first others : List Piece) (left : List ℕ) → IsCrashOf (sent v first) left → IsCrashOf (sent v (first ++ others)) left
prefix_submitted v first others left crash =
    same_less (first ++ v.failed) ((first ++ others) ++ v.failed) v.disk left crash (λ i h. elim (in_either first v.failed i h) as (λ _. InRange ((first ++ others) ++ v.failed) i) [
      | inl a ↦ in_left (first ++ others) v.failed i (in_left first others i a)
      | inr b ↦ in_right (first ++ others) v.failed i b
    ])

-- nothing is in flight, and a stage is submitted, or none is left
next_crash : (st : Storage) (stages : List (List Piece)) (left : List ℕ) → st.device.in_flight ≡ [] → IsCrashOf st.device left → IsCrashOf (next_stage st stages).device left
next_crash st [] left none crash = crash
next_crash st (stage ∷ stages) left none crash =
    same_less (st.device.in_flight ++ st.device.failed) (stage ++ st.device.failed) st.device.disk left crash (λ i h. elim (in_either st.device.in_flight st.device.failed i h) as (λ _. InRange (stage ++ st.device.failed) i) [
      | inl a ↦ absurd (subst (λ (ps : List Piece). InRange ps i) none a)
      | inr b ↦ in_right stage st.device.failed i b
    ])

-- a write is complete, and nothing else has happened yet
pub only_completed : (st : Storage) (at : ℕ) (p : Piece) (left : List ℕ) → piece_at st.device.in_flight at ≡ Some p → IsCrashOf (with_completion st.device at p) left → IsCrashOf (completed st at).device left
only_completed st at p left e crash =
    let st1 : Storage = record st { device = with_completion st.device at p } in
    subst (λ (o : Option Piece). IsCrashOf (completed_by st at o).device left) (sym e) (go st1 (is_quiet st1.device) refl crash)
  where
    go : (st1 : Storage) (b : Bool) → is_quiet st1.device ≡ b → IsCrashOf st1.device left → IsCrashOf (if b then next_stage st1 st1.stages else st1).device left
    go st1 true q h = next_crash st1 st1.stages left (is_nil st1.device.in_flight (and_parts (is_empty st1.device.in_flight) (is_empty st1.device.failed) q).0) h
    go st1 false q h = h
