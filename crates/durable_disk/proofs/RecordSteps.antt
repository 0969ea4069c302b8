-- The record of a file, piece by piece.
use Rattle.std.proofs.Common.{◌≡◌, ℕ, zero, suc, ◌+◌, ◌<◌, ◌≤◌, Bool, true, false, List, [], ◌∷◌, length, drop, get_or, Result, Ok, Err, is_ok, is_err, refl, sym, ap, ◌∙◌, arith}
use Rattle.std.proofs.lemmas.List.{drop_more}
use Rattle.disk_model.specs.declared.change.Piece.{Piece}
use Rattle.durable_disk.specs.FileRecords.{FileRecord, wrote, synced, stored, refused_at}
use Rattle.durable_disk.specs.Stages.{IsAsked}

-- the record so far, r, and the pieces from this one on, make the whole one
pub record SoFar (start : FileRecord) (all : List Piece) (r : FileRecord) (i : ℕ) : Type 0 where
  pub whole : stored r (drop i all) ≡ stored start all
  pub part : (k : ℕ) → refused_at r (drop i all) k ≡ refused_at start all (i + k)

pub begins : (start : FileRecord) (all : List Piece) → SoFar start all start 0
begins start all = record { whole = refl; part = λ k. ap (refused_at start all) (let e : k ≡ 0 + k = omega arith in e) }

pub goes_on : (start r new : FileRecord) (all : List Piece) (i : ℕ) (p : Piece) (is_done : Bool) → i < length all → get_or all i p ≡ p
    → new ≡ wrote r p is_done → is_done ≡ true → SoFar start all r i → SoFar start all new (i + 1)
goes_on start r new all i p is_done lt at is done h =
    let rest : drop i all ≡ p ∷ drop (i + 1) all = drop_more all i p lt ∙ ap (λ (x : Piece). x ∷ drop (i + 1) all) at in
    let now : new ≡ wrote r p true = is ∙ ap (wrote r p) done in
    record {
      whole = ap (λ (q : FileRecord). stored q (drop (i + 1) all)) now ∙ sym (ap (stored r) rest) ∙ h.whole;
      part = λ k. ap (λ (q : FileRecord). refused_at q (drop (i + 1) all) k) now ∙ sym (ap (λ (ps : List Piece). refused_at r ps (suc k)) rest)
          ∙ h.part (suc k) ∙ ap (refused_at start all) (let e : i + suc k ≡ i + 1 + k = omega arith in e);
    }

pub fails : (start r new : FileRecord) (all : List Piece) (i : ℕ) (p : Piece) (is_done : Bool) → i < length all → get_or all i p ≡ p
    → new ≡ wrote r p is_done → is_done ≡ false → SoFar start all r i → IsAsked false all start new
fails start r new all i p is_done lt at is refused h =
    let rest : drop i all ≡ p ∷ drop (i + 1) all = drop_more all i p lt ∙ ap (λ (x : Piece). x ∷ drop (i + 1) all) at in
    (i + 0, is ∙ ap (wrote r p) refused ∙ sym (ap (λ (ps : List Piece). refused_at r ps 0) rest) ∙ h.part 0)

past_end : (all : List Piece) (i : ℕ) → length all ≤ i → drop i all ≡ []
past_end [] zero le = refl
past_end [] (suc i) le = refl
past_end (p ∷ ps) zero le = absurd (omega arith)
past_end (p ∷ ps) (suc i) le = past_end ps i (omega arith)

pub ends : (start r new : FileRecord) (all : List Piece) (i : ℕ) (is_done : Bool) → length all ≤ i
    → new ≡ synced r is_done → SoFar start all r i → IsAsked is_done all start new
ends start r new all i true le is h = is ∙ sym (ap (stored r) (past_end all i le)) ∙ h.whole
ends start r new all i false le is h = (i + 0, is ∙ sym (ap (λ (ps : List Piece). refused_at r ps 0) (past_end all i le)) ∙ h.part 0)

-- whether a call was done, by the test that it was refused
pub is_done : {A E : Type 0} (r : Result A E) (test : Bool) → test ≡ is_err r → test ≡ false → is_ok r ≡ true
is_done (Ok a) test is not = refl
is_done (Err why) test is not = cc

pub is_refused : {A E : Type 0} (r : Result A E) (test : Bool) → test ≡ is_err r → test ≡ true → is_ok r ≡ false
is_refused (Ok a) test is not = cc
is_refused (Err why) test is not = refl
