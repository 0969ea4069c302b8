-- The ends of a stage.
use Rattle.std.proofs.Common.{◌≡◌, ◌<◌, ℕ, Bool, true, false, List, [], ◌∷◌, ◌++◌, length, Result, Ok, Err, inl, inr, refl, ap, subst, ◌∙◌}
use Rattle.disk_model.specs.declared.change.Piece.{Piece}
use Rattle.durable_disk.specs.FileRecords.{FileRecord}
use Rattle.durable_disk.specs.Stages.{IsAsked, IsToldAll, IsToldSome, staging, CommitsStage}
use Rattle.durable_disk.specs.declared.core_call.CoreCall.{CoreCall}
use Rattle.durable_disk.specs.declared.core_call.CoreCall.TheVariants.{InFlight}

module _ {E : Type 0} (submitted : List Piece → Type 0) (calls calls_then : List CoreCall) (file : FileRecord) (left : ℕ) where
  pub unasked : (why : E) → calls_then ≡ calls → CommitsStage submitted (staging calls file left) (staging calls_then file left) (Err why)
  unasked why same = inl (ap (λ (cs : List CoreCall). staging cs file left) same)

  pub idle : (ps : List Piece) → calls_then ≡ calls ++ InFlight (length ps) ∷ [] → length ps ≡ 0
      → CommitsStage submitted (staging calls file left) (staging calls_then file left) (let r : Result Bool E = Ok false in r)
  idle ps is none =
      inl (refl, ap (λ (cs : List CoreCall). staging cs file left) (is ∙ ap (λ (n : ℕ). calls ++ InFlight n ∷ []) none))

  module _ (ps : List Piece) (is_stored : Bool) (calls_asked : List CoreCall) (file_then : FileRecord) (left_then : ℕ) (are : submitted ps)
      (is : calls_asked ≡ calls ++ InFlight (length ps) ∷ []) (some : 0 < length ps) (asked : IsAsked is_stored ps file file_then) where
    pub committed : IsToldAll is_stored ps calls_asked left calls_then left_then
        → CommitsStage submitted (staging calls file left) (staging calls_then file_then left_then) (let r : Result Bool E = Ok true in r)
    committed told = inr (record {
      pieces = ps;
      are_submitted = are;
      some = some;
      is_stored = is_stored;
      asked_file = asked;
      is_told = (refl, subst (λ (cs : List CoreCall). IsToldAll is_stored ps cs left calls_then left_then) is told);
    })

    pub stopped : (why : E) → IsToldSome is_stored ps calls_asked left calls_then
        → CommitsStage submitted (staging calls file left) (staging calls_then file_then left_then) (Err why)
    stopped why told = inr (record {
      pieces = ps;
      are_submitted = are;
      some = some;
      is_stored = is_stored;
      asked_file = asked;
      is_told = subst (λ (cs : List CoreCall). IsToldSome is_stored ps cs left calls_then) is told;
    })
