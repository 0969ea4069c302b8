-- The commit of a stage: the writes in flight at a core, a file, and what the core is told of them.
use Rattle.std.specs.Prelude.{◌≡◌, ◌⊎◌, ℕ, ◌-◌, ◌<◌, ◌==◌, ◌&&◌, not, if◌then◌else◌, Bool, true, false, List, [], ◌∷◌, ◌++◌, length, Result, Ok, Err}
use Rattle.disk_model.specs.declared.change.Piece.{Piece}
use Rattle.durable_disk.specs.FileRecords.{FileRecord, stored, refused_at}
use Rattle.durable_disk.specs.declared.core_call.CoreCall.{CoreCall}
use Rattle.durable_disk.specs.declared.core_call.CoreCall.TheVariants.{InFlight, Complete, Fail}

-- a write is complete, where the completion of number `left` from now on is to fail, if any is: the file holds it, and it is not that one
abbrev pub completes : Bool → ℕ → Bool
completes is_stored left = is_stored && not (left == 1)

-- what the core is told of the write that begins here: that it is complete, or that it has failed
abbrev pub call_of_end : Bool → ℕ → CoreCall
call_of_end is_complete at = if is_complete then Complete at else Fail at

-- the same by whether the file holds it
abbrev pub end_of : Bool → ℕ → ℕ → CoreCall
end_of is_stored left at = call_of_end (completes is_stored left) at

-- the number of the one that is to fail after that: where the file does not hold the write, no completion is counted
abbrev pub left_after : Bool → ℕ → ℕ
left_after is_stored left = if is_stored then left - 1 else left

-- the same of these writes, one after the other
abbrev pub ends_of : Bool → ℕ → List Piece → List CoreCall
ends_of is_stored left [] = []
ends_of is_stored left (p ∷ ps) = end_of is_stored left p.at ∷ ends_of is_stored (left_after is_stored left) ps

abbrev pub left_after_all : Bool → ℕ → List Piece → ℕ
left_after_all is_stored left [] = left
left_after_all is_stored left (p ∷ ps) = left_after_all is_stored (left_after is_stored left) ps

-- the core was told of all these pieces
abbrev pub IsToldAll : Bool → List Piece → List CoreCall → ℕ → List CoreCall → ℕ → Type 0
IsToldAll is_stored ps old left new left_then = (new ≡ old ++ ends_of is_stored left ps) × (left_then ≡ left_after_all is_stored left ps)

-- the core was told of the first of them
pub record IsToldSome (is_stored : Bool) (ps : List Piece) (old : List CoreCall) (left : ℕ) (new : List CoreCall) : Type 0 where
  pub told : List CoreCall
  pub rest : List CoreCall
  pub first : told ++ rest ≡ ends_of is_stored left ps
  pub new_is : new ≡ old ++ told

-- what the file was asked: the host did all of it, or it refused a call
abbrev pub IsAsked : Bool → List Piece → FileRecord → FileRecord → Type 0
IsAsked true ps old new = new ≡ stored old ps
IsAsked false ps old new = (k : ℕ) × (new ≡ refused_at old ps k)

-- where a run stands: the core's calls, the file's record, and the number of the completion from now on that is to fail, or 0
pub record Staging : Type 0 where
  pub calls : List CoreCall
  pub file : FileRecord
  pub left : ℕ

abbrev pub staging : List CoreCall → FileRecord → ℕ → Staging
staging calls file left = record { calls = calls; file = file; left = left }

-- the same, where the core was then asked for the writes in flight and gave so many
abbrev pub asked : Staging → ℕ → Staging
asked s count = staging (s.calls ++ InFlight count ∷ []) s.file s.left

-- what was told: of all pieces where the answer is Ok, and of the first ones where the core refused
abbrev pub IsToldBy : {E : Type 0} → Result Bool E → Bool → List Piece → Staging → Staging → Type 0
IsToldBy (Ok b) is_stored ps old new = (b ≡ true) × IsToldAll is_stored ps old.calls old.left new.calls new.left
IsToldBy (Err why) is_stored ps old new = IsToldSome is_stored ps old.calls old.left new.calls

-- The core gave writes in flight, at least one. They were written and synced, or a call was refused; then the core was told.
pub record IsCommitted {E : Type 0} (submitted : List Piece → Type 0) (old new : Staging) (result : Result Bool E) : Type 0 where
  pub pieces : List Piece
  pub are_submitted : submitted pieces
  pub some : 0 < length pieces
  pub is_stored : Bool
  pub asked_file : IsAsked is_stored pieces old.file new.file
  pub is_told : IsToldBy result is_stored pieces (asked old (length pieces)) new

-- No stage was begun: the core gave none, or there was no memory to copy them.
abbrev pub IsUnbegun : {E : Type 0} → Staging → Staging → Result Bool E → Type 0
IsUnbegun old new (Ok b) = (b ≡ false) × (new ≡ asked old 0)
IsUnbegun old new (Err why) = new ≡ old

-- A stage: none is begun, or what is in flight is written and synced, and then the core is told.
abbrev pub CommitsStage : {E : Type 0} → (List Piece → Type 0) → Staging → Staging → Result Bool E → Type 0
CommitsStage submitted old new result = IsUnbegun old new result ⊎ IsCommitted submitted old new result
