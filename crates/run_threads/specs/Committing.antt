-- The thread that commits.
use Rattle.std.specs.Prelude.{◌≡◌, ◌-◌, ℕ, Bool, true, false, List, [], ◌∷◌, ◌++◌, Option, Some, None, Result, Ok, Err}
use Rattle.kernel_model.specs.declared.answer.Refused.{Refused}
use Rattle.run_threads.specs.Records.{SomeCoreHasInFlight}
use Rattle.run_threads.specs.declared.note.Note.{Note}
use Rattle.durable_disk.specs.FileRecords.{FileRecord}
use Rattle.durable_disk.specs.Stages.{Staging, staging, end_of, CommitsStage}
use Rattle.run_threads.specs.CoreCalls.{calls_in}

-- the notes of its desk, the record of the file that holds the disk, if one does, and the number of the completion from now on that is
-- to fail, or 0
pub record Committing : Type 0 where
  pub notes : List Note
  pub file : Option FileRecord
  pub left : ℕ

-- It told its core of one write: that it is complete, if it is not the one that is to fail. Or none was in flight, or the core refused.
abbrev pub CompletesFirst : Committing → Committing → Result Bool Refused → Type 0
CompletesFirst old new (Ok true) = (at : ℕ) × (calls_in new.notes ≡ calls_in old.notes ++ end_of true old.left at ∷ []) × (new.left ≡ old.left - 1)
CompletesFirst old new (Ok false) = (calls_in new.notes ≡ calls_in old.notes) × (new.left ≡ old.left)
CompletesFirst old new (Err why) = calls_in new.notes ≡ calls_in old.notes

-- it told its core of no write, and all else is as it was
abbrev pub TellsNothing : Committing → Committing → Type 0
TellsNothing old new = (calls_in new.notes ≡ calls_in old.notes) × (new.file ≡ old.file) × (new.left ≡ old.left)

-- where its stages stand, with its file
abbrev pub at_stage : Committing → FileRecord → Staging
at_stage t f = staging (calls_in t.notes) f t.left

-- it has this file, and then that one
abbrev pub WithFile : (Staging → Staging → Type 0) → Committing → Committing → Type 0
WithFile P old new = (f : FileRecord) → old.file ≡ Some f → (g : FileRecord) × (new.file ≡ Some g) × P (at_stage old f) (at_stage new g)

-- With a file it commits a stage, and else the write that begins first.
abbrev pub Completes : Committing → Committing → Result Bool Refused → Type 0
Completes old new result = WithFile (λ s t. CommitsStage SomeCoreHasInFlight s t result) old new × (old.file ≡ None → CompletesFirst old new result)

-- stages, one after the other, each with its answer
pub data CommitsStages (old : Staging) : Staging → Type 0 where
  none : CommitsStages old old
  more : {s : Staging} (new : Staging) (result : Result Bool Refused) → CommitsStages old s → CommitsStage SomeCoreHasInFlight s new result
      → CommitsStages old new

-- with a file it commits stages, and tells its core of no write beside them
abbrev pub DoesStages : Committing → Committing → Type 0
DoesStages = WithFile CommitsStages
