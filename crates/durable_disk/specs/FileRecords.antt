-- The record of a file that holds a disk.
use Rattle.std.specs.Prelude.{ℕ, zero, suc, Bool, true, false, List, [], ◌∷◌, ◌++◌}
use Rattle.disk_model.specs.declared.change.Piece.{Piece}
use Rattle.durable_disk.specs.declared.disk_file.FileCall.{FileCall}
use Rattle.durable_disk.specs.declared.disk_file.FileCall.TheVariants.{Write, Sync}
use Rattle.durable_disk.specs.declared.file_notes.FileNotes.{FileNotes}

-- the calls of a file, in order, each with whether the host did it; and the piece of each write, in the same order
pub record FileRecord : Type 0 where
  pub calls : List FileCall
  pub pieces : List Piece

-- the record that these notes keep
abbrev pub record_in : FileNotes → FileRecord
record_in n = record { calls = n.calls.items; pieces = n.pieces.items }

-- the record after a write of this piece, which the host did or refused
abbrev pub wrote : FileRecord → Piece → Bool → FileRecord
wrote r p is_done = record { calls = r.calls ++ Write is_done ∷ []; pieces = r.pieces ++ p ∷ [] }

-- the record after a sync, which the host did or refused
abbrev pub synced : FileRecord → Bool → FileRecord
synced r is_done = record { calls = r.calls ++ Sync is_done ∷ []; pieces = r.pieces }

-- the record once the file holds these pieces: each was written, in order, and then one sync was done
abbrev pub stored : FileRecord → List Piece → FileRecord
stored r [] = synced r true
stored r (p ∷ ps) = stored (wrote r p true) ps

-- the same up to the call of this number, from 0, which the host refused; no call comes after it
abbrev pub refused_at : FileRecord → List Piece → ℕ → FileRecord
refused_at r [] k = synced r false
refused_at r (p ∷ ps) zero = wrote r p false
refused_at r (p ∷ ps) (suc k) = refused_at (wrote r p true) ps k
