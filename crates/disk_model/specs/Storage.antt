-- The storage of a run: its device, and what is committed.
use Rattle.std.specs.Prelude.{ℕ, suc, zero, ◌+◌, ◌==◌, ◌&&◌, not, nat_lt, min, Bool, true, false, if◌then◌else◌, List, [], ◌∷◌, ◌++◌, length, take, drop, Option, Some, None}
use Rattle.disk_model.specs.declared.change.Change.{Change}
use Rattle.disk_model.specs.declared.change.Piece.{Piece}
use Rattle.disk_model.specs.declared.change.NamedFile.{NamedFile}
use Rattle.disk_model.specs.Spelling.{record_of, gate_after}
use Rattle.disk_model.specs.Held.{start_of, end_of}
use Rattle.disk_model.specs.Rebuild.{rebuild}

-- the simulated disk: a disk, and the writes to it
pub record Device : Type 0 where
  pub disk : List ℕ  -- the bytes of completed writes
  pub in_flight : List Piece  -- writes that are submitted, and neither complete nor failed
  pub failed : List Piece  -- writes that have failed

-- The storage of a run. A group is written in stages: the pieces of a stage are submitted together, once the stage before is
-- complete.
pub record Storage : Type 0 where
  pub device : Device
  pub stages : List (List Piece)  -- what is still to be submitted
  pub half : Bool  -- the half in use
  pub gate : ℕ  -- the first gate in it that is not open
  pub committed : ℕ  -- how many changes are committed
  pub next_half : Bool  -- the same three, once the group in flight is committed
  pub next_gate : ℕ
  pub next_committed : ℕ

-- the bytes from this place on as pieces of `size` bytes, the last shorter; the first argument is at least the length
abbrev pub pieces_from : ℕ → ℕ → ℕ → List ℕ → List Piece
pieces_from zero size at bytes = []
pieces_from (suc n) size at [] = []
pieces_from (suc n) size at (b ∷ bytes) = record { at = at; bytes = take size (b ∷ bytes) } ∷ pieces_from n size (at + size) (drop size (b ∷ bytes))

-- the bytes from this place on as pieces of 4,096 bytes, the last shorter
unfoldable pub pieces : ℕ → List ℕ → List Piece
pieces at bytes = pieces_from (length bytes) 4096 at bytes

-- the write of one byte
abbrev pub one_byte : ℕ → ℕ → List Piece
one_byte at byte = record { at = at; bytes = byte ∷ [] } ∷ []

-- the list has nothing in it
abbrev pub is_empty : {A : Type 0} → List A → Bool
is_empty [] = true
is_empty (x ∷ xs) = false

-- nothing is in flight, and nothing has failed
abbrev pub is_quiet : Device → Bool
is_quiet v = is_empty v.in_flight && is_empty v.failed

-- the device once these pieces are submitted together, where nothing is in flight
abbrev pub sent : Device → List Piece → Device
sent v stage = record v { in_flight = stage }

-- the record of a group, and the gate after it, fit into the half in use
abbrev pub fits : Storage → List Change → Bool
fits st cs = nat_lt (gate_after st.gate cs) (end_of st.half)

-- a group after the last one: its record is written, and then its gate is opened
abbrev pub group : Storage → List Change → Storage
group st cs = record st {
  device = sent st.device (pieces (st.gate + 1) (record_of cs));
  stages = one_byte st.gate 1 ∷ [];
  next_half = st.half;
  next_gate = gate_after st.gate cs;
  next_committed = st.committed + length cs;
}

-- the byte 0 that selects this half
abbrev pub selector : Bool → ℕ
selector false = 0
selector true = 1

-- a checkpoint in the other half: its first gate is closed, its record is written, its gate is opened, and then the half is
-- selected; `count` changes come with it
abbrev pub checkpoint : Storage → ℕ → List Change → Storage
checkpoint st count cs = record st {
  device = sent st.device (one_byte (start_of (not st.half)) 0);
  stages = pieces (start_of (not st.half) + 1) (record_of cs) ∷ one_byte (start_of (not st.half)) 1 ∷ one_byte 0 (selector (not st.half)) ∷ [];
  next_half = not st.half;
  next_gate = gate_after (start_of (not st.half)) cs;
  next_committed = st.committed + count;
}

-- the changes of a group: the first 64, or all where there are fewer
unfoldable pub group_of : List Change → List Change
group_of cs = take 64 cs

-- a group of the first of these uncommitted changes where it fits, else a checkpoint of these files, which all changes made
abbrev pub group_or_checkpoint : Storage → List Change → List NamedFile → Storage
group_or_checkpoint st cs files = if fits st (group_of cs) then group st (group_of cs) else checkpoint st (length cs) (rebuild files)

-- the same where there is a change and the device is quiet; else nothing happens
abbrev pub cut : Storage → List Change → List NamedFile → Storage
cut st [] files = st
cut st (c ∷ cs) files = if is_quiet st.device then group_or_checkpoint st (c ∷ cs) files else st

-- the disk with these bytes from a place on
abbrev pub overwritten : List ℕ → ℕ → List ℕ → List ℕ
overwritten disk at bytes = take at disk ++ bytes ++ drop (at + length bytes) disk

-- the next stage is submitted; after the last the group is committed
abbrev pub next_stage : Storage → List (List Piece) → Storage
next_stage st [] = record st { half = st.next_half; gate = st.next_gate; committed = st.next_committed }
next_stage st (stage ∷ stages) = record st { device = sent st.device stage; stages = stages }

-- the next stage, where the one before is complete
abbrev pub advanced : Storage → Storage
advanced st = if is_quiet st.device then next_stage st st.stages else st

-- the first of these pieces that begins there
abbrev pub piece_at : List Piece → ℕ → Option Piece
piece_at [] at = None
piece_at (p ∷ ps) at = if p.at == at then Some p else piece_at ps at

-- the pieces without the first one that begins there
abbrev pub without : List Piece → ℕ → List Piece
without [] at = []
without (p ∷ ps) at = if p.at == at then ps else p ∷ without ps at

-- the lesser of two places, where they are there
abbrev pub lesser : Option ℕ → Option ℕ → Option ℕ
lesser None b = b
lesser (Some a) None = Some a
lesser (Some a) (Some b) = Some (min a b)

-- the least place at which one of these pieces begins
abbrev pub least_start : List Piece → Option ℕ
least_start [] = None
least_start (p ∷ ps) = lesser (Some p.at) (least_start ps)

-- the device once the write p, which begins there, is complete
abbrev pub with_completion : Device → ℕ → Piece → Device
with_completion v at p = record v { disk = overwritten v.disk p.at p.bytes; in_flight = without v.in_flight at }

-- the device once the write p, which begins there, has failed
abbrev pub with_failure : Device → ℕ → Piece → Device
with_failure v at p = record v { in_flight = without v.in_flight at; failed = v.failed ++ p ∷ [] }

-- the storage once this write, if any, which begins there, is complete
abbrev pub completed_by : Storage → ℕ → Option Piece → Storage
completed_by st at None = st
completed_by st at (Some p) = advanced (record st { device = with_completion st.device at p })

-- the storage once the write that begins there is complete; nothing happens where none does
abbrev pub completed : Storage → ℕ → Storage
completed st at = completed_by st at (piece_at st.device.in_flight at)

-- the storage once this write, if any, which begins there, has failed
abbrev pub failed_by : Storage → ℕ → Option Piece → Storage
failed_by st at None = st
failed_by st at (Some p) = record st { device = with_failure st.device at p }

-- the storage once the write that begins there has failed; nothing happens where none does
abbrev pub failed : Storage → ℕ → Storage
failed st at = failed_by st at (piece_at st.device.in_flight at)
