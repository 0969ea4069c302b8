-- What is wrong with a disk, by its bytes alone.
use Rattle.std.specs.Prelude.{◌≡◌, ℕ, ◌+◌, ◌<◌, ◌≤◌, List, length, slice_index, take, drop}
use Rattle.std.specs.Int.{w32, from_le_bytes}
use Rattle.std.specs.List.{AllByRecursion}
use Rattle.disk_model.specs.declared.change.Change.{Change}
use Rattle.disk_model.specs.declared.change.NamedFile.{NamedFile}
use Rattle.disk_model.specs.Files.{IsFormed, Follow}
use Rattle.disk_model.specs.Spelling.{body_of}
use Rattle.disk_model.specs.Held.{Reads, IsRecord, HasBytes, selected_half, end_of}
use Rattle.journal.specs.declared.fault.DiskFault.{DiskFault}
use Rattle.journal.specs.declared.fault.DiskFault.TheVariants.{BadRecord, BadChange, PastHalf, OutOfMemory}

abbrev pub number_of : DiskFault → ℕ
number_of BadRecord = 1
number_of BadChange = 2
number_of PastHalf = 3
number_of OutOfMemory = 4

-- the length that the four bytes after a gate tell
abbrev pub size_after : List ℕ → ℕ → ℕ
size_after disk gate = from_le_bytes w32 (take 4 (drop (gate + 1) disk))

-- no list of formed changes has the length that is told and stands after it as a body
abbrev pub HasNoBody : List ℕ → ℕ → Type 0
HasNoBody disk gate = (cs : List Change) → AllByRecursion IsFormed cs → length (body_of cs) ≡ size_after disk gate → HasBytes disk (gate + 5) (body_of cs) → ⊥

-- what is wrong with the record after this open gate, with these files before it, in a half that ends before `last`. Its next gate
-- lies past the half; else its body is no list of changes; else one of its changes is not possible
abbrev pub FaultAfter : List ℕ → ℕ → ℕ → List NamedFile → DiskFault → Type 0
FaultAfter disk last gate files PastHalf = last ≤ gate + 5 + size_after disk gate
FaultAfter disk last gate files BadRecord = (gate + 5 + size_after disk gate < last) × HasNoBody disk gate
FaultAfter disk last gate files BadChange = (cs : List Change) × IsRecord disk last gate cs × AllByRecursion IsFormed cs × (Follow files cs → ⊥)
FaultAfter disk last gate files OutOfMemory = ⊥

-- the first fault of the disk: good records lead up to this open gate, and the record after it has the fault
pub record IsFault (disk : List ℕ) (fault : DiskFault) : Type 0 where
  pub size : length disk ≡ 2097152
  pub gate : ℕ
  pub files : List NamedFile
  pub before : Reads disk (selected_half (slice_index disk 0)) gate files
  pub opened : slice_index disk gate ≡ 1
  pub after : FaultAfter disk (end_of (selected_half (slice_index disk 0))) gate files fault

-- an answer tells the first fault; want of memory tells nothing
abbrev pub TellsFault : List ℕ → DiskFault → Type 0
TellsFault disk BadRecord = IsFault disk BadRecord
TellsFault disk BadChange = IsFault disk BadChange
TellsFault disk PastHalf = IsFault disk PastHalf
TellsFault disk OutOfMemory = Unit {0}
