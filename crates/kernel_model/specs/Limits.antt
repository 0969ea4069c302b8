-- How large the tables of a state may be, and that what they name is there or, of files, was made.
use Rattle.std.specs.Prelude.{◌≡◌, ℕ, ◌+◌, ◌<◌, ◌≤◌, Bool, List, [], ◌∷◌, length, slice_get, Option, Some, None, is_some, IsTrue, MatchOption}
use Rattle.std.specs.List.{Contains}
use Rattle.disk_model.specs.Numbers.{Numbered}
use Rattle.disk_model.specs.declared.change.NamedFile.{NamedFile}
use Rattle.disk_model.specs.Limits.{most_files, longest_name, longest_file}
use Rattle.kernel_model.specs.Rows.{EndedChild, descriptor_at, status_in, most_pipes, pipe_size}
use Rattle.kernel_model.specs.State.{SyncState, Process, PipeState, process_at, unread}
use Rattle.kernel_model.specs.declared.descriptor.Descriptor.TheVariants.{Tape, File}

-- how many descriptors a process has
abbrev pub descriptor_count : ℕ
descriptor_count = 16

-- these numbers rise: the first is above `low`, each other one above the one before it, and none is above `high`
abbrev pub RiseWithin : ℕ → ℕ → List ℕ → Type 0
RiseWithin low high [] = Unit {0}
RiseWithin low high (n ∷ ns) = (low < n) × (n ≤ high) × RiseWithin n high ns

-- these numbers rise: the first is at least `low`, each other one above the one before it, and each is below `high`
abbrev pub RiseFrom : ℕ → ℕ → List ℕ → Type 0
RiseFrom low high [] = Unit {0}
RiseFrom low high (n ∷ ns) = (low ≤ n) × (n < high) × RiseFrom (n + 1) high ns

-- process pid, which is p, in a state
pub record IsInPlace (s : SyncState) (pid : ℕ) (p : Process) : Type 0 where
  -- it has 16 descriptors
  pub descriptors : length p.descriptors ≡ descriptor_count
  -- each of them that stands for a file stands for one that was made
  pub named : (fd file offset : ℕ) (writes : Bool) → descriptor_at p.descriptors fd ≡ Some (File file offset writes) → file < s.files.made
  -- its children stand by rising number, each above its own, and each is there
  pub children : RiseWithin pid (length s.processes) p.children

-- a pipe
pub record IsInBounds (p : PipeState) : Type 0 where
  -- no more bytes were read than were written
  pub taken : p.taken ≤ length p.written
  -- it holds at most 4,096 bytes
  pub held : length (unread p) ≤ pipe_size

-- numbers of files
pub record AreNumbered (files : Numbered) : Type 0 where
  -- each file that lives has one
  pub each : length files.numbers ≡ length files.living
  -- they rise, so no two are one, and each is below the next one
  pub rise : RiseFrom 0 files.made files.numbers

-- the processes, the pipes and the files of a state
pub record KeepLimits (s : SyncState) : Type 0 where
  -- each process is in place
  pub processes : (pid : ℕ) (p : Process) → process_at s.processes pid ≡ Some p → IsInPlace s pid p
  -- there are at most 1,024 pipes
  pub pipes : length s.pipes ≤ most_pipes
  -- the files are numbered
  pub numbered : AreNumbered s.files
  -- each pipe is in bounds
  pub held : (k : ℕ) (p : PipeState) → slice_get s.pipes k ≡ Some p → IsInBounds p

-- each descriptor of a process that stands for a tape stands for one that is there
abbrev pub TapesAreThere : SyncState → Type 0
TapesAreThere s = (pid fd t : ℕ) (p : Process) → process_at s.processes pid ≡ Some p → descriptor_at p.descriptors fd ≡ Some (Tape t) → t < length s.tapes

-- a file
pub record IsShort (f : NamedFile) : Type 0 where
  -- its name has 1 to 32 bytes
  pub some : 1 ≤ length f.name
  pub name : length f.name ≤ longest_name
  -- it has at most 16,384 bytes
  pub bytes : length f.bytes ≤ longest_file

-- the files of a state
pub record AreFewAndShort (files : List NamedFile) : Type 0 where
  -- there are at most 32
  pub few : length files ≤ most_files
  -- each is short
  pub short : (place : ℕ) (f : NamedFile) → slice_get files place ≡ Some f → IsShort f

-- of these children, of processes with these statuses, this one is the least by number that has ended
pub record IsLeastEnded (statuses : List (Option ℕ)) (children : List ℕ) (e : EndedChild) : Type 0 where
  -- it is one of them
  pub among : Contains children e.child
  -- it has ended, with this status
  pub ended : status_in statuses e.child ≡ Some e.status
  -- none of them that has ended has a lesser number
  pub least : (child : ℕ) → Contains children child → IsTrue (is_some (status_in statuses child)) → e.child ≤ child

-- none of these children has ended
abbrev pub NoneHasEnded : List (Option ℕ) → List ℕ → Type 0
NoneHasEnded statuses children = (child : ℕ) → Contains children child → status_in statuses child ≡ None

-- what is found of these children is the least by number that has ended, and nothing where none has
abbrev pub FindsLeast : List (Option ℕ) → List ℕ → Option EndedChild → Type 0
FindsLeast statuses children found = MatchOption found (NoneHasEnded statuses children) (IsLeastEnded statuses children)
