-- A whole run: the synchronous state, the log, and the storage.
use Rattle.std.specs.Prelude.{ℕ, zero, suc, ◌+◌, List, [], ◌∷◌, ◌++◌, drop, replicate, Some, None}
use Rattle.disk_model.specs.declared.change.Change.{Change}
use Rattle.disk_model.specs.declared.change.NamedFile.{NamedFile}
use Rattle.disk_model.specs.Held.{IsHeldTo}
use Rattle.disk_model.specs.Numbers.{numbered}
use Rattle.disk_model.specs.Storage.{Storage, cut, completed, failed}
use Rattle.disk_model.specs.Runs.{first_storage}
use Rattle.machine_model.specs.States.{State}
use Rattle.kernel_model.specs.Entries.{Entry}
use Rattle.kernel_model.specs.Paths.{changes_in_log}
use Rattle.kernel_model.specs.State.{SyncState, Process, TapeState}
use Rattle.kernel_model.specs.Steps.{step}
use Rattle.kernel_model.specs.declared.descriptor.Descriptor.TheVariants.{Tape, Terminal}
use Rattle.kernel_model.specs.declared.event.Event.{Event}
use Rattle.kernel_model.specs.declared.event.Event.TheVariants.{Turn, Enter, Cut, Complete, Fail}

-- a run so far
pub record World : Type 0 where
  pub sync : SyncState
  pub log : List Entry
  pub storage : Storage

-- The storage after an event, where these are all changes so far and the files after them. A Cut submits a group or a
-- checkpoint; Complete and Fail tell of the write in flight that begins at a place.
abbrev pub stored : Storage → List Change → List NamedFile → Event → Storage
stored st changes files (Turn pid n) = st
stored st changes files (Enter pid) = st
stored st changes files Cut = cut st (drop st.committed changes) files
stored st changes files (Complete at) = completed st at
stored st changes files (Fail at) = failed st at

-- the run after one more event
abbrev pub happens : World → Event → World
happens w e = record {
  sync = (step w.sync e).state;
  log = w.log ++ (step w.sync e).entry ∷ [];
  storage = stored w.storage (changes_in_log w.log) w.sync.files.living e;
}

-- the run after these events, the first of them first
abbrev pub after : World → List Event → World
after w [] = w
after w (e ∷ es) = after (happens w e) es

-- how many terminals there are, numbered from 0
abbrev pub terminal_count : ℕ
terminal_count = 8

-- how many tapes there are, numbered from 0
abbrev pub tape_count : ℕ
tape_count = 8

-- the most programs of a boot
abbrev pub most_programs : ℕ
most_programs = 8

-- a program to be booted: its machine's first state, and its terminal
pub record BootProgram : Type 0 where
  pub state : State
  pub terminal : ℕ

-- what a core is booted from: `HoldsItsFiles` says that the disk holds these files, with its first gate that is not open at `gate`
pub record Boot : Type 0 where
  pub programs : List BootProgram
  pub tapes : List (List ℕ)
  pub files : List NamedFile
  pub disk : List ℕ
  pub gate : ℕ

-- the disk holds the files that the boot names
abbrev pub HoldsItsFiles : Boot → Type 0
HoldsItsFiles b = IsHeldTo b.disk b.gate b.files

-- program i reads tape i, counted from 0, by descriptor 0, and writes to its terminal by descriptor 1; 14 more are free
abbrev pub first_process : ℕ → BootProgram → Process
first_process i p = record {
  state = p.state;
  descriptors = Some (Tape i) ∷ Some (Terminal p.terminal) ∷ replicate 14 None;
  children = [];
  status = None;
}

-- the processes of these programs, the first of which has tape i
abbrev pub processes_from : ℕ → List BootProgram → List Process
processes_from i [] = []
processes_from i (p ∷ ps) = first_process i p ∷ processes_from (i + 1) ps

-- a tape with these bytes, of which none is read
abbrev pub tape_of : List ℕ → TapeState
tape_of bytes = record { bytes = bytes; place = 0 }

-- n tapes: the first of those given, and empty ones where fewer are given
abbrev pub tapes_of : ℕ → List (List ℕ) → List TapeState
tapes_of zero tapes = []
tapes_of (suc n) [] = tape_of [] ∷ tapes_of n []
tapes_of (suc n) (tape ∷ tapes) = tape_of tape ∷ tapes_of n tapes

-- the run before any event
abbrev pub first_world : Boot → World
first_world b = record {
  sync = record { processes = processes_from 0 b.programs; files = numbered b.files; pipes = []; tapes = tapes_of tape_count b.tapes };
  log = [];
  storage = first_storage b.disk b.gate;
}

-- the run of these events
abbrev pub run_of : Boot → List Event → World
run_of b events = after (first_world b) events

-- the synchronous state after these events; no disk, and nothing of what is committed, has a part in it
abbrev pub sync_run : SyncState → List Event → SyncState
sync_run s [] = s
sync_run s (e ∷ es) = sync_run (step s e).state es

-- the entries of these events; no disk has a part in them either
abbrev pub sync_log : SyncState → List Event → List Entry
sync_log s [] = []
sync_log s (e ∷ es) = (step s e).entry ∷ sync_log (step s e).state es
