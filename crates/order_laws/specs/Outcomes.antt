-- The outcomes of every run, among the states that a search of the calls found.
use Rattle.std.specs.Prelude.{◌≡◌, ℕ, true, false, if◌then◌else◌, List, map, take, Some, is_some}
use Rattle.std.specs.List.{Contains}
use Rattle.disk_model.specs.Files.{files_after}
use Rattle.machine_model.specs.States.{stopped_at}
use Rattle.kernel_model.specs.Paths.{changes_in_log}
use Rattle.kernel_model.specs.Shown.{printed, shown}
use Rattle.kernel_model.specs.State.{Process, process_at}
use Rattle.kernel_model.specs.Steps.{after_run}
use Rattle.kernel_model.specs.Views.{contents}
use Rattle.kernel_model.specs.World.{World, Boot, run_of}
use Rattle.kernel_model.specs.declared.event.Event.{Event}
use Rattle.kernel_laws.specs.Cones.{IsBeginningOf}
use Rattle.order_laws.specs.Moves.{Seen, first_seen, calls, events}
use Rattle.order_laws.specs.Orders.{IsOver, reached}
use Rattle.order_laws.specs.Privacy.{IsPrivate}
use Rattle.order_laws.specs.Searches.{FoundState, IsSearchOf}

-- what is seen is of this run: its state, and all that it wrote to terminals
pub record IsSeenOf (w : World) (s : Seen) : Type 0 where
  pub sync : s.sync ≡ w.sync
  pub texts : (t : ℕ) → s.texts t ≡ contents (printed t w.log)

-- ---- each process has run on

-- a process that has run on, at most n instructions, unless it has ended
abbrev pub rested : ℕ → Process → Process
rested n z = if is_some z.status then z else after_run n z

-- the run where each process has run on
abbrev pub settled : ℕ → Seen → Seen
settled n s = record s { sync = record s.sync { processes = map (rested n) s.sync.processes } }

-- ---- what was found

-- The calls were searched to depth `depth`, from where each process of the boot first stops.
abbrev pub AreSearched : ℕ → Boot → List (FoundState Seen) → ℕ → Type 0
AreSearched n b found depth = IsSearchOf (calls n) IsPrivate (settled n (first_seen b)) found depth

-- this state was found
abbrev pub WasFound : List (FoundState Seen) → Seen → Type 0
WasFound found s = (f : FoundState Seen) × Contains found f × (f.state ≡ s)

-- process p of a state stands at a call or a trap, or has ended
abbrev pub StandsAt : Seen → ℕ → Type 0
StandsAt s p = (z : Process) → process_at s.sync.processes p ≡ Some z → is_some z.status ≡ false → is_some (stopped_at z.state) ≡ true

-- and so each process
abbrev pub Stand : Seen → Type 0
Stand s = (p : ℕ) → StandsAt s p

-- and so in each state that was found
abbrev pub AllStand : List (FoundState Seen) → Type 0
AllStand found = (f : FoundState Seen) → Contains found f → Stand f.state

-- What was found holds the outcomes of the run of these events, whatever they are.
pub record HasOutcomes (n : ℕ) (b : Boot) (found : List (FoundState Seen)) (es : List Event) : Type 0 where
  -- what a crash leaves that keeps the committed changes alone, beside what is shown by then: a state has these files, and each terminal
  -- there has at least what is shown
  pub crash : FoundState Seen
  pub crash_found : Contains found crash
  pub files : crash.state.sync.files.living ≡ files_after b.files (take (run_of b es).storage.committed (changes_in_log (run_of b es).log))
  pub texts : (t : ℕ) → IsBeginningOf (shown (run_of b es) t) (crash.state.texts t)
  -- and the end, where no process can go on: all have ended, or the others wait for each other
  pub end : IsOver (calls n) (settled n (reached events (first_seen b) es)) → WasFound found (settled n (reached events (first_seen b) es))
