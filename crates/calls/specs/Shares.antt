-- What calls may look at, from what is kept of it.
use Rattle.std.specs.Prelude.{◌≡◌, ℕ, List, [], map, Option}
use Rattle.disk_model.specs.Numbers.{Numbered}
use Rattle.kernel_model.specs.State.{Shared, PipeState, TapeState}
use Rattle.pipes.specs.Seen.{Seen, Shows}

-- a pipe to which nothing was ever written but what is seen of it
abbrev pub pipe_of : Seen → PipeState
pipe_of x = record { written = x.held; taken = 0; readers = x.readers; writers = x.writers }

-- these files, pipes and tapes, and no processes
abbrev pub things : Numbered → List Seen → List TapeState → Shared
things files seen tapes = record { statuses = []; files = files; pipes = map pipe_of seen; tapes = tapes }

-- these files, pipes and tapes, and processes that have ended so
abbrev pub shared_of : List (Option ℕ) → Numbered → List Seen → List TapeState → Shared
shared_of statuses files seen tapes = record { statuses = statuses; files = files; pipes = map pipe_of seen; tapes = tapes }

-- What calls may look at: these processes have ended so, and these are the files, what is seen of the pipes, and the tapes.
pub record IsKept (s : Shared) (ended : List (Option ℕ)) (stored : Numbered) (seen : List Seen) (taped : List TapeState) : Type 0 where
  pub statuses : s.statuses ≡ ended
  pub files : s.files ≡ stored
  pub pipes : Shows s.pipes seen
  pub tapes : s.tapes ≡ taped
