-- Whether all was explored.
use Rattle.std.specs.Prelude.{ℕ, nat_lt, Bool, if◌then◌else◌, Option, Some, None}
use Rattle.faults.specs.declared.exploration.ExplorationFault.{ExplorationFault}
use Rattle.faults.specs.declared.exploration.ExplorationFault.TheVariants.{Cut, RunsOn}

-- why a search that left no states did not explore all: a process runs on in this outcome, or else in a state from which it went on
abbrev pub unfinished : ℕ → ℕ → Option ℕ → Bool → Option ExplorationFault
unfinished left calls (Some outcome) is_whole = Some (RunsOn outcome)
unfinished left calls None is_whole = if is_whole then None else Some (Cut left calls)

-- why not all was explored, if it was not: so many states were left after so many calls, or else a process runs on
abbrev pub unexplored : ℕ → ℕ → Option ℕ → Bool → Option ExplorationFault
unexplored left calls runs_on is_whole = if nat_lt 0 left then Some (Cut left calls) else unfinished left calls runs_on is_whole
