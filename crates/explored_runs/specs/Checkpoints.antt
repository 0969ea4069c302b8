-- Checkpoints: runs that are kept on the way to others.
use Rattle.std.specs.Prelude.{◌≡◌, ℕ, List, ◌++◌}
use Rattle.std.specs.List.{AllByRecursion}
use Rattle.explored_runs.specs.Answering.{IsRunOf}
use Rattle.explored_runs.specs.declared.checkpoints.Checkpoint.{Checkpoint}
use Rattle.explored_runs.specs.declared.runs.Runs.{Runs}

-- these calls begin with the first ones, after which the others come
abbrev pub BeginsWith : List ℕ → List ℕ → Type 0
BeginsWith calls first = (others : List ℕ) × (calls ≡ first ++ others)

-- a checkpoint has the run of its calls
abbrev pub IsCheckpoint : Runs → Checkpoint → Type 0
IsCheckpoint r c = IsRunOf r c.calls.items c.replay

abbrev pub AreCheckpoints : Runs → List Checkpoint → Type 0
AreCheckpoints r cs = AllByRecursion (λ (c : Checkpoint). IsCheckpoint r c) cs
