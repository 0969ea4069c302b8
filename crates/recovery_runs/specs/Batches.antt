-- What comes of recoveries.
use Rattle.std.specs.Prelude.{Bool, ◌≡◌, ℕ, ◌==◌, [], not}
use Rattle.recovery_runs.specs.declared.pending.Job.{Job}
use Rattle.recovery_runs.specs.declared.running.Ran.{Ran}

-- a recovery failed: it did not end with status 0
abbrev pub has_failed : Ran → Bool
has_failed ran = not (ran.status == 0)

-- the first recovery on a disk: it comes after no crash of another
abbrev pub IsFirst : ℕ → Job → Type 0
IsFirst disk job = (job.disk ≡ disk) × (job.chain.items ≡ [])
