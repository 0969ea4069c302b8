-- A recovery for each disk so far.
use Rattle.std.proofs.Common.{◌≡◌, ◌<◌, ℕ, get_or}
use Rattle.std.specs.Prelude.{vec_len}
use Rattle.recovery_runs.specs.Batches.{IsFirst}
use Rattle.recovery_runs.specs.declared.pending.Job.{Job}
use Rattle.recovery_runs.proofs.batch.first_jobs.Given as goal

abbrev pub invariant-loop-disk : goal.invariant-loop-disk
invariant-loop-disk l = record {
  count : vec_len l.jobs ≡ l.disk;
  each : (k : ℕ) (d : Job) → k < l.disk → IsFirst k (get_or l.jobs.items k d);
}
