-- None of the processes before this place can tell.
use Rattle.std.proofs.Common.{◌≡◌, ◌<◌, ℕ, suc, false, slice_get}
use Rattle.replayed_runs.specs.Owning.{claim_of, meets_claim}
use Rattle.replayed_runs.proofs.private.is_private.Given as goal

abbrev pub invariant-loop-place : goal.invariant-loop-place
invariant-loop-place l =
    (k : ℕ) → k < l.place → meets_claim (claim_of l.call.owner l.call.reads.now l.call.terminal) (suc k) (slice_get l.tables.processes.now.parts k) ≡ false
