-- Those before this place were digested.
use Rattle.std.proofs.Common.{◌+◌}
use Rattle.kernel_model.specs.Answers.{now}
use Rattle.state_search.specs.Digests.{Fed}
use Rattle.replayed_runs.specs.StateKeys.{process_bytes, upto_bytes}
use Rattle.replayed_runs.proofs.state_key.digest_each_process.Given as goal

abbrev pub invariant-loop-place : goal.invariant-loop-place
invariant-loop-place l = Fed l.fn.digest (upto_bytes (λ k. process_bytes (now l.replay.core).sync.processes l.replay.replies.sums.items l.tables.processes.now.parts (k + 1)) l.place) l.digest
