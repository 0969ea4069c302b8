-- One more is digested.
use Rattle.std.proofs.Common.{◌+◌}
use Rattle.kernel_model.specs.Answers.{now}
use Rattle.replayed_runs.specs.StateKeys.{process_bytes}
use Rattle.replayed_runs.proofs.Feeding.{fed_more}
use Rattle.replayed_runs.proofs.state_key.digest_each_process.Goals as goal

pub loop-place-preserved : goal.loop-place-preserved
loop-place-preserved c =
    fed_more c.args.digest.now c.loop-place.digest c.digest_process.new.digest (λ k. process_bytes (now c.args.replay.now.core).sync.processes c.args.replay.now.replies.sums.items c.args.tables.processes.now.parts (k + 1)) c.loop-place.place c.loop-place.invariant c.digest_process.ensures
