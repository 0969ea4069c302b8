-- One more is digested.
use Rattle.std.proofs.Common.{slice_get}
use Rattle.replayed_runs.specs.StateKeys.{pipe_bytes, written_in}
use Rattle.replayed_runs.proofs.Feeding.{fed_more}
use Rattle.replayed_runs.proofs.state_key.digest_each_pipe.Goals as goal

pub loop-number-preserved : goal.loop-number-preserved
loop-number-preserved c =
    fed_more c.args.digest.now c.loop-number.digest c.digest_pipe.new.digest (λ k. pipe_bytes (slice_get c.args.pipes.now k) (written_in c.args.texts.now.texts.items k)) c.loop-number.number c.loop-number.invariant c.digest_pipe.ensures
