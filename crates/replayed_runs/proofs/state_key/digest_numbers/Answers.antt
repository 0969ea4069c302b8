-- One more is digested.
use Rattle.std.proofs.Common.{slice_get}
use Rattle.replayed_runs.specs.StateKeys.{number_bytes_at}
use Rattle.replayed_runs.proofs.Feeding.{fed_more}
use Rattle.replayed_runs.proofs.state_key.digest_numbers.Goals as goal

pub loop-place-preserved : goal.loop-place-preserved
loop-place-preserved c =
    fed_more c.args.digest.now c.loop-place.digest c.digest_number_at.new.digest (λ k. number_bytes_at (slice_get c.args.numbers.now k)) c.loop-place.place c.loop-place.invariant c.digest_number_at.ensures
