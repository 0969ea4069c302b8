-- One more is digested.
use Rattle.std.proofs.Common.{slice_get}
use Rattle.replayed_runs.specs.StateKeys.{slot_bytes_at}
use Rattle.replayed_runs.proofs.Feeding.{fed_more}
use Rattle.replayed_runs.proofs.state_key.digest_slots.Goals as goal

pub loop-place-preserved : goal.loop-place-preserved
loop-place-preserved c =
    fed_more c.args.digest.now c.loop-place.digest c.digest_slot_at.new.digest (λ k. slot_bytes_at (slice_get c.args.slots.now k)) c.loop-place.place c.loop-place.invariant c.digest_slot_at.ensures
