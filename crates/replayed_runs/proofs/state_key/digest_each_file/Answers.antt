-- One more is digested.
use Rattle.replayed_runs.specs.StateKeys.{file_bytes}
use Rattle.replayed_runs.proofs.Feeding.{fed_more}
use Rattle.replayed_runs.proofs.state_key.digest_each_file.Goals as goal

pub loop-place-preserved : goal.loop-place-preserved
loop-place-preserved c =
    fed_more c.args.digest.now c.loop-place.digest c.digest_file.new.digest (file_bytes c.args.files.now) c.loop-place.place c.loop-place.invariant c.digest_file.ensures
