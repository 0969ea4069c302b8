-- How many there are, and each.
use Rattle.std.proofs.Common.{length, slice_get, ap}
use Rattle.state_search.specs.Digests.{number_bytes}
use Rattle.replayed_runs.specs.StateKeys.{pipe_bytes, upto_bytes, written_in}
use Rattle.replayed_runs.proofs.Feeding.{fed_as, fed_both}
use Rattle.replayed_runs.proofs.state_key.digest_pipes.Goals as goal

pub returns : goal.returns
returns c =
    let pipes = c.args.pipes.now in
    let d0 = c.args.digest.now in
    let d1 = c.number.new.self in
    let d2 = c.digest_each_pipe.new.digest in
    fed_both d0 d1 d2 (number_bytes (length pipes)) (upto_bytes (λ k. pipe_bytes (slice_get pipes k) (written_in c.args.texts.now.texts.items k)) (length pipes))
    (fed_as d0 d1 _ _ (ap number_bytes c.len.ensures.len) c.number.ensures) c.digest_each_pipe.ensures
