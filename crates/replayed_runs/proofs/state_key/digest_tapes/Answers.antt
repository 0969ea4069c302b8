-- One more is digested.
use Rattle.std.proofs.Common.{ap}
use Rattle.state_search.specs.Digests.{option_bytes}
use Rattle.replayed_runs.specs.StateKeys.{left_on}
use Rattle.replayed_runs.proofs.Feeding.{fed_as, fed_more}
use Rattle.replayed_runs.proofs.state_key.digest_tapes.Goals as goal

pub loop-tape-preserved : goal.loop-tape-preserved
loop-tape-preserved c =
    fed_more c.args.digest.now c.loop-tape.digest c.option.new.self (λ k. option_bytes (left_on c.args.most c.args.tapes.now k)) c.loop-tape.tape c.loop-tape.invariant (fed_as c.loop-tape.digest c.option.new.self _ _ (ap option_bytes c.left_of.ensures) c.option.ensures)
