-- One moment more is digested.
use Rattle.std.proofs.Common.{[], ◌++◌}
use Rattle.replayed_runs.proofs.Feeding.{fed_both, fed_none}
use Rattle.replayed_runs.proofs.state_key.digest_moments.Goals as goal

pub loop-moment-init : goal.loop-moment-init
loop-moment-init c = ([], fed_none c.number.new.self)

pub loop-moment-preserved : goal.loop-moment-preserved
loop-moment-preserved c =
    let before = c.loop-moment.invariant in
    let now = c.digest_moment.ensures in
    (before.0 ++ now.0, fed_both c.number.new.self c.loop-moment.digest c.digest_moment.new.digest before.0 now.0 before.1 now.1)

pub returns : goal.returns
returns c =
    let after = c.loop-moment.invariant in
    (_, fed_both c.args.digest.now c.number.new.self c.loop-moment.digest _ after.0 c.number.ensures after.1)
