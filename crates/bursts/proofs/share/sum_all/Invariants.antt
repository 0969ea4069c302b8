-- The shares that are left add to what was taken in.
use Rattle.std.proofs.Common.{◌≡◌}
use Rattle.std.specs.Prelude.{vec_len}
use Rattle.bursts.specs.Holdings.{with_shares}
use Rattle.bursts.proofs.share.sum_all.Given as goal

abbrev pub invariant-loop-share : goal.invariant-loop-share
invariant-loop-share g l = with_shares l.all l.shares.items ≡ with_shares l.initial.all l.initial.shares.items

abbrev pub decreases-loop-share : goal.decreases-loop-share
decreases-loop-share g l = vec_len l.shares
