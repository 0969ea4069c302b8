-- One share more is put to the others.
use Rattle.explored_runs.proofs.Shares.{joined_more}
use Rattle.explored_runs.proofs.crew.joined.Goals as goal

pub loop-share-preserved : goal.loop-share-preserved
loop-share-preserved c =
    let more = joined_more c.loop-share.yielded c.loop-share.all.items c.in_ok-share.field-0 c.loop-share.invariant in
    rw (c.in_ok-append.ensures.items, c.in_ok-share.was) more
