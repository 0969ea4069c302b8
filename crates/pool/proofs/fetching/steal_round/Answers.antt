-- Each goal's answer is direct, since the search for one takes long here.
use Rattle.std.proofs.Common.{◌∙◌}
use borrow.Author.Count.{falls}
use Rattle.pool.proofs.Looks.{nothing_yet, taken_there, missed_there, all_missed, still_below}
use Rattle.pool.proofs.fetching.steal_round.Goals as goal

pub loop-place-init : goal.loop-place-init
loop-place-init g c = nothing_yet _

pub index_mut-other-requires : goal.index_mut-other-requires
index_mut-other-requires g c = still_below _ _ _ c.len-place-end.result _ c.loop-place.invariant (c.len-place-end.ensures ∙ c.args.others.now.ok.0) c.loop-place-test.true c.loop-place.others.ok.0

pub returns-in-Some : goal.returns-in-Some
returns-in-Some g c = taken_there _ _ c.loop-place.place c.len-place-end.result c.index_mut-other.result.now _ _ c.loop-place.invariant (c.len-place-end.ensures ∙ c.args.others.now.ok.0) c.loop-place-test.true c.index_mut-other.ensures.value c.in-Some.ensures

pub loop-place-smaller : goal.loop-place-smaller
loop-place-smaller g c = falls _ _ c.loop-place-test.true

pub loop-place-preserved : goal.loop-place-preserved
loop-place-preserved g c = missed_there _ _ c.loop-place.place c.len-place-end.result c.index_mut-other.result.now _ c.loop-place.invariant (c.len-place-end.ensures ∙ c.args.others.now.ok.0) c.loop-place-test.true c.index_mut-other.ensures.value c.in_default.ensures

pub returns : goal.returns
returns g c = all_missed _ _ c.loop-place.place c.len-place-end.result c.loop-place.invariant (c.len-place-end.ensures ∙ c.args.others.now.ok.0) c.loop-place-test.false
