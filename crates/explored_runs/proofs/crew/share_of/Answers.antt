-- One state more is asked, and in the end all.
use Rattle.std.proofs.Common.{ℕ, List, subst}
use Rattle.std.specs.Global.{Vec}
use Rattle.std.proofs.lemmas.List.{take_all}
use Rattle.state_search.specs.declared.moves.Found.{Found}
use Rattle.explored_runs.specs.Answering.{AreAfter}
use Rattle.explored_runs.proofs.Answered.{next_taken, one_more}
use Rattle.explored_runs.proofs.crew.share_of.Goals as goal

pub loop-found-preserved : goal.loop-found-preserved
loop-found-preserved c = record {
  answered =
      let r = c.args.runs.now in
      let f = c.found-item.result in
      let after = rw c.as_slice-calls.ensures.value at c.in_ok-after.ensures in
      let more = one_more r _ c.loop-found.afters.items f c.in_ok-after.field-0 c.loop-found.invariant.answered after in
      let taken = next_taken c.args.share.now c.loop-found.found-index f c.loop-found-test.true c.found-item.is in
      rw (c.in_ok-push.ensures.items, taken) more;
  kept = c.in_ok-replay.ensures.kept;
}

pub returns : goal.returns
returns c =
    subst (λ (fs : List (Found (Vec ℕ))). AreAfter c.args.runs.now fs c.loop-found.afters.items) (take_all c.loop-found.found-index c.args.share.now c.loop-found-test.false)
    c.loop-found.invariant.answered
