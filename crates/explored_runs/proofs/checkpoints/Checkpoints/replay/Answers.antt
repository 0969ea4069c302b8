-- One call more was made.
use Rattle.explored_runs.proofs.Keeping.{next_made}
use Rattle.explored_runs.proofs.checkpoints.Checkpoints.replay.Goals as goal

pub loop-place-preserved : goal.loop-place-preserved
loop-place-preserved c = record {
  run = next_made c.args.runs.now c.args.calls.now c.loop-place.place c.loop-place.replay c.call.new.self c.loop-place-test.true c.loop-place.invariant.run c.in_ok-call.ensures.moved
      c.in_ok-call.ensures.limit;
  kept = c.in_ok-keep_at_branch.ensures;
}
