-- The stages so far, and those of a turn.
use Rattle.run_threads.proofs.Turning.{no_stage, and_then, no_write}
use Rattle.run_threads.proofs.committing.CommitThread.serve.Goals as goal

pub loop-init : goal.loop-init
loop-init g c = no_stage c.args.self.now

pub loop-preserved-in-Ok-true : goal.loop-preserved-in-Ok-true
loop-preserved-in-Ok-true g c = and_then c.args.self.now c.loop.self c.turn.new.self c.loop.invariant c.turn.ensures

pub loop-preserved : goal.loop-preserved
loop-preserved g c = and_then c.args.self.now c.loop.self c.turn.new.self c.loop.invariant c.turn.ensures

pub returns-in-Err : goal.returns-in-Err
returns-in-Err g c =
    and_then c.args.self.now c.turn.new.self c.stop.new.self (and_then c.args.self.now c.loop.self c.turn.new.self c.loop.invariant c.turn.ensures)
    (no_write c.turn.new.self c.stop.new.self c.stop.ensures)
