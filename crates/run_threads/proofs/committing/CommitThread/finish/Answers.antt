-- The stages so far, and one more.
use Rattle.std.proofs.Common.{sym, subst}
use Rattle.run_threads.specs.Committing.{DoesStages}
use Rattle.run_threads.proofs.Turning.{no_stage, and_then, after, no_write}
use Rattle.run_threads.proofs.committing.CommitThread.finish.Goals as goal

pub loop-init : goal.loop-init
loop-init g c = no_stage c.args.self.now

pub returns-then-is_done : goal.returns-then-is_done
returns-then-is_done g c = subst (DoesStages c.args.self.now) (sym c.is_done.ensures) c.loop.invariant

pub returns-in_err-complete : goal.returns-in_err-complete
returns-in_err-complete g c =
    and_then c.args.self.now c.loop.self c.complete.new.self c.loop.invariant
    (after c.loop.self c.is_done.new.self c.complete.new.self c.complete.result c.is_done.ensures c.complete.ensures)

pub loop-preserved-then-branch : goal.loop-preserved-then-branch
loop-preserved-then-branch g c =
    and_then c.args.self.now c.loop.self c.complete.new.self c.loop.invariant
    (after c.loop.self c.is_done.new.self c.complete.new.self c.complete.result c.is_done.ensures c.complete.ensures)

pub loop-preserved : goal.loop-preserved
loop-preserved g c =
    and_then c.args.self.now c.complete.new.self c.cut.new.self (and_then c.args.self.now c.loop.self c.complete.new.self c.loop.invariant
    (after c.loop.self c.is_done.new.self c.complete.new.self c.complete.result c.is_done.ensures c.complete.ensures))
    (no_write c.complete.new.self c.cut.new.self c.cut.ensures)

pub returns-in-Err-DiskFailed : goal.returns-in-Err-DiskFailed
returns-in-Err-DiskFailed g c =
    and_then c.args.self.now c.complete.new.self c.cut.new.self (and_then c.args.self.now c.loop.self c.complete.new.self c.loop.invariant
    (after c.loop.self c.is_done.new.self c.complete.new.self c.complete.result c.is_done.ensures c.complete.ensures))
    (no_write c.complete.new.self c.cut.new.self c.cut.ensures)

pub returns-in-Err : goal.returns-in-Err
returns-in-Err g c =
    and_then c.args.self.now c.complete.new.self c.cut.new.self (and_then c.args.self.now c.loop.self c.complete.new.self c.loop.invariant
    (after c.loop.self c.is_done.new.self c.complete.new.self c.complete.result c.is_done.ensures c.complete.ensures))
    (no_write c.complete.new.self c.cut.new.self c.cut.ensures)
