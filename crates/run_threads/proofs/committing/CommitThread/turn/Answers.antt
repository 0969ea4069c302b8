-- A stage at most.
use Rattle.std.proofs.Common.{sym, subst}
use Rattle.run_threads.specs.Committing.{DoesStages}
use Rattle.run_threads.proofs.Turning.{no_stage, and_then, after, no_write}
use Rattle.run_threads.proofs.committing.CommitThread.turn.Goals as goal

pub returns-then-is_done : goal.returns-then-is_done
returns-then-is_done g c = subst (DoesStages c.args.self.now) (sym c.is_done.ensures) (no_stage c.args.self.now)

pub returns-in_err-complete : goal.returns-in_err-complete
returns-in_err-complete g c =
    after c.args.self.now c.is_done.new.self c.complete.new.self c.complete.result c.is_done.ensures c.complete.ensures

pub returns-then-branch : goal.returns-then-branch
returns-then-branch g c =
    after c.args.self.now c.is_done.new.self c.complete.new.self c.complete.result c.is_done.ensures c.complete.ensures

pub returns : goal.returns
returns g c =
    and_then c.args.self.now c.complete.new.self c.cut_if_wanted.new.self
    (after c.args.self.now c.is_done.new.self c.complete.new.self c.complete.result c.is_done.ensures c.complete.ensures)
    (no_write c.complete.new.self c.cut_if_wanted.new.self c.cut_if_wanted.ensures)
