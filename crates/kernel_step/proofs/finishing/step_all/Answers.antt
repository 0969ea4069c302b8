-- One step more is done, and in the end all.
use Rattle.std.proofs.Common.{refl, drop, ◌+◌}
use Rattle.calls.specs.Plans.{all_seen}
use Rattle.kernel_step.proofs.Performing.{left-first, left-next, left-none}
use Rattle.kernel_step.proofs.finishing.step_all.Goals as goal

pub loop-step-init : goal.loop-step-init
loop-step-init c = record { plain = c.requires.plain; may = c.requires.may; ends = refl }

pub step_pipe-requires-clause-plain : goal.step_pipe-requires-clause-plain
step_pipe-requires-clause-plain c =
    (left-first c.loop-step.pipes (all_seen c.args.pipes.now c.args.steps.now) c.args.steps.now c.loop-step.step-index c.step-item.result
    c.loop-step-test.true c.step-item.is c.loop-step.invariant).plain.0

pub step_pipe-requires-clause-may : goal.step_pipe-requires-clause-may
step_pipe-requires-clause-may c =
    (left-first c.loop-step.pipes (all_seen c.args.pipes.now c.args.steps.now) c.args.steps.now c.loop-step.step-index c.step-item.result
    c.loop-step-test.true c.step-item.is c.loop-step.invariant).may.0

pub loop-step-preserved : goal.loop-step-preserved
loop-step-preserved c =
    left-next c.loop-step.pipes c.step_pipe.new.pipes (all_seen c.args.pipes.now c.args.steps.now) (drop (c.loop-step.step-index + 1) c.args.steps.now) c.step-item.result
    c.step_pipe.ensures
    (left-first c.loop-step.pipes (all_seen c.args.pipes.now c.args.steps.now) c.args.steps.now c.loop-step.step-index c.step-item.result
    c.loop-step-test.true c.step-item.is c.loop-step.invariant)

pub returns : goal.returns
returns c = left-none c.loop-step.pipes (all_seen c.args.pipes.now c.args.steps.now) c.args.steps.now c.loop-step.step-index c.loop-step-test.false c.loop-step.invariant
