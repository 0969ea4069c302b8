-- The later steps are left.
use Rattle.std.proofs.Common.{drop}
use Rattle.calls.specs.Plans.{all_seen}
use Rattle.kernel_step.proofs.Performing.{AreLeftSteps}
use Rattle.kernel_step.proofs.finishing.step_all.Given as goal

abbrev pub invariant-loop-step : goal.invariant-loop-step
invariant-loop-step l = AreLeftSteps l.pipes (drop l.step-index l.steps) (all_seen l.initial.pipes l.steps)
