-- A child is made or collected, or neither.
use Rattle.kernel_step.proofs.Performing.{fork-children, collect-children, same-children}
use Rattle.kernel_step.proofs.finishing.change_children.Goals as goal

pub returns-in-Some : goal.returns-in-Some
returns-in-Some c = fork-children c.args.processes.now.parts c.fork.new.self.parts c.args.pid c.args.plan.now c.in-Some.field-0
    c.in-Some.is c.requires.one c.requires.child c.fork.ensures.exact

pub returns-in-Some-collects : goal.returns-in-Some-collects
returns-in-Some-collects c = collect-children c.args.processes.now.parts c.collect.new.self.parts c.args.pid c.args.plan.now c.in-Some-collects.child
    c.in-None.is c.in-Some-collects.is c.collect.ensures.exact

pub returns-in_default : goal.returns-in_default
returns-in_default c = same-children c.args.processes.now.parts c.args.pid c.args.plan.now c.in-None.is c.in_default.is
