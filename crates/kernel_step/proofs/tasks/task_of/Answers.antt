-- The task stands at the process's place.
use Rattle.kernel_step.proofs.Lists.{get-there}
use Rattle.kernel_step.proofs.tasks.task_of.Goals as goal

pub returns-in-Some-clause-task : goal.returns-in-Some-clause-task
returns-in-Some-clause-task c = record {
  place = c.in-Some.place;
  placed = c.in-Some.ensures;
  there = get-there c.args.tasks.now c.in-Some.place c.index-tasks-place.result c.in-Some.ensures.there c.index-tasks-place.is;
}
