-- One task more has moved on, and in the end all.
use Rattle.std.proofs.Common.{◌<◌, arith, length, get_or, refl}
use Rattle.std.proofs.lemmas.Option.{slice_get-get_or}
use Rattle.kernel_step.specs.Advanced.{IsMoved}
use Rattle.kernel_step.specs.declared.task.Task.{Task}
use Rattle.kernel_step.proofs.Moving.{moved-none, moved-one, moved-all}
use Rattle.kernel_step.proofs.tasks.hand_all.Goals as goal

pub loop-task-init : goal.loop-task-init
loop-task-init c = moved-none (IsMoved c.args.committed) c.args.tasks.now

pub loop-task-preserved : goal.loop-task-preserved
loop-task-preserved c =
    let x : Task = get_or c.loop-task.tasks c.loop-task.task-index c.task-item.result in
    let within : c.loop-task.task-index < length c.loop-task.tasks = omega arith in
    moved-one (IsMoved c.args.committed) c.args.tasks.now c.loop-task.tasks c.loop-task.task-index x (record x { trace = c.advance.new.self })
    (slice_get-get_or c.loop-task.tasks c.loop-task.task-index c.task-item.result within)
    (record {
      number = refl;
      machine = refl;
      loans = refl;
      out = refl;
      trace = record { items = c.advance.ensures.items; committed = c.advance.ensures.committed };
      waited = refl;
    })
    c.loop-task.invariant

pub returns : goal.returns
returns c = record {
  count = c.loop-task.auto.tasks;
  each = moved-all (IsMoved c.args.committed) c.args.tasks.now c.loop-task.tasks c.loop-task.task-index (omega arith) c.loop-task.invariant;
}
