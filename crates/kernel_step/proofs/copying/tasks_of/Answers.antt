-- One more process is copied.
use Rattle.std.proofs.Common.{map, ap, ◌∙◌, arith}
use Rattle.kernel_step.specs.Copies.{parts_of}
use Rattle.kernel_step.proofs.SameParts.{copied-more}
use Rattle.kernel_step.proofs.copying.tasks_of.Goals as goal

pub loop-task-preserved : goal.loop-task-preserved
loop-task-preserved c =
    ap (map parts_of) c.in_ok-push.ensures.items
    ∙ copied-more parts_of c.args.tasks.now c.loop-task.copies.items c.loop-task.task-index c.task-item.result _ (omega (arith, c.loop-task-test.true)) c.task-item.is
    c.in_ok-try_clone.ensures c.loop-task.invariant
