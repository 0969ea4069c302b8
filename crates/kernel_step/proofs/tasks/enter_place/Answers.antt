-- The stop and the refusal are those of the task at the process's place.
use Rattle.std.proofs.Common.{◌≡◌, sym, ◌∙◌, Some, slice_get, subst}
use Rattle.machine_model.specs.States.{stopped_at}
use Rattle.kernel_step.specs.Tasks.{machine_of}
use Rattle.kernel_step.specs.declared.task.Task.{Task}
use Rattle.kernel_step.proofs.Lists.{get-there}
use Rattle.kernel_step.proofs.Turning.{enter-place}
use Rattle.kernel_step.proofs.tasks.enter_place.Goals as goal

pub returns-in-Ok-clause-fine : goal.returns-in-Ok-clause-fine
returns-in-Ok-clause-fine c =
    let t : Task = c.index-tasks-place.result in
    let there : slice_get c.args.tasks.now c.in-Some.place ≡ Some t = get-there c.args.tasks.now c.in-Some.place t c.in-Some.ensures.there c.index-tasks-place.is in
    enter-place c.args.tasks.now c.args.full c.args.pid c.in-Some.place t c.in-Some.ensures there
    ∙ c.in-Ok.ensures.fine

pub returns-in-Ok-clause-stop : goal.returns-in-Ok-clause-stop
returns-in-Ok-clause-stop c = λ u at.
    let t : Task = c.index-tasks-place.result in
    let there : slice_get c.args.tasks.now c.in-Some.place ≡ Some t = get-there c.args.tasks.now c.in-Some.place t c.in-Some.ensures.there c.index-tasks-place.is in
    let twice : Some t ≡ Some u = sym there ∙ at in
    let same : t ≡ u = cc in
    subst (λ (v : Task). stopped_at (machine_of v) ≡ Some c.in-Ok.stop) same c.in-Ok.ensures.stop

pub returns-in-Err-clause-refused : goal.returns-in-Err-clause-refused
returns-in-Err-clause-refused c =
    let t : Task = c.index-tasks-place.result in
    let there : slice_get c.args.tasks.now c.in-Some.place ≡ Some t = get-there c.args.tasks.now c.in-Some.place t c.in-Some.ensures.there c.index-tasks-place.is in
    enter-place c.args.tasks.now c.args.full c.args.pid c.in-Some.place t c.in-Some.ensures there
    ∙ c.in-Err.ensures.refused
