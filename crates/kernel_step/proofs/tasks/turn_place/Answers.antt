-- The refusal is that of the task at the process's place.
use Rattle.std.proofs.Common.{◌≡◌, sym, ◌∙◌, Some, is_some, slice_get, subst, ◌^◌, ◌+◌, ◌≤◌}
use Rattle.kernel_step.specs.Tasks.{machine_of, out_of, process_of}
use Rattle.kernel_step.specs.declared.task.Task.{Task}
use Rattle.kernel_step.proofs.Lists.{get-there}
use Rattle.kernel_step.proofs.Refusing.{turn-fine}
use Rattle.kernel_step.proofs.Turning.{turn-place}
use Rattle.kernel_step.proofs.tasks.turn_place.Goals as goal

pub returns-in-Some-turn_refused-clause-refused : goal.returns-in-Some-turn_refused-clause-refused
returns-in-Some-turn_refused-clause-refused c =
    let t : Task = c.index-tasks-place.result in
    let there : slice_get c.args.tasks.now c.in-Some.place ≡ Some t = get-there c.args.tasks.now c.in-Some.place t c.in-Some.ensures.there c.index-tasks-place.is in
    turn-place c.args.tasks.now c.args.full c.args.pid c.in-Some.place c.args.n t c.in-Some.ensures there
    ∙ sym c.in-Some-turn_refused.ensures

pub returns-in-None-clause-fine : goal.returns-in-None-clause-fine
returns-in-None-clause-fine c =
    let t : Task = c.index-tasks-place.result in
    let there : slice_get c.args.tasks.now c.in-Some.place ≡ Some t = get-there c.args.tasks.now c.in-Some.place t c.in-Some.ensures.there c.index-tasks-place.is in
    turn-place c.args.tasks.now c.args.full c.args.pid c.in-Some.place c.args.n t c.in-Some.ensures there
    ∙ sym c.in-None.ensures

pub returns-in-None-clause-room : goal.returns-in-None-clause-room
returns-in-None-clause-room c = λ u at.
    let t : Task = c.index-tasks-place.result in
    let there : slice_get c.args.tasks.now c.in-Some.place ≡ Some t = get-there c.args.tasks.now c.in-Some.place t c.in-Some.ensures.there c.index-tasks-place.is in
    let fine = turn-fine (process_of t) (is_some (out_of t)) c.args.full c.args.n (sym c.in-None.ensures) in
    let twice : Some t ≡ Some u = sym there ∙ at in
    let same : t ≡ u = cc in
    subst (λ (v : Task). (machine_of v).count + c.args.n ≤ 2 ^ 40) same fine.few
