-- The task at a place ran, if its machine is here.
use Rattle.std.proofs.Common.{◌≡◌, ◌+◌, ◌^◌, ◌≤◌, slice_get, slice_index_or, Some, is_some, ap, arith}
use Rattle.std.proofs.lemmas.Option.{slice_get-get_or}
use Rattle.kernel_step.specs.Tasks.{machine_of}
use Rattle.kernel_step.specs.Whereabouts.{state_in, quantum_in}
use Rattle.kernel_step.specs.declared.task.Task.{Task}
use Rattle.kernel_step.specs.declared.whereabouts.Whereabouts.{Whereabouts}
use Rattle.kernel_step.specs.declared.whereabouts.Whereabouts.TheVariants.{Here, Out}
use Rattle.kernel_step.proofs.Turning.{ran-at}
use Rattle.kernel_step.proofs.tasks.run_at.Goals as goal

pub run-requires : goal.run-requires
run-requires c =
    let t : Task = slice_index_or c.args.tasks.now c.args.place c.index-tasks-place.result in
    let there : slice_get c.args.tasks.now c.args.place ≡ Some t = slice_get-get_or c.args.tasks.now c.args.place c.index-tasks-place.result c.requires.there in
    let here : t.whereabouts ≡ Here c.in-Here.machine = cc in
    let start : (machine_of t).count ≡ c.in-Here.machine.count = ap (λ (w : Whereabouts). (state_in w).count) here in
    let room : (machine_of t).count + c.args.n ≤ 2 ^ 40 = c.requires.room t there in
    omega (arith, start, room)

pub returns-in-Here-clause-ran : goal.returns-in-Here-clause-ran
returns-in-Here-clause-ran c =
    let here : (slice_index_or c.args.tasks.now c.args.place c.index-tasks-place.result).whereabouts ≡ Here c.in-Here.machine = cc in
    ran-at c.args.tasks.now c.args.place c.args.n c.run.result.0 c.run.result.1 c.index-tasks-place.result c.in-Here.machine c.run.new.self c.requires.there
    here c.run.ensures.run c.run.ensures.within c.run.ensures.count

pub returns-in-Out-clause-lent : goal.returns-in-Out-clause-lent
returns-in-Out-clause-lent c = λ t there.
    let at : slice_get c.args.tasks.now c.args.place ≡ Some (slice_index_or c.args.tasks.now c.args.place c.index-tasks-place.result) =
    slice_get-get_or c.args.tasks.now c.args.place c.index-tasks-place.result c.requires.there in
    let same : t ≡ slice_index_or c.args.tasks.now c.args.place c.index-tasks-place.result = cc in
    let out : t.whereabouts ≡ Out c.in-Out.began c.in-Out.quantum = cc in
    ap (λ (w : Whereabouts). is_some (quantum_in w)) out
