-- One task more, and in the end all.
use Rattle.std.proofs.Common.{◌≡◌, List, sym, subst, ◌∙◌, arith, slice_get, Some}
use Rattle.memory_model.specs.Access.{HoldsBytes}
use Rattle.machine_model.specs.States.{State}
use Rattle.kernel_step.specs.declared.booting.Program.{Program}
use Rattle.kernel_step.specs.declared.task.Task.{Task}
use Rattle.kernel_step.proofs.Beginning.{FirstSo, first-none, first-more}
use Rattle.kernel_step.proofs.Lists.{get-there}
use Rattle.kernel_step.proofs.booting.first_tasks.Goals as goal

pub loop-place-init : goal.loop-place-init
loop-place-init c = subst (λ (ts : List Task). FirstSo c.args.programs.now ts 0) (sym c.new-tasks.ensures.items) (first-none c.args.programs.now)

pub loop-place-preserved : goal.loop-place-preserved
loop-place-preserved c =
    let p : Program = c.index-programs-place.result in
    let there : slice_get c.args.programs.now c.loop-place.place ≡ Some p =
    get-there c.args.programs.now c.loop-place.place p c.loop-place-test.true c.index-programs-place.is in
    first-more c.args.programs.now c.loop-place.tasks.items c.push.new.self.items c.loop-place.place p c.in_ok-task.task c.loop-place.invariant there
    (record {
      number = c.in_ok-task.ensures.pid;
      machine = c.in_ok-task.ensures.machine ∙ c.in_ok-machine.ensures.first;
      bytes = subst (λ (s : State). HoldsBytes s.architectural.memory) (sym c.in_ok-task.ensures.machine) c.in_ok-machine.ensures.bytes;
      trace = c.in_ok-task.ensures.trace;
      waited = c.in_ok-task.ensures.waited;
      loans = c.in_ok-task.ensures.loans;
      out = c.in_ok-task.ensures.out;
    })
    c.in_ok-push.ensures.items

pub returns : goal.returns
returns c =
    let all = c.loop-place.invariant in
    record { count = all.count ∙ omega arith; each = all.each }
