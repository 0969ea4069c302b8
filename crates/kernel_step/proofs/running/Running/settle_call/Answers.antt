-- The child comes after the others.
use Rattle.std.proofs.Common.{◌≡◌, ◌<◌, ◌++◌, ◌∙◌, ℕ, ◌+◌, List, Some, length, refl, slice_get, slice_set, option_to_list, ap, sym, subst, arith}
use Rattle.kernel_step.specs.Entering.{unboxed}
use Rattle.kernel_step.specs.declared.task.Task.{Task}
use Rattle.kernel_step.proofs.EnterResults.{on-err-any}
use Rattle.kernel_step.proofs.Lists.{get-there}
use Rattle.kernel_step.proofs.SettleCore.{only-room, unsettled-same}
use Rattle.kernel_step.proofs.running.Running.settle_call.Goals as goal
use Rattle.kernel_step.proofs.running.Running.settle_call.Goals.{After-index_mut-task}

-- the task
there : (c : After-index_mut-task) → slice_get c.args.self.now.tasks.items c.args.place ≡ Some c.index_mut-task.result.now
there c =
    let same : c.reserve.new.self.items ≡ c.args.self.now.tasks.items = c.reserve.ensures.items in
    let within : c.args.place < length c.reserve.new.self.items = subst (λ (ts : List Task). c.args.place < length ts) (sym same) c.requires.fine.within in
    ap (λ (ts : List Task). slice_get ts c.args.place) (sym same) ∙ get-there c.reserve.new.self.items c.args.place c.index_mut-task.result.now within c.index_mut-task.ensures.value

pub settle_enter-requires-clause-fine : goal.settle_enter-requires-clause-fine
settle_enter-requires-clause-fine c = c.requires.fine.fine c.index_mut-task.result.now (there (goal.at.settle_enter-requires-clause-fine c).After-index_mut-task)

pub returns-clause-done : goal.returns-clause-done
returns-clause-done c =
    let done = c.in_ok-answer.ensures.done in
    record {
      task = c.index_mut-task.result.now;
      there = there (goal.at.returns-clause-done c).After-index_mut-task;
      after = c.settle_enter.new.task;
      child = unboxed c.in_ok-answer.child;
      outcome = done.0;
      entered = done.2;
      tasks = c.join.ensures ∙ ap (λ (ts : List Task). slice_set ts c.args.place c.settle_enter.new.task ++ option_to_list (unboxed c.in_ok-answer.child)) c.reserve.ensures.items;
      history = c.in_ok-answer.ensures.history;
      ran = ap (λ (n : ℕ). c.args.self.now.ran + n) c.from-count.ensures;
      out = omega (arith, c.requires.fine.some);
      last_lent = refl;
      answer = done.1;
    }

pub returns-then-is_err-clause-same : goal.returns-then-is_err-clause-same
returns-then-is_err-clause-same c =
    unsettled-same c.args.self.now _ c.args.place c.requires.fine.within c.reserve.ensures.items
    (only-room c.args.self.now.system c.args.self.now.system.dependencies refl) refl refl refl refl

pub returns-in_err-answer-clause-same : goal.returns-in_err-answer-clause-same
returns-in_err-answer-clause-same c =
    on-err-any c.from_residual.result (record {
      task = c.index_mut-task.result.now;
      there = there (goal.at.returns-in_err-answer-clause-same c).After-index_mut-task;
      after = c.settle_enter.new.task;
      same = c.in_err-answer.ensures.err.task;
      tasks = ap (λ (ts : List Task). slice_set ts c.args.place c.settle_enter.new.task) c.reserve.ensures.items;
      system = c.in_err-answer.ensures.err.system;
      history = c.in_err-answer.ensures.err.history;
      ran = refl;
      out = refl;
      last_lent = refl;
    })
