-- The parts do what the run says.
use Rattle.std.proofs.Common.{◌≡◌, ◌∙◌, ℕ, ◌^◌, ◌≤◌, refl, ap, sym, subst, ◌++◌, List, Option, None, Some, length, slice_get, slice_set, map, option_to_list, Bool, arith}
use Rattle.machine_model.specs.States.{stopped_at}
use Rattle.kernel_model.specs.Answers.{with_child}
use Rattle.kernel_model.specs.Answers.{entered as answer_to}
use Rattle.kernel_model.specs.World.{World, happens}
use Rattle.kernel_model.specs.declared.answer.Outcome.{Outcome}
use Rattle.kernel_model.specs.declared.event.Event.TheVariants.{Enter}
use Rattle.kernel_step.specs.Entering.{IsDone, unboxed}
use Rattle.kernel_step.specs.Mirrors.{Mirrors}
use Rattle.kernel_step.specs.Tests.{IsPlaceOf, enter_refusal_of}
use Rattle.kernel_step.specs.Tasks.{machine_of, lending_of}
use Rattle.kernel_step.specs.declared.system.System.{System}
use Rattle.kernel_step.specs.declared.task.Task.{Task}
use Rattle.kernel_step.proofs.EnterFine.{IsFineTask, fine-task}
use Rattle.kernel_step.proofs.EnterResults.{on-err-any}
use Rattle.kernel_step.proofs.EnterWorld.{IsRun, fresh-files, may-plan, done-runs, same-mirrors, same-lendings}
use Rattle.kernel_step.proofs.Lists.{get-reserved}
use Rattle.kernel_step.proofs.running.Running.try_enter.Goals as goal
use Rattle.kernel_step.proofs.running.Running.try_enter.Goals.{After-index_mut-task}

-- ---- the task
placed : (c : After-index_mut-task) → IsPlaceOf c.args.self.now.tasks.items c.args.pid c.in_ok-place.place
placed c = subst (λ (ts : List Task). IsPlaceOf ts c.args.pid c.in_ok-place.place) c.deref.ensures.value c.in_ok-place.ensures.place

there : (c : After-index_mut-task) → slice_get c.args.self.now.tasks.items c.in_ok-place.place ≡ Some c.index_mut-task.result.now
there c =
    get-reserved c.args.self.now.tasks.items c.reserve.new.self.items c.in_ok-place.place c.index_mut-task.result.now
    c.in_ok-reserve.ensures.items (placed c).there c.index_mut-task.ensures.value

fine : (c : After-index_mut-task) → IsFineTask c.index_mut-task.result.now c.is_full-full.result
fine c =
    fine-task c.args.self.now.tasks.items c.is_full-full.result c.args.pid c.in_ok-place.place c.index_mut-task.result.now (placed c).number (there c)
    (subst (λ (ts : List Task). enter_refusal_of ts c.is_full-full.result c.args.pid ≡ None) c.deref.ensures.value c.in_ok-place.ensures.fine)

-- ---- the Enter
pub enter_task-requires-clause-here : goal.enter_task-requires-clause-here
enter_task-requires-clause-here c = (fine (goal.at.enter_task-requires-clause-here c).After-index_mut-task).here

pub enter_task-requires-clause-fine : goal.enter_task-requires-clause-fine
enter_task-requires-clause-fine c =
    let t = (goal.at.enter_task-requires-clause-fine c).After-index_mut-task in
    let ready = fine t in
    let served : c.args.self.now.system.served ≤ length c.requires.world.log = c.requires.mirrors.counted in
    let short : length c.requires.world.log ≤ 2 ^ 40 = c.requires.short in
    record {
      stands = ready.stopped;
      budget = ready.few;
      running = ready.running;
      plan =
          may-plan c.checkpoints_fit.ensures c.requires.world c.args.self.now.tasks.items c.args.self.now.system c.args.pid c.in_ok-place.place c.index_mut-task.result.now
          c.requires.mirrors c.requires.limits c.requires.short (placed t).number (there t);
      few = omega (arith, served, short);
      fresh = fresh-files c.requires.world c.args.self.now.system c.requires.mirrors.changes c.requires.short;
    }

pub enter_task-requires-clause-stands : goal.enter_task-requires-clause-stands
enter_task-requires-clause-stands c =
    subst (λ (ts : List Task). (t : Task) → slice_get ts c.in_ok-place.place ≡ Some t → stopped_at (machine_of t) ≡ Some c.in_ok-place.stop) c.deref.ensures.value
    c.in_ok-place.ensures.stop c.index_mut-task.result.now (there (goal.at.enter_task-requires-clause-stands c).After-index_mut-task)

-- the run after it
runs : (c : After-index_mut-task) (u : Task) (s' : System) (outcome : Outcome) (child : Option Task)
    → IsDone c.args.pid c.index_mut-task.result.now u c.args.self.now.system s' outcome child
    → (w : World) → Mirrors w c.args.self.now.tasks.items c.args.self.now.system
    → IsRun w c.args.pid c.args.self.now.tasks.items (slice_set c.args.self.now.tasks.items c.in_ok-place.place u ++ option_to_list child) c.args.self.now.system s' outcome
runs c u s' outcome child done w h =
    done-runs (record { changes = c.made_files_change.ensures; pipes = record { shown = c.steps_are_shown.ensures.next; grown = c.ends_grow_by_one.ensures } }) w c.args.self.now.tasks.items c.args.self.now.system s' c.args.pid c.in_ok-place.place c.is_full-full.result c.index_mut-task.result.now u outcome child
    h (placed c).number (there c) (fine c) done

pub returns-clause-done : goal.returns-clause-done
returns-clause-done c =
    let tasks : List Task = c.args.self.now.tasks.items in
    let u : Task = c.enter_task.new.task in
    let child : Option Task = unboxed c.in_ok-outcome.child in
    let run = runs (goal.at.returns-clause-done c).After-index_mut-task u c.enter_task.new.system c.in_ok-outcome.outcome child c.in_ok-outcome.ensures.done in
    let grown : c.join.new.tasks.items ≡ slice_set tasks c.in_ok-place.place u ++ option_to_list child =
    c.join.ensures ∙ ap (λ (ts : List Task). slice_set ts c.in_ok-place.place u ++ option_to_list child) c.in_ok-reserve.ensures.items in
    record {
      fine =
          ap (λ (f : Bool). enter_refusal_of tasks f c.args.pid) (sym c.is_full-full.ensures)
          ∙ subst (λ (ts : List Task). enter_refusal_of ts c.is_full-full.result c.args.pid ≡ None) c.deref.ensures.value c.in_ok-place.ensures.fine;
      answer = λ w h. c.entered.ensures ∙ ap (λ (o : Outcome). answer_to o) (run w h).outcome_is;
      mirrors = λ w h. subst (λ (ts : List Task). Mirrors (happens w (Enter c.args.pid)) ts c.enter_task.new.system) (sym grown) (run w h).mirrors;
      footprint = λ w h. (run w h).footprint;
      lendings = λ w h.
          ap (λ (ts : List Task). map lending_of ts) grown
          ∙ (run w h).lendings
          ∙ ap (λ (o : Option ℕ). with_child (map lending_of tasks) o) (run w h).child_is;
      history = c.in_ok-outcome.ensures.history;
      ran = refl;
      out = refl;
      last_lent = refl;
    }

pub returns-in_err-outcome-clause-same : goal.returns-in_err-outcome-clause-same
returns-in_err-outcome-clause-same c =
    let tasks : List Task = c.args.self.now.tasks.items in
    let u : Task = c.enter_task.new.task in
    let at = there (goal.at.returns-in_err-outcome-clause-same c).After-index_mut-task in
    on-err-any c.from_residual-in_err-outcome.result (record {
      mirrors = λ w h.
          subst (λ (ts : List Task). Mirrors w (slice_set ts c.in_ok-place.place u) c.enter_task.new.system) (sym c.in_ok-reserve.ensures.items)
          (same-mirrors w tasks c.args.self.now.system c.enter_task.new.system c.in_ok-place.place c.index_mut-task.result.now u at
          c.in_err-outcome.ensures.err.task c.in_err-outcome.ensures.err.system h);
      footprints = c.in_err-outcome.ensures.err.system.footprints;
      lendings =
          ap (λ (ts : List Task). map lending_of (slice_set ts c.in_ok-place.place u)) c.in_ok-reserve.ensures.items
          ∙ same-lendings tasks c.in_ok-place.place c.index_mut-task.result.now u at c.in_err-outcome.ensures.err.task.loans c.in_err-outcome.ensures.err.task.out;
      history = c.in_err-outcome.ensures.err.history;
      ran = refl;
      out = refl;
      last_lent = refl;
    })
