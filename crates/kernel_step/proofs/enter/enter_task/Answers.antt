-- The Enter is prepared and carried out.
use Rattle.std.proofs.Common.{◌≡◌, ◌∙◌, ◌++◌, [], ◌∷◌, ℕ, List, refl, sym, ap, subst, arith}
use Rattle.kernel_model.specs.declared.event.Event.{Event}
use Rattle.kernel_model.specs.declared.event.Event.TheVariants.{Enter}
use Rattle.machine_model.specs.States.{State, stopped_at}
use Rattle.kernel_step.specs.Entering.{unboxed}
use Rattle.kernel_step.specs.Ready.{MayEnter}
use Rattle.kernel_step.specs.Tasks.{machine_of}
use Rattle.kernel_step.specs.declared.task.Task.{Task}
use Rattle.kernel_step.proofs.EnterWorld.{carried-done}
use Rattle.kernel_step.proofs.Preparing.{is-ready, may-note}
use Rattle.kernel_step.proofs.enter.enter_task.Goals as goal

pub prepare-requires-clause-fine : goal.prepare-requires-clause-fine
prepare-requires-clause-fine c =
    subst (λ (x : State). MayEnter c.args.system.now c.args.pid x c.args.task.now.trace) (sym c.machine-machine.ensures) c.requires.fine

pub prepare-requires-clause-stands : goal.prepare-requires-clause-stands
prepare-requires-clause-stands c = ap (λ (x : State). stopped_at x) c.machine-machine.ensures ∙ c.requires.stands

pub carry_out-requires-clause-ready : goal.carry_out-requires-clause-ready
carry_out-requires-clause-ready c =
    let t : Task = c.args.task.now in
    let m : State = c.machine-machine.result.now in
    let here : m ≡ machine_of t = c.machine-machine.ensures in
    is-ready (record t { trace = c.prepare.new.trace }) m t.trace c.prepare.new.trace c.args.system.now c.prepare.new.system c.prepare.new.system.dependencies
    c.args.pid c.prepare.new.history c.in_ok-entering.entering
    (subst (λ (x : State). MayEnter c.args.system.now c.args.pid x t.trace) (sym here) c.requires.fine)
    c.in_ok-entering.ensures.prepared c.in_ok-entering.ensures.holds c.in_ok-entering.ensures.trace
    c.requires.here (sym here) refl

pub carry_out-requires-clause-noting : goal.carry_out-requires-clause-noting
carry_out-requires-clause-noting c =
    let room = c.in_ok-entering.ensures.holds.writes in
    may-note c.machine-machine.result.now c.args.task.now.trace c.prepare.new.trace c.args.system.now c.prepare.new.system c.prepare.new.system.dependencies c.args.pid
    c.prepare.new.history c.in_ok-entering.entering c.in_ok-entering.ensures.prepared c.in_ok-entering.ensures.holds (omega (arith, room))

pub returns-clause-done : goal.returns-clause-done
returns-clause-done c =
    let t : Task = c.args.task.now in
    carried-done c.args.pid c.machine-machine.result.now t (record t { trace = c.prepare.new.trace }) c.carry_out.new.task c.args.system.now c.prepare.new.system
    c.carry_out.new.system c.in_ok-entering.entering c.carry_out.result.0 (unboxed c.carry_out.result.1) (sym c.machine-machine.ensures) c.in_ok-entering.ensures.prepared
    (record { pid = refl; machine = refl; trace = c.in_ok-entering.ensures.trace; waited = refl; loans = refl; out = refl })
    c.carry_out.ensures.carried

pub returns-clause-history : goal.returns-clause-history
returns-clause-history c =
    c.carry_out.ensures.history
    ∙ ap (λ (es : List Event). es ++ Enter c.in_ok-entering.entering.pid ∷ []) c.in_ok-entering.ensures.history
    ∙ ap (λ (k : ℕ). c.args.history.now.items ++ Enter k ∷ []) c.in_ok-entering.ensures.prepared.entering.process
