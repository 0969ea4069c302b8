-- The machine that is looked at is the result's.
use Rattle.std.proofs.Common.{◌∙◌, sym, ap, subst}
use Rattle.std.specs.Prelude.{IfOk}
use Rattle.machine_model.specs.States.{State, stopped_at}
use Rattle.kernel_step.specs.Ready.{MayEnter, IsPrepared}
use Rattle.kernel_step.proofs.settle.prepare_done.Goals as goal

pub prepare-requires-clause-fine : goal.prepare-requires-clause-fine
prepare-requires-clause-fine c =
    subst (λ (x : State). MayEnter c.args.system.now c.args.done.now.pid x c.args.trace.now) (sym c.machine-machine.ensures) c.requires.fine

pub prepare-requires-clause-stands : goal.prepare-requires-clause-stands
prepare-requires-clause-stands c = ap (λ (x : State). stopped_at x) c.machine-machine.ensures ∙ c.requires.stands

pub returns-clause-prepared : goal.returns-clause-prepared
returns-clause-prepared c =
    subst (λ (x : State). IfOk c.prepare.result (λ e. IsPrepared c.args.done.now.pid x c.args.trace.now c.args.system.now c.prepare.new.system e)) c.machine-machine.ensures c.prepare.ensures.prepared
