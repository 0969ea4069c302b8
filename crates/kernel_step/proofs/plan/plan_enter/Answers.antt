-- A plan, at a trap and at a call.
use Rattle.std.proofs.Common.{◌≡◌, ◌∙◌, ap, Some, None, sym, subst, List, Option, IfOk}
use Rattle.calls.specs.Plans.{effect_with}
use Rattle.calls.specs.Sights.{Sight, MayPlanCall, PlansCall}
use Rattle.kernel_model.specs.Rows.{row_end}
use Rattle.kernel_model.specs.declared.descriptor.Descriptor.{Descriptor}
use Rattle.machine_model.specs.declared.stop.Stop.{Stop}
use Rattle.machine_model.specs.declared.stop.Stop.TheVariants.{Call}
use Rattle.kernel_step.specs.Entering.{sight_in}
use Rattle.kernel_step.proofs.EnterPlans.{trap-result, result-plans, stands-call}
use Rattle.kernel_step.proofs.plan.plan_enter.Goals as goal

pub returns-in-Trap : goal.returns-in-Trap
returns-in-Trap c =
    trap-result (sight_in c.args.system.now) c.args.caller.now.pid c.args.caller.now.machine.now c.plan_end.result c.in-Trap.cause c.trap_status.result
    (c.requires.stands ∙ ap (λ (s : Stop). Some s) c.in-Trap.is)
    c.trap_status.ensures
    (subst (λ (ds : List (Option Descriptor)). IfOk c.plan_end.result (λ plan. effect_with plan None ≡ row_end ds c.trap_status.result)) c.descriptors_of-descriptors.ensures c.plan_end.ensures.row)
    c.plan_end.ensures.change
    c.plan_end.ensures.edits
    c.plan_end.ensures.opens
    c.plan_end.ensures.few
    (c.plan_end.ensures.steps c.args.system.now.pipes)

pub plan_call-requires-clause-may : goal.plan_call-requires-clause-may
plan_call-requires-clause-may c = subst (λ (seen : Sight). MayPlanCall seen c.args.caller.now.pid) (sym c.tables.ensures) c.requires.fine.call

pub returns-in_ok-request-in_default : goal.returns-in_ok-request-in_default
returns-in_ok-request-in_default c =
    let call : c.args.caller.now.stop ≡ Call = stands-call c.args.caller.now.machine.now c.args.caller.now.stop c.requires.stands (λ cause is. c.in_default.not-Trap cause is) in
    result-plans (sight_in c.args.system.now) c.args.caller.now.pid c.args.caller.now.machine.now c.plan_call.result c.in_ok-request-in_default.request
    (c.requires.stands ∙ ap (λ (s : Stop). Some s) call)
    (c.in_ok-request-in_default.ensures.request)
    c.requires.fine.ends
    (subst (λ (seen : Sight). IfOk c.plan_call.result (λ plan. PlansCall seen c.args.caller.now.pid c.in_ok-request-in_default.request plan)) c.tables.ensures c.plan_call.ensures)
