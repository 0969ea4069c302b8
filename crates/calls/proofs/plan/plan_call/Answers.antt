-- What holds of the row holds of the plan.
use Rattle.calls.specs.Sights.{sight_of}
use Rattle.calls.proofs.Calling.{planned-call}
use Rattle.calls.proofs.plan.plan_call.Goals as goal

pub returns : goal.returns
returns c =
    planned-call (sight_of c.args.tables.now) c.args.pid c.args.request c.descriptors_of-descriptors.result.now c.in_ok-row.row c.planned.result
    c.requires.may c.requires.whole c.descriptors_of-descriptors.ensures.value c.descriptors_of-descriptors.ensures.few
    c.in_ok-row.ensures.row c.in_ok-row.ensures.carries c.planned.ensures
