-- Ends may be given up, and nothing else changes.
use Rattle.std.proofs.Common.{refl, arith}
use Rattle.kernel_model.specs.Rows.{ends_of, row_end}
use Rattle.calls.proofs.Planned.{plain-plan, ending-edits, ending-steps, ending-opens, ending-few}
use Rattle.calls.proofs.Stepping.{length-ends_of}
use Rattle.calls.proofs.ends.plan_end.Goals as goal

pub returns-clause-row : goal.returns-clause-row
returns-clause-row c =
    plain-plan c.in_ok-ending.field-0 c.with_change.result (row_end c.args.descriptors.now c.args.status)
    c.in_ok-ending.ensures.row refl c.with_change.ensures.row

pub returns-clause-edits : goal.returns-clause-edits
returns-clause-edits c =
    ending-edits c.with_change.result (ends_of c.args.descriptors.now) c.args.status c.with_change.ensures.change (returns-clause-row c)

pub returns-clause-steps : goal.returns-clause-steps
returns-clause-steps c = ending-steps c.with_change.result (ends_of c.args.descriptors.now) c.args.status (returns-clause-row c)

pub returns-clause-opens : goal.returns-clause-opens
returns-clause-opens c = ending-opens c.with_change.result (ends_of c.args.descriptors.now) c.args.status (returns-clause-row c)

pub returns-clause-few : goal.returns-clause-few
returns-clause-few c =
    ending-few c.with_change.result (ends_of c.args.descriptors.now) c.args.status (returns-clause-row c)
    (omega (arith, length-ends_of c.args.descriptors.now, c.in_ok-ending.ensures.few))
