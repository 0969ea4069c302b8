-- The answer says what was told.
use Rattle.std.proofs.Common.{sym, ◌∙◌}
use Rattle.kernel_model.specs.Answers.{now}
use Rattle.kernel_model.specs.Steps.{step}
use Rattle.kernel_model.specs.declared.event.Event.TheVariants.{Enter}
use Rattle.run_events.proofs.Growing.{replied-is, ended-is, told-none}
use Rattle.run_events.proofs.event_record.told_by_enter.Goals as goal

pub returns-in-Entered : goal.returns-in-Entered
returns-in-Entered c = λ k grown fine answered.
    let r = replied-is (step (now k).sync (Enter c.args.pid)).entry.item (sym c.in-Entered.is ∙ answered) in
    c.last_reply.ensures k r.reply grown fine r.is

pub returns-in-Ended : goal.returns-in-Ended
returns-in-Ended c = λ k grown fine answered.
    let e = ended-is (step (now k).sync (Enter c.args.pid)).entry.item (sym c.in-Ended.is ∙ answered) in
    c.end_of.ensures k e.status grown e.is

pub returns-in_default : goal.returns-in_default
returns-in_default c = λ k grown fine answered.
    told-none (step (now k).sync (Enter c.args.pid)).entry.item c.args.answer answered c.in_default.not-Entered c.in_default.not-Ended
