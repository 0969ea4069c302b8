-- The last of a process's replies is the one that it was told.
use Rattle.std.proofs.Common.{◌∙◌}
use Rattle.run_events.proofs.Growing.{last-reply, some-reply, none-some, still-there}
use Rattle.run_events.proofs.event_record.last_reply.Goals as goal

pub returns-in-Some : goal.returns-in-Some
returns-in-Some c = λ k r grown fine is.
    some-reply _ c.in-Some.reply.now r (c.in-Some.ensures.value ∙ last-reply k c.args.core.now c.args.pid r c.in-Ok.replies.now grown fine is c.in-Ok.ensures.replies) is

pub returns-in-None : goal.returns-in-None
returns-in-None c = λ k r grown fine is.
    none-some r _ (c.in-None.ensures.value ∙ last-reply k c.args.core.now c.args.pid r c.in-Ok.replies.now grown fine is c.in-Ok.ensures.replies)

pub returns-in-Err : goal.returns-in-Err
returns-in-Err c = λ k r grown fine is. still-there k c.args.core.now c.args.pid _ grown fine c.in-Err.ensures.none.1
