-- An Enter tells its process something, and no other event does.
use Rattle.std.proofs.Common.{◌≡◌, subst, sym, None}
use Rattle.kernel_model.specs.Answers.{now, with_event, refusal, answer as answer_to}
use Rattle.kernel_model.specs.declared.event.Event.{Event}
use Rattle.kernel_model.specs.Steps.{step}
use Rattle.run_events.proofs.Growing.{other-silent}
use Rattle.std.specs.Prelude.{option_map}
use Rattle.run_events.specs.Telling.{item_in}
use Rattle.run_events.proofs.event_record.told_by_event.Goals as goal

pub returns-in-Enter : goal.returns-in-Enter
returns-in-Enter c = λ k.
    subst (λ (e : Event). c.args.core.now ≡ with_event k e → refusal k e ≡ None → c.args.answer ≡ answer_to k e → option_map item_in c.told_by_enter.result ≡ (step (now k).sync e).entry.item)
    (sym c.in-Enter.is) (c.told_by_enter.ensures k)

pub returns-in_default : goal.returns-in_default
returns-in_default c = λ k grown fine answered. other-silent (now k).sync c.args.event c.in_default.not-Enter
