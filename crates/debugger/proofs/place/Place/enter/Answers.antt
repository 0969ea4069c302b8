-- A program is entered.
use Rattle.std.proofs.Common.{sym, ap, ◌∙◌}
use Rattle.machine_model.specs.declared.reply.Reply.{Reply}
use Rattle.debugger.proofs.Onward.{enters-leads}
use Rattle.debugger.proofs.place.Place.enter.Goals as goal

pub returns-in_ok-enter-clause-leads : goal.returns-in_ok-enter-clause-leads
returns-in_ok-enter-clause-leads c =
    enters-leads c.args.replies.now c.args.self.now.taken c.args.self.now.machine c.enter.new.self c.in-Some.image.now c.index-replies-self.result c.requires.enters c.requires.onward (ap (λ (r : Reply). r.image) (sym c.index-replies-self.is) ∙ sym c.in-Some.ensures) c.in_ok-enter.ensures.entered
