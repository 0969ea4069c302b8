-- One reply more.
use Rattle.std.proofs.Common.{◌++◌, ◌∷◌, [], List, Option, ap, ◌∙◌}
use Rattle.std.proofs.lemmas.List.{append-nil}
use Rattle.kernel_model.specs.Entries.{Item, Got}
use Rattle.held_output.specs.Withheld.{Withheld, Held, all_held}
use Rattle.held_output.specs.Traces.{ending_items, as_items}
use Rattle.held_output.specs.declared.trace.Ending.{Ending}
use Rattle.held_output.proofs.Traces.{are-all, reply-more}
use Rattle.held_output.proofs.trace.Trace.reply.Goals as goal

pub returns-clause-items : goal.returns-clause-items
returns-clause-items c =
    let all = are-all c.self.inside.replies.items c.self.inside.ending c.args.self.now.items (ap (λ (w : Withheld Item). w.items) c.self.view_is) c.requires.running in
    ap (λ (o : Option Ending). as_items c.push.new.self.items ++ ending_items o) all.none
    ∙ append-nil (as_items c.push.new.self.items)
    ∙ ap as_items c.push.ensures.items
    ∙ reply-more c.self.inside.replies.items c.args.mark c.args.reply
    ∙ ap (λ (hs : List (Held Item)). hs ++ all_held c.args.mark (Got c.args.reply ∷ [])) all.same
