-- The same items.
use Rattle.std.proofs.Common.{ap, ◌∙◌, rules}
use Rattle.std.proofs.lemmas.List.{append-nil}
use Rattle.kernel_model.specs.Entries.{Item}
use Rattle.held_output.specs.Withheld.{Withheld}
use Rattle.held_output.specs.Traces.{as_items}
use Rattle.held_output.proofs.Traces.{are-all}
use Rattle.held_output.proofs.trace.Trace.forked.Goals as goal

pub returns-clause-items : goal.returns-clause-items
returns-clause-items c =
    let all = are-all c.self.inside.replies.items c.self.inside.ending c.args.self.now.items (ap (λ (w : Withheld Item). w.items) c.self.view_is) c.requires.running in
    append-nil (as_items c.reserve.new.self.items)
    ∙ ap as_items c.reserve.ensures.same.items
    ∙ ap as_items c.in_ok-replies.ensures.items
    ∙ all.same

-- Without an answer this would be proved too; with one, an edit that breaks it is refused sooner.
pub returns-clause-room : goal.returns-clause-room
returns-clause-room c = search rules
