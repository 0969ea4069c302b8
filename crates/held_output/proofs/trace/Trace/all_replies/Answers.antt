-- All replies.
use Rattle.std.proofs.Common.{ap, ◌∙◌}
use Rattle.kernel_model.specs.Entries.{Item}
use Rattle.kernel_model.specs.Shown.{replies_in}
use Rattle.held_output.specs.Withheld.{Withheld, whats}
use Rattle.held_output.proofs.Traces.{replies-all}
use Rattle.held_output.proofs.trace.Trace.all_replies.Goals as goal

pub returns : goal.returns
returns c =
    c.items.ensures
    ∙ replies-all c.self.inside.replies.items c.self.inside.ending
    ∙ ap (λ (w : Withheld Item). replies_in (whats w.items)) c.self.view_is
