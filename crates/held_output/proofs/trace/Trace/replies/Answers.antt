-- The replies that are released.
use Rattle.std.proofs.Common.{ap, ◌∙◌}
use Rattle.kernel_model.specs.Entries.{Item}
use Rattle.kernel_model.specs.Shown.{replies_in}
use Rattle.held_output.specs.Withheld.{Withheld, released}
use Rattle.held_output.proofs.Traces.{replies-released}
use Rattle.held_output.proofs.trace.Trace.replies.Goals as goal

pub returns : goal.returns
returns c =
    c.released.ensures
    ∙ replies-released c.self.inside.replies.committed c.self.inside.replies.items c.self.inside.ending
    ∙ ap (λ (w : Withheld Item). replies_in (released w)) c.self.view_is
