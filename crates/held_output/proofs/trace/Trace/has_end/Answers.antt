-- The end is the last item.
use Rattle.std.proofs.Common.{is_some, sym, ap, ◌∙◌}
use Rattle.kernel_model.specs.Entries.{Item}
use Rattle.kernel_model.specs.Shown.{end_in}
use Rattle.held_output.specs.Withheld.{Withheld, whats}
use Rattle.held_output.proofs.Traces.{end-in}
use Rattle.held_output.proofs.trace.Trace.has_end.Goals as goal

pub returns : goal.returns
returns c =
    c.is_some.ensures ∙ sym (end-in c.self.inside.replies.items c.self.inside.ending)
    ∙ ap (λ (w : Withheld Item). is_some (end_in (whats w.items))) c.self.view_is
