-- All that stands there, without the marks.
use Rattle.std.proofs.Common.{sym, ◌∙◌}
use Rattle.held_output.proofs.Zipped.{whats-with, whats-same}
use Rattle.held_output.proofs.withheld.Withheld.items.Goals as goal

pub returns : goal.returns
returns g c =
    c.deref.ensures.value ∙ sym (whats-with c.self.inside.items.items c.self.inside.marks.marks c.self.invariant) ∙ whats-same _ _ c.self.view_is
