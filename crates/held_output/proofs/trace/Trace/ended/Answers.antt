-- The end is handed out where all replies are, and its own mark is committed.
use Rattle.std.proofs.Common.{Option, Bool, sym, ap, ◌∙◌}
use Rattle.kernel_model.specs.Entries.{Item}
use Rattle.kernel_model.specs.Shown.{end_in}
use Rattle.held_output.specs.Withheld.{Withheld, released}
use Rattle.held_output.specs.Traces.{told_items}
use Rattle.held_output.specs.declared.trace.Ending.{Ending}
use Rattle.held_output.proofs.Traces.{none-released, end-released, status_if}
use Rattle.held_output.proofs.trace.Trace.ended.Goals as goal

pub returns-in_default : goal.returns-in_default
returns-in_default c =
    none-released c.self.inside.replies.committed c.self.inside.replies.items
    ∙ ap (λ (o : Option Ending). end_in (released (told_items c.self.inside.replies o))) (sym c.in_default.is)
    ∙ ap (λ (w : Withheld Item). end_in (released w)) c.self.view_is

pub returns-then-is_handed_out : goal.returns-then-is_handed_out
returns-then-is_handed_out c =
    ap (λ (b : Bool). status_if b c.in-Some.ending) (sym c.if-is_handed_out.true ∙ c.is_handed_out.ensures)
    ∙ end-released c.self.inside.replies.committed c.self.inside.replies.items c.in-Some.ending
    ∙ ap (λ (o : Option Ending). end_in (released (told_items c.self.inside.replies o))) (sym c.in-Some.is)
    ∙ ap (λ (w : Withheld Item). end_in (released w)) c.self.view_is

pub returns-else-is_handed_out : goal.returns-else-is_handed_out
returns-else-is_handed_out c =
    ap (λ (b : Bool). status_if b c.in-Some.ending) (sym c.if-is_handed_out.false ∙ c.is_handed_out.ensures)
    ∙ end-released c.self.inside.replies.committed c.self.inside.replies.items c.in-Some.ending
    ∙ ap (λ (o : Option Ending). end_in (released (told_items c.self.inside.replies o))) (sym c.in-Some.is)
    ∙ ap (λ (w : Withheld Item). end_in (released w)) c.self.view_is
