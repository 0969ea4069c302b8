-- The same items with the same marks.
use Rattle.std.proofs.Common.{◌≡◌, ap, ◌∙◌, rules}
use Rattle.held_output.specs.Withheld.{Withheld, held_with}
use Rattle.held_output.proofs.withheld.Withheld.try_clone.Goals as goal

pub returns-clause-items : goal.returns-clause-items
returns-clause-items g c =
    let items : c.extend_from_slice.new.self.items ≡ c.self.inside.items.items = search rules in
    ap (λ xs. held_with xs c.in_ok-try_clone.field-0.marks) items
    ∙ ap (λ ms. held_with c.self.inside.items.items ms) c.in_ok-try_clone.ensures.marks
    ∙ ap (λ (w : Withheld _). w.items) c.self.view_is
