-- The count of released items says whether one is held back.
use Rattle.std.proofs.Common.{◌≡◌, length, nat_lt, sym, ap, ◌∙◌, rules}
use Rattle.held_output.specs.Withheld.{Withheld, released, holds_back, held_with}
use Rattle.held_output.proofs.Zipped.{length-with, length-released}
use Rattle.held_output.proofs.withheld.Withheld.holds_back.Goals as goal

pub returns : goal.returns
returns g c =
    let items : c.self.inside.items.len ≡ length c.self.inside.items.items = search rules in
    ap (λ n. nat_lt n c.len.result)
    (c.count.ensures ∙ sym (length-released c.self.inside.marks.committed c.self.inside.items.items c.self.inside.marks.marks c.self.invariant))
    ∙ ap (λ n. nat_lt (length (released (record { items = held_with c.self.inside.items.items c.self.inside.marks.marks; committed = c.self.inside.marks.committed; room = 0 }))) n)
    (c.len.ensures ∙ items ∙ sym (length-with c.self.inside.items.items c.self.inside.marks.marks c.self.invariant))
    ∙ ap (λ (w : Withheld _). holds_back w) c.self.view_is
