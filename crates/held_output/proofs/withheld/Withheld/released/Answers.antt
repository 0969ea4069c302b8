-- The first so many items are those that are released.
use Rattle.std.proofs.Common.{◌≡◌, length, take, sym, ap, ◌∙◌, arith}
use Rattle.held_output.specs.Withheld.{released}
use Rattle.held_output.proofs.Zipped.{released-with, prefix-within}
use Rattle.held_output.proofs.withheld.Withheld.released.Goals as goal
use Rattle.std.proofs.lemmas.List.{length-take-le}

pub slice_bounds-result-end : goal.slice_bounds-result-end
slice_bounds-result-end g c =
    let within = prefix-within c.self.inside.marks.committed c.self.inside.marks.marks in
    let there : length c.deref.result.now ≡ length c.self.inside.items.items = ap (λ xs. length xs) c.deref.ensures.value in
    sym (length-take-le c.count.result c.deref.result.now (omega (arith, within, c.self.invariant, there, c.count.ensures)))

pub returns : goal.returns
returns g c =
    ap (λ xs. take c.count.result xs) c.deref.ensures.value
    ∙ ap (λ n. take n c.self.inside.items.items) c.count.ensures
    ∙ released-with c.self.inside.marks.committed c.self.inside.items.items c.self.inside.marks.marks c.self.invariant
    ∙ ap released c.self.view_is
