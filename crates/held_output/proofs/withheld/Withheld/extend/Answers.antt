-- So many items more, each with the mark.
use Rattle.std.proofs.Common.{◌≡◌, ◌++◌, List, length, replicate, ap, ◌∙◌, rules}
use Rattle.held_output.specs.Withheld.{Withheld, Held, held_with, all_held}
use Rattle.held_output.proofs.Zipped.{append-with, all-with}
use Rattle.held_output.proofs.withheld.Withheld.extend.Goals as goal

pub returns-then-not-is_empty-clause-items : goal.returns-then-not-is_empty-clause-items
returns-then-not-is_empty-clause-items g c =
    let marked : c.append.new.self.marks ≡ c.self.inside.marks.marks ++ (replicate (length c.args.items.now) c.args.mark) = c.append.ensures.marks in
    let grown : c.extend_from_slice.new.self.items ≡ c.self.inside.items.items ++ c.args.items.now = search rules in
    ap (λ ms. held_with c.extend_from_slice.new.self.items ms) marked
    ∙ ap (λ xs. held_with xs (c.self.inside.marks.marks ++ (replicate (length c.args.items.now) c.args.mark))) grown
    ∙ append-with c.self.inside.items.items c.args.items.now c.self.inside.marks.marks (replicate (length c.args.items.now) c.args.mark) c.self.invariant
    ∙ ap (λ hs. held_with c.self.inside.items.items c.self.inside.marks.marks ++ hs) (all-with c.args.items.now c.args.mark)
    ∙ ap (λ (hs : List (Held _)). hs ++ all_held c.args.mark c.args.items.now) (ap (λ (w : Withheld _). w.items) c.self.view_is)
