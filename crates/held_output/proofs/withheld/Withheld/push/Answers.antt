-- One item more, with its mark.
use Rattle.std.proofs.Common.{◌≡◌, ◌++◌, ◌∷◌, [], List, ap, ◌∙◌, rules}
use Rattle.held_output.specs.Withheld.{Withheld, Held, held_with, all_held}
use Rattle.held_output.proofs.Zipped.{append-with}
use Rattle.held_output.proofs.withheld.Withheld.push.Goals as goal

pub returns-clause-items : goal.returns-clause-items
returns-clause-items g c =
    let marked : c.append.new.self.marks ≡ c.self.inside.marks.marks ++ (c.args.mark ∷ []) = c.append.ensures.marks in
    let grown : c.push.new.self.items ≡ c.self.inside.items.items ++ (c.args.item ∷ []) = search rules in
    ap (λ ms. held_with c.push.new.self.items ms) marked
    ∙ ap (λ xs. held_with xs (c.self.inside.marks.marks ++ (c.args.mark ∷ []))) grown
    ∙ append-with c.self.inside.items.items (c.args.item ∷ []) c.self.inside.marks.marks (c.args.mark ∷ []) c.self.invariant
    ∙ ap (λ (hs : List (Held _)). hs ++ all_held c.args.mark (c.args.item ∷ [])) (ap (λ (w : Withheld _). w.items) c.self.view_is)
