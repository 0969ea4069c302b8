-- The greatest mark of the first carrier, of the others, and of the event's own change.
use Rattle.std.proofs.Common.{◌≡◌, ◌∷◌, [], ℕ, sym, ap, subst, ◌∙◌}
use Rattle.commit_deps.specs.Marks.{IsMarkOf}
use Rattle.commit_deps.specs.Keeps.{mark_of_change, greatest_mark}
use Rattle.commit_deps.proofs.Keeping.{mark-says}
use Rattle.commit_deps.proofs.dependencies.Dependencies.mark_with.Goals as goal

pub returns : goal.returns
returns c log e keeps reads makes =
    let marks = c.args.self.now.marks in
    let first : c.greatest-mark.result ≡ greatest_mark (mark_of_change c.args.change) (c.args.first ∷ []) marks =
    c.greatest-mark.ensures ∙ ap (λ (m : ℕ). greatest_mark m (c.args.first ∷ []) marks) c.own_mark.ensures in
    let value : c.greatest.result ≡ greatest_mark (mark_of_change c.args.change) (c.args.first ∷ c.args.reads.now) marks =
    c.greatest.ensures ∙ ap (λ (m : ℕ). greatest_mark m c.args.reads.now marks) first in
    subst (λ (m : ℕ). IsMarkOf m log e) (sym value) (mark-says log marks e (c.args.first ∷ c.args.reads.now) c.args.change keeps reads makes)
