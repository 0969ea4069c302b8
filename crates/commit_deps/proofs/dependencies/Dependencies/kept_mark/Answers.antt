-- The mark that stands at the carrier's place is the one that is kept.
use Rattle.std.proofs.Common.{rules, ◌≡◌, ◌∙◌, sym, ap, length, Some, None, get_or, arith}
use Rattle.std.specs.Vec.{vec_len}
use Rattle.commit_deps.specs.Kept.{Kept}
use Rattle.commit_deps.specs.Places.{place_at}
use Rattle.commit_deps.proofs.Placing.{place-within, mark-there, mark-nowhere}
use Rattle.commit_deps.proofs.dependencies.Dependencies.kept_mark.Goals as goal

pub returns-in_err-place : goal.returns-in_err-place
returns-in_err-place c =
    let nowhere : place_at c.args.carrier c.args.self.now.marks ≡ None = search rules in
    let answer : c.from_residual.result ≡ None = search rules in
    answer ∙ sym (mark-nowhere c.args.carrier c.args.self.now.marks nowhere)

pub index-requires : goal.index-requires
index-requires c =
    let at : place_at c.args.carrier c.args.self.now.marks ≡ Some c.in_ok-place.place = search rules in
    let within = place-within c.args.carrier c.args.self.now.marks c.in_ok-place.place at in
    let size : vec_len c.self.inside.marks ≡ length c.self.inside.marks.items = search rules in
    let same : length c.self.inside.marks.items ≡ length c.args.self.now.marks = ap (λ (k : Kept). length k.marks) c.self.view_is in
    omega (arith, within, size, same)

pub returns : goal.returns
returns c =
    let at : place_at c.args.carrier c.args.self.now.marks ≡ Some c.in_ok-place.place = search rules in
    sym (mark-there c.args.carrier c.args.self.now.marks c.in_ok-place.place c.index.result.now at
    (c.index.ensures ∙ ap (λ (k : Kept). get_or k.marks c.in_ok-place.place c.index.result.now) c.self.view_is))
