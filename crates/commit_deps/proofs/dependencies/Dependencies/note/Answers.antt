-- The carriers are noted one by one.
use Rattle.std.proofs.Common.{◌≡◌, ◌∷◌, [], ◌++◌, List, take, sym, ap, subst, ◌∙◌}
use Rattle.std.proofs.lemmas.List.{take_all}
use Rattle.kernel_model.specs.declared.carrier.Carrier.{Carrier}
use Rattle.commit_deps.specs.Kept.{Marked}
use Rattle.commit_deps.specs.Keeps.{Keeps, noted_all}
use Rattle.commit_deps.proofs.Keeping.{keeps-more, noting-room, noting-next}
use Rattle.commit_deps.proofs.dependencies.Dependencies.note.Goals as goal

pub note_one-requires : goal.note_one-requires
note_one-requires c =
    noting-room c.args.writes.now c.args.mark c.args.self.now c.loop-carrier.carrier-index c.loop-carrier.self _ c.loop-carrier-test.true c.loop-carrier.invariant

pub loop-carrier-preserved : goal.loop-carrier-preserved
loop-carrier-preserved c =
    noting-next c.args.writes.now c.args.mark c.args.self.now c.loop-carrier.carrier-index c.loop-carrier.self c.note_one.new.self _
    c.loop-carrier-test.true c.loop-carrier.invariant c.note_one.ensures.marks c.note_one.ensures.room

pub returns-clause-keeps : goal.returns-clause-keeps
returns-clause-keeps c log e keeps is_mark writes =
    let whole : take c.loop-carrier.carrier-index c.args.writes.now ≡ e.writes = take_all c.loop-carrier.carrier-index c.args.writes.now c.loop-carrier-test.false ∙ sym writes in
    let all : c.loop-carrier.self.marks ≡ noted_all e.writes c.args.mark c.args.self.now.marks =
    c.loop-carrier.invariant.noted ∙ ap (λ (xs : List Carrier). noted_all xs c.args.mark c.args.self.now.marks) whole in
    subst (λ (ks : List Marked). Keeps (log ++ e ∷ []) ks) (sym all) (keeps-more log c.args.self.now.marks e c.args.mark keeps is_mark)
