-- One more stage is copied.
use Rattle.std.proofs.Common.{◌≡◌, ℕ, ◌<◌, ◌++◌, ◌∷◌, [], List, length, take, sym, ap, ◌∙◌, arith}
use Rattle.std.specs.Global.{Vec}
use Rattle.std.proofs.lemmas.List.{take_more}
use Rattle.std.proofs.Math.Seq.{take-length}
use Rattle.disk_model.specs.declared.change.Piece.{Piece}
use Rattle.group_commit.specs.Stages.{items_of}
use Rattle.group_commit.proofs.StageCopies.{items-append, items-length, items-get}
use Rattle.group_commit.proofs.copying.stages_of.Goals as goal

pub loop-stage-preserved : goal.loop-stage-preserved
loop-stage-preserved c =
    let stages : List (List Piece) = items_of c.args.stages.now in
    let i : ℕ = c.loop-stage.stage-index in
    let below : i < length stages = omega (arith, c.loop-stage-test.true, items-length c.args.stages.now) in
    ap items_of c.in_ok-push.ensures.items ∙ items-append _ _
    ∙ (λ t. c.loop-stage.invariant t ++ (c.in_ok-copies_of.ensures ∙ c.deref.ensures.value) t ∷ [])
    ∙ ap (λ (ps : List Piece). take i stages ++ ps ∷ []) (ap (λ (v : Vec Piece). v.items) c.stage-item.is ∙ sym (items-get c.args.stages.now i c.stage-item.result))
    ∙ sym (take_more stages i c.stage-item.result.items below)

pub returns : goal.returns
returns c =
    let stages : List (List Piece) = items_of c.args.stages.now in
    let all : c.loop-stage.stage-index ≡ length stages = omega (arith, c.loop-stage-test.false, c.loop-stage.auto.stage-index-end, items-length c.args.stages.now) in
    c.loop-stage.invariant ∙ ap (λ (n : ℕ). take n stages) all ∙ take-length stages
