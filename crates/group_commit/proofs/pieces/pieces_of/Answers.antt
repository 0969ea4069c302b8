-- The first pieces, and one more.
use Rattle.std.proofs.Common.{◌++◌, ◌∷◌, [], ◌+◌, List, ℕ, length, take, ap, ◌∙◌, arith}
use Rattle.std.proofs.lemmas.List.{length-drop}
use Rattle.disk_model.specs.declared.change.Piece.{Piece}
use Rattle.disk_model.specs.Storage.{pieces, pieces_from}
use Rattle.disk_model.proofs.Lists.{some_of}
use Rattle.group_commit.proofs.Parts.{part, pieces_first, pieces_more}
use Rattle.group_commit.proofs.pieces.pieces_of.Goals as goal

pub loop-rest-init : goal.loop-rest-init
loop-rest-init c = record {
  text = ap (λ (ps : List Piece). ps ++ pieces_from (length c.args.bytes.now) 4096 c.args.at c.args.bytes.now) c.new-pieces.ensures.items ∙ pieces_first c.args.at c.args.bytes.now;
  room = (let r = c.requires in omega arith);
  inside = λ some. c.requires;
}

pub loop-rest-preserved : goal.loop-rest-preserved
loop-rest-preserved c =
    let some = some_of c.is_empty.result (length c.loop-rest.rest.now) c.is_empty.ensures c.loop-rest-test.true in
    let i = c.loop-rest.invariant in
    let n = c.min.result in
    let m = c.min.ensures in
    let back = ap length c.split_at.ensures.back in
    let dropped = length-drop n c.loop-rest.rest.now in
    let within = i.inside some in
    record {
      text =
          ap (λ (ps : List Piece). ps ++ pieces_from (length c.split_at.result.1.now) 4096 (c.loop-rest.from + 4096) c.split_at.result.1.now)
          (c.in_ok-push.ensures.items ∙ ap (λ (l : List ℕ). c.loop-rest.pieces.items ++ part c.loop-rest.from l ∷ []) (c.in_ok-bytes.ensures ∙ c.split_at.ensures.front))
          ∙ ap (λ (l : List ℕ). c.loop-rest.pieces.items ++ part c.loop-rest.from (take n c.loop-rest.rest.now) ∷ [] ++ pieces_from (length l) 4096 (c.loop-rest.from + 4096) l) c.split_at.ensures.back
          ∙ pieces_more 4096 c.loop-rest.pieces.items c.loop-rest.from n c.loop-rest.rest.now (pieces c.args.at c.args.bytes.now) some (omega arith) m i.text;
      room = omega arith;
      inside = λ more. omega arith;
    }
