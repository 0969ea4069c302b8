-- One more write.
use Rattle.std.proofs.Common.{◌++◌, ◌∷◌, [], ◌+◌, List, ℕ, length, take, ap, ◌∙◌, arith}
use Rattle.std.proofs.lemmas.List.{length-drop}
use Rattle.disk_model.specs.declared.change.Change.{Change}
use Rattle.disk_model.specs.declared.change.Change.TheVariants.{Write}
use Rattle.disk_model.specs.Rebuild.{writes_from}
use Rattle.disk_model.proofs.Lists.{some_of}
use Rattle.journal.proofs.Checkpoints.{writes_more}
use Rattle.journal.proofs.rebuilding.push_writes.Goals as goal

pub loop-rest-preserved : goal.loop-rest-preserved
loop-rest-preserved c =
    let some = some_of c.is_empty.result (length c.loop-rest.rest.now) c.is_empty.ensures c.loop-rest-test.true in
    let i = c.loop-rest.invariant in
    let n = c.min.result in
    let m = c.min.ensures in
    let back = ap length c.split_at.ensures.back in
    let dropped = length-drop n c.loop-rest.rest.now in
    let within = i.inside some in
    record {
      text =
          ap (λ (cs : List Change). cs ++ writes_from (length c.split_at.result.1.now) 1024 c.args.file (c.loop-rest.offset + 1024) c.split_at.result.1.now)
          (c.in_ok-push.ensures.items ∙ ap (λ (l : List ℕ). c.loop-rest.changes.items ++ Write c.args.file c.loop-rest.offset l ∷ []) (c.in_ok-bytes.ensures ∙ c.split_at.ensures.front))
          ∙ ap (λ (l : List ℕ). c.loop-rest.changes.items ++ Write c.args.file c.loop-rest.offset (take n c.loop-rest.rest.now) ∷ [] ++ writes_from (length l) 1024 c.args.file (c.loop-rest.offset + 1024) l) c.split_at.ensures.back
          ∙ writes_more 1024 c.loop-rest.changes.items c.args.file c.loop-rest.offset n c.loop-rest.rest.now (c.args.changes.now.items ++ writes_from (length c.args.bytes.now) 1024 c.args.file 0 c.args.bytes.now) some (omega arith) m i.text;
      room = omega arith;
      inside = λ more. omega arith;
    }
