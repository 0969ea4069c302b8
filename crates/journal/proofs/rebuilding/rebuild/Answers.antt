-- One more file.
use Rattle.std.proofs.Common.{◌++◌, ◌∷◌, [], ◌+◌, ◌≤◌, ◌<◌, List, ℕ, length, drop, get_or, subst, ap, sym, ◌∙◌, arith}
use Rattle.disk_model.specs.declared.change.Change.{Change}
use Rattle.disk_model.specs.declared.change.Change.TheVariants.{Create}
use Rattle.disk_model.specs.declared.change.NamedFile.{NamedFile}
use Rattle.disk_model.specs.Rebuild.{writes_from, rebuild, rebuild_from}
use Rattle.journal.proofs.Checkpoints.{file_end, file_first, file_more, short_at}
use Rattle.journal.proofs.rebuilding.rebuild.Goals as goal

none : NamedFile
none = record { name = []; bytes = [] }

pub loop-place-init : goal.loop-place-init
loop-place-init c = ap (λ (cs : List Change). cs ++ rebuild_from 0 (drop 0 c.args.files.now.living)) c.new-changes.ensures.items ∙ file_first c.args.files.now.living

pub push_writes-requires : goal.push_writes-requires
push_writes-requires c =
    subst (λ (l : List ℕ). length l ≤ 16384) (sym (c.bytes.ensures none)) (short_at c.args.files.now.living c.loop-place.place none c.requires.short (let e = c.count-place-end.ensures in let lt = c.loop-place-test.true in omega arith))

pub loop-place-preserved : goal.loop-place-preserved
loop-place-preserved c =
    let place = c.loop-place.place in
    let lt : place < length c.args.files.now.living = (let e = c.count-place-end.ensures in let t = c.loop-place-test.true in omega arith) in
    ap (λ (cs : List Change). cs ++ rebuild_from (place + 1) (drop (place + 1) c.args.files.now.living))
    (c.in_ok-push_writes.ensures
    ∙ ap (λ (cs : List Change). cs ++ writes_from (length c.bytes.result.now) 1024 place 0 c.bytes.result.now) c.in_ok-push.ensures.items
    ∙ ap (λ (l : List ℕ). c.loop-place.changes.items ++ Create l ∷ [] ++ writes_from (length c.bytes.result.now) 1024 place 0 c.bytes.result.now) (c.in_ok-name.ensures ∙ c.name.ensures none)
    ∙ ap (λ (l : List ℕ). c.loop-place.changes.items ++ Create (get_or c.args.files.now.living place none).name ∷ [] ++ writes_from (length l) 1024 place 0 l) (c.bytes.ensures none))
    ∙ file_more c.loop-place.changes.items c.args.files.now.living place none (rebuild c.args.files.now.living) lt c.loop-place.invariant

pub returns : goal.returns
returns c =
    file_end c.loop-place.changes.items c.args.files.now.living c.loop-place.place (rebuild c.args.files.now.living) (let e = c.count-place-end.ensures in let t = c.loop-place-test.false in omega arith) c.loop-place.invariant
