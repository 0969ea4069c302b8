use Rattle.std.proofs.Common.{◌≡◌, length, ◌-◌, arith, ap, ◌∙◌}
use Rattle.std.proofs.lemmas.Result.{err_from_is_err_and}
use Rattle.std.specs.Prelude.{ℕ}
use Rattle.journal.specs.Reading.{changes_at}
use Rattle.disk_model.proofs.Lists.{some_of}
use Rattle.journal.proofs.Loop.{goes_on, ends, is_done, is_past, is_none, with_prefix}
use Rattle.journal.proofs.reading.read_changes.Goals as goal

pub returns-then-is_empty : goal.returns-then-is_empty
returns-then-is_empty c =
    is_done c.loop.changes.items (length c.args.bytes.now - c.loop.counter) c.loop.rest.now (changes_at (length c.args.bytes.now) c.args.bytes.now) (is_none c.is_empty.result _ c.is_empty.ensures c.if-is_empty.true) c.loop.invariant

pub returns-in_err-change : goal.returns-in_err-change
returns-in_err-change c =
    let p = err_from_is_err_and c.from_residual.result c.from_residual.ensures.1 in
    rw (p.1, p.2) (ends c.in_err-change.field-0.0 c.loop.changes.items (length c.args.bytes.now) c.loop.counter c.loop.rest.now (changes_at (length c.args.bytes.now) c.args.bytes.now) c.loop-test.true
    (some_of c.is_empty.result _ c.is_empty.ensures c.if-is_empty.false) c.in_err-change.ensures c.loop.invariant)

pub loop-preserved : goal.loop-preserved
loop-preserved c =
    rw c.in_ok-push.ensures.items (goes_on c.loop.changes.items (length c.args.bytes.now) c.loop.counter c.loop.rest.now c.in_ok-change.change c.in_ok-change.after.now (changes_at (length c.args.bytes.now) c.args.bytes.now) c.loop-test.true
    (some_of c.is_empty.result _ c.is_empty.ensures c.if-is_empty.false) c.in_ok-change.ensures c.loop.invariant)

pub returns-then-is_empty-2 : goal.returns-then-is_empty-2
returns-then-is_empty-2 c =
    is_done c.loop.changes.items (length c.args.bytes.now - c.loop.counter) c.loop.rest.now (changes_at (length c.args.bytes.now) c.args.bytes.now) (is_none c.is_empty-2.result _ c.is_empty-2.ensures c.if-is_empty-2.true) c.loop.invariant

pub returns-else-is_empty-2 : goal.returns-else-is_empty-2
returns-else-is_empty-2 c =
    let le = c.loop-test.false in
    is_past c.loop.changes.items c.loop.rest.now (changes_at (length c.args.bytes.now) c.args.bytes.now) (some_of c.is_empty-2.result _ c.is_empty-2.ensures c.if-is_empty-2.false)
    (ap (λ (k : ℕ). with_prefix c.loop.changes.items (changes_at k c.loop.rest.now)) (let z : 0 ≡ length c.args.bytes.now - c.loop.counter = omega arith in z) ∙ c.loop.invariant)
