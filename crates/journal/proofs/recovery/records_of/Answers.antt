use Rattle.std.proofs.Common.{◌-◌, length, [], arith, sym}
use Rattle.std.proofs.lemmas.Result.{err_from_is_err_and}
use Rattle.journal.specs.Reading.{records_at}
use Rattle.journal.proofs.Gates.{goes_on, ends, is_shut, is_past, still_shut}
use Rattle.journal.proofs.recovery.records_of.Goals as goal

pub returns-in_default-clause-exact : goal.returns-in_default-clause-exact
returns-in_default-clause-exact c =
    is_shut (length c.args.half.now - c.loop.counter) c.loop.files c.loop.rest.now (records_at (length c.args.half.now) [] c.args.half.now) (sym c.in_default.ensures) c.loop.invariant.0

pub returns-in_err-rest-clause-exact : goal.returns-in_err-rest-clause-exact
returns-in_err-rest-clause-exact c =
    let p = err_from_is_err_and c.from_residual.result c.from_residual.ensures.1 in
    rw (p.1, p.2) (ends c.in_err-rest.field-0.0 (length c.args.half.now) c.loop.counter c.loop.files c.loop.rest.now c.in-Some.bytes.now (records_at (length c.args.half.now) [] c.args.half.now) c.loop-test.true
    (sym c.in-Some.ensures) c.in_err-rest.ensures c.loop.invariant.0)

pub returns-in_err-rest-clause-closed : goal.returns-in_err-rest-clause-closed
returns-in_err-rest-clause-closed c none =
    absurd (still_shut c.args.half.now c.loop.rest.now c.in-Some.bytes.now c.loop.invariant.1 (sym c.in-Some.ensures) none)

pub loop-preserved : goal.loop-preserved
loop-preserved c = (
  goes_on (length c.args.half.now) c.loop.counter c.loop.files c.record_of.new.files c.loop.rest.now c.in-Some.bytes.now c.in_ok-rest.rest.now (records_at (length c.args.half.now) [] c.args.half.now) c.loop-test.true
      (sym c.in-Some.ensures) c.in_ok-rest.ensures c.loop.invariant.0,
  λ none. absurd (still_shut c.args.half.now c.loop.rest.now c.in-Some.bytes.now c.loop.invariant.1 (sym c.in-Some.ensures) none),
)

pub returns-clause-exact : goal.returns-clause-exact
returns-clause-exact c =
    is_past (length c.args.half.now - c.loop.counter) c.loop.files c.loop.rest.now (records_at (length c.args.half.now) [] c.args.half.now) (let le = c.loop-test.false in omega arith) c.loop.invariant.0
