-- What was lent is noted, and kept or handed back.
use Rattle.std.proofs.Common.{ℕ, ◌<◌, ◌≤◌, refl, arith}
use Rattle.pool.proofs.Lends.{notes_nothing, notes_then, gives_one, gives_none, gives_err, kept_none, kept_more, kept_at_last, kept_back}
use Rattle.pool.proofs.fetching.lend_more.Goals as goal

not_more : (n : ℕ) → n < 7 → n ≤ 7
not_more n below = omega arith

pub loop-init : goal.loop-init
loop-init g c = (notes_nothing _ _ _, kept_none _ _ _)

pub loop-preserved : goal.loop-preserved
loop-preserved g c =
    let s = gives_one c.loop.bench c.lend_ticketed.new.self c.args.quantum c.loop.share c.lend_ticketed.new.share c.lend_ticketed.result c.in-Ok-Some.field-0 c.in-Ok-Some.loan c.in-Ok-Some.is c.in-Ok-Some.field-0-is c.lend_ticketed.ensures.lends c.lend_ticketed.ensures.share c.lend_ticketed.ensures.stopped in (
      notes_then c.args.bench.now c.loop.bench c.lend_ticketed.new.self c.args.quantum c.args.share.now c.loop.share c.lend_ticketed.new.share c.loop.invariant.0 s.0,
      kept_more c.args.quantum c.args.own.now c.loop.own c.keep.new.self c.args.share.now c.loop.share c.lend_ticketed.new.share c.loop.counter _ c.loop.invariant.1 s.1 c.in_default.ensures s.2,
    )

pub returns-in-Err-keep-clause-bench : goal.returns-in-Err-keep-clause-bench
returns-in-Err-keep-clause-bench g c =
    let s = gives_one c.loop.bench c.lend_ticketed.new.self c.args.quantum c.loop.share c.lend_ticketed.new.share c.lend_ticketed.result c.in-Ok-Some.field-0 c.in-Ok-Some.loan c.in-Ok-Some.is c.in-Ok-Some.field-0-is c.lend_ticketed.ensures.lends c.lend_ticketed.ensures.share c.lend_ticketed.ensures.stopped in
    notes_then c.args.bench.now c.loop.bench c.lend_ticketed.new.self c.args.quantum c.args.share.now c.loop.share c.lend_ticketed.new.share c.loop.invariant.0 s.0

pub returns-in-Err-keep-clause-lent : goal.returns-in-Err-keep-clause-lent
returns-in-Err-keep-clause-lent g c =
    let s = gives_one c.loop.bench c.lend_ticketed.new.self c.args.quantum c.loop.share c.lend_ticketed.new.share c.lend_ticketed.result c.in-Ok-Some.field-0 c.in-Ok-Some.loan c.in-Ok-Some.is c.in-Ok-Some.field-0-is c.lend_ticketed.ensures.lends c.lend_ticketed.ensures.share c.lend_ticketed.ensures.stopped in
    kept_back c.args.quantum c.args.own.now c.loop.own c.keep.new.self c.args.share.now c.loop.share c.lend_ticketed.new.share c.loop.counter c.in-Ok-Some.loan c.in-Err-keep.back c.loop.invariant.1 c.loop-test.true c.in-Err-keep.ensures.0 s.1 c.in-Err-keep.ensures.1 s.2

pub returns-in-Ok-None-clause-bench : goal.returns-in-Ok-None-clause-bench
returns-in-Ok-None-clause-bench g c =
    let s = gives_none c.loop.bench c.lend_ticketed.new.self c.args.quantum c.loop.share c.lend_ticketed.new.share c.lend_ticketed.result c.in-Ok-None.field-0 c.in-Ok-None.is c.in-Ok-None.field-0-is c.lend_ticketed.ensures.lends c.lend_ticketed.ensures.share c.lend_ticketed.ensures.stopped in
    notes_then c.args.bench.now c.loop.bench c.lend_ticketed.new.self c.args.quantum c.args.share.now c.loop.share c.lend_ticketed.new.share c.loop.invariant.0 s.0

pub returns-in-Ok-None-clause-lent : goal.returns-in-Ok-None-clause-lent
returns-in-Ok-None-clause-lent g c =
    let s = gives_none c.loop.bench c.lend_ticketed.new.self c.args.quantum c.loop.share c.lend_ticketed.new.share c.lend_ticketed.result c.in-Ok-None.field-0 c.in-Ok-None.is c.in-Ok-None.field-0-is c.lend_ticketed.ensures.lends c.lend_ticketed.ensures.share c.lend_ticketed.ensures.stopped in
    kept_at_last c.args.quantum c.args.own.now c.loop.own c.loop.own c.args.share.now c.loop.share c.lend_ticketed.new.share c.loop.counter c.loop.invariant.1 (not_more _ c.loop-test.true) refl s.1

pub returns-in-Err-clause-bench : goal.returns-in-Err-clause-bench
returns-in-Err-clause-bench g c =
    let s = gives_err c.loop.bench c.lend_ticketed.new.self c.args.quantum c.loop.share c.lend_ticketed.new.share c.lend_ticketed.result c.in-Err.field-0 c.in-Err.is c.lend_ticketed.ensures.lends c.lend_ticketed.ensures.share c.lend_ticketed.ensures.stopped in
    notes_then c.args.bench.now c.loop.bench c.lend_ticketed.new.self c.args.quantum c.args.share.now c.loop.share c.lend_ticketed.new.share c.loop.invariant.0 s.0

pub returns-in-Err-clause-lent : goal.returns-in-Err-clause-lent
returns-in-Err-clause-lent g c =
    let s = gives_err c.loop.bench c.lend_ticketed.new.self c.args.quantum c.loop.share c.lend_ticketed.new.share c.lend_ticketed.result c.in-Err.field-0 c.in-Err.is c.lend_ticketed.ensures.lends c.lend_ticketed.ensures.share c.lend_ticketed.ensures.stopped in
    kept_at_last c.args.quantum c.args.own.now c.loop.own c.loop.own c.args.share.now c.loop.share c.lend_ticketed.new.share c.loop.counter c.loop.invariant.1 (not_more _ c.loop-test.true) refl s.1

pub returns-clause-bench : goal.returns-clause-bench
returns-clause-bench g c = c.loop.invariant.0

pub returns-clause-lent : goal.returns-clause-lent
returns-clause-lent g c = kept_at_last c.args.quantum c.args.own.now c.loop.own c.loop.own c.args.share.now c.loop.share c.loop.share c.loop.counter c.loop.invariant.1 c.loop.auto.counter-end refl refl
