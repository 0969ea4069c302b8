-- What was lent is noted, the first of it and then the further ones.
use Rattle.std.proofs.Common.{refl, inr}
use Rattle.bursts.specs.LoanIds.{id_of_loan}
use Rattle.pool.proofs.Lends.{notes_nothing, notes_then, gives_one, gives_none, gives_err, lent_first, pick_none, refusal}
use Rattle.pool.proofs.fetching.lend_some.Goals as goal

pub returns-then-is_stopped-clause-bench : goal.returns-then-is_stopped-clause-bench
returns-then-is_stopped-clause-bench g c = notes_nothing _ _ _

pub returns-in-Ok-None-clause-bench : goal.returns-in-Ok-None-clause-bench
returns-in-Ok-None-clause-bench g c = (gives_none c.args.bench.now c.lend_ticketed.new.self c.args.quantum c.args.share.now c.lend_ticketed.new.share c.lend_ticketed.result c.in-Ok-None.field-0 c.in-Ok-None.is c.in-Ok-None.field-0-is c.lend_ticketed.ensures.lends c.lend_ticketed.ensures.share c.lend_ticketed.ensures.stopped).0

pub returns-in-Ok-None-clause-lent : goal.returns-in-Ok-None-clause-lent
returns-in-Ok-None-clause-lent g c = (refl, refl, (gives_none c.args.bench.now c.lend_ticketed.new.self c.args.quantum c.args.share.now c.lend_ticketed.new.share c.lend_ticketed.result c.in-Ok-None.field-0 c.in-Ok-None.is c.in-Ok-None.field-0-is c.lend_ticketed.ensures.lends c.lend_ticketed.ensures.share c.lend_ticketed.ensures.stopped).1)

pub returns-in-Ok-None-clause-none : goal.returns-in-Ok-None-clause-none
returns-in-Ok-None-clause-none g c none = inr (pick_none c.args.bench.now.core c.lend_ticketed.new.self.core c.args.quantum c.lend_ticketed.result c.in-Ok-None.field-0 c.in-Ok-None.is c.in-Ok-None.field-0-is c.lend_ticketed.ensures.lends)

pub returns-in-Err-clause-bench : goal.returns-in-Err-clause-bench
returns-in-Err-clause-bench g c = (gives_err c.args.bench.now c.lend_ticketed.new.self c.args.quantum c.args.share.now c.lend_ticketed.new.share c.lend_ticketed.result c.in-Err.why c.in-Err.is c.lend_ticketed.ensures.lends c.lend_ticketed.ensures.share c.lend_ticketed.ensures.stopped).0

pub returns-in-Err-clause-lent : goal.returns-in-Err-clause-lent
returns-in-Err-clause-lent g c = (refl, refl, (gives_err c.args.bench.now c.lend_ticketed.new.self c.args.quantum c.args.share.now c.lend_ticketed.new.share c.lend_ticketed.result c.in-Err.why c.in-Err.is c.lend_ticketed.ensures.lends c.lend_ticketed.ensures.share c.lend_ticketed.ensures.stopped).1)

pub returns-in-Err-clause-refused : goal.returns-in-Err-clause-refused
returns-in-Err-clause-refused g c = refusal c.args.bench.now.core c.lend_ticketed.new.self.core c.args.quantum c.lend_ticketed.result c.in-Err.why c.in-Err.is c.lend_ticketed.ensures.lends

pub returns-clause-bench : goal.returns-clause-bench
returns-clause-bench g c =
    let s = gives_one c.args.bench.now c.lend_ticketed.new.self c.args.quantum c.args.share.now c.lend_ticketed.new.share c.lend_ticketed.result c.in-Ok-Some.field-0 c.in-Ok-Some.first c.in-Ok-Some.is c.in-Ok-Some.field-0-is c.lend_ticketed.ensures.lends c.lend_ticketed.ensures.share c.lend_ticketed.ensures.stopped in
    notes_then c.args.bench.now c.lend_ticketed.new.self c.lend_more.new.bench c.args.quantum c.args.share.now c.lend_ticketed.new.share c.lend_more.new.share s.0 c.lend_more.ensures.bench

pub returns-clause-lent : goal.returns-clause-lent
returns-clause-lent g c =
    let s = gives_one c.args.bench.now c.lend_ticketed.new.self c.args.quantum c.args.share.now c.lend_ticketed.new.share c.lend_ticketed.result c.in-Ok-Some.field-0 c.in-Ok-Some.first c.in-Ok-Some.is c.in-Ok-Some.field-0-is c.lend_ticketed.ensures.lends c.lend_ticketed.ensures.share c.lend_ticketed.ensures.stopped in
    lent_first c.args.quantum c.args.own.now c.lend_more.new.own c.args.share.now c.lend_ticketed.new.share c.lend_more.new.share _ (id_of_loan c.in-Ok-Some.first) s.1 s.2 c.lend_more.ensures.lent
