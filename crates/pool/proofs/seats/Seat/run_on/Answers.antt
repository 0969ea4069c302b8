-- It went on once more, or ended.
use Rattle.std.proofs.Common.{◌∙◌, Ok, Err, Option, None, Some, option_map, ap, subst, arith}
use Rattle.bursts.specs.LoanIds.{id_of_loan, id_of_result}
use Rattle.kernel_step.specs.declared.loan.Loan.{Loan}
use Rattle.pool.specs.GoingOn.{GoesOnce, with_share}
use Rattle.pool.proofs.GoingOn.{once_more, ends}
use Rattle.pool.proofs.seats.Seat.run_on.Goals as goal

pub loop-preserved : goal.loop-preserved
loop-preserved g c =
    let done = id_of_result c.run_held.result in
    let later = c.go_on_soon.new.self in
    let next = id_of_loan c.in-Ok-Some.next in
    let step : GoesOnce c.loop.self.share done later.share (Some next) =
    subst (λ (o : Option Loan). GoesOnce c.loop.self.share done later.share (option_map id_of_loan o)) c.in-Ok-Some.field-0-is c.in-Ok-Some.ensures.share in (
      once_more g.G.Gate.holds c.loop.counter c.args.self.now.share (id_of_loan c.args.loan) c.args.gate.now c.loop.self.share (id_of_loan c.loop.loan) done c.loop.gate c.run_held.new.gate later.share next
          c.loop.invariant.0 c.run_held.ensures.gate c.run_held.ensures.done step,
      c.go_on_soon.ensures.rest ∙ ap (λ s. with_share s later.share) c.loop.invariant.1,
    )

pub returns-in-Ok-None-clause-runs : goal.returns-in-Ok-None-clause-runs
returns-in-Ok-None-clause-runs g c =
    let done = id_of_result c.run_held.result in
    let later = c.go_on_soon.new.self in
    let last : GoesOnce c.loop.self.share done later.share None =
    subst (λ (o : Option Loan). GoesOnce c.loop.self.share done later.share (option_map id_of_loan o)) c.in-Ok-None.field-0-is c.in-Ok-None.ensures.share in
    ends {T = Unit {0}} g.G.Gate.holds c.loop.counter c.args.self.now.share (id_of_loan c.args.loan) c.args.gate.now c.loop.self.share (id_of_loan c.loop.loan) done c.loop.gate c.run_held.new.gate later.share (Ok tt)
    (omega (arith, c.loop-test.true)) c.loop.invariant.0 c.run_held.ensures.gate c.run_held.ensures.done last

pub returns-in-Err-clause-runs : goal.returns-in-Err-clause-runs
returns-in-Err-clause-runs g c =
    ends {T = Unit {0}} g.G.Gate.holds c.loop.counter c.args.self.now.share (id_of_loan c.args.loan) c.args.gate.now c.loop.self.share (id_of_loan c.loop.loan) (id_of_result c.run_held.result) c.loop.gate
    c.run_held.new.gate c.go_on_soon.new.self.share (Err c.in-Err.rejected) (omega (arith, c.loop-test.true)) c.loop.invariant.0 c.run_held.ensures.gate c.run_held.ensures.done c.in-Err.ensures.share

pub returns-clause-runs : goal.returns-clause-runs
returns-clause-runs g c =
    ends g.G.Gate.holds c.loop.counter c.args.self.now.share (id_of_loan c.args.loan) c.args.gate.now c.loop.self.share (id_of_loan c.loop.loan) (id_of_result c.run_held-2.result) c.loop.gate
    c.run_held-2.new.gate c.settle_soon.new.self.share _ (omega (arith, c.loop.auto.counter-end)) c.loop.invariant.0 c.run_held-2.ensures.gate c.run_held-2.ensures.done c.settle_soon.ensures.share
