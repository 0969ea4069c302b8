-- A result with a ticket is of a known loan, and what was known stays known.
use Rattle.std.proofs.Common.{sym, subst}
use Rattle.kernel_step.specs.Known.{IsKnownLoan}
use Rattle.kernel_step.specs.declared.loan.Done.{Done}
use Rattle.bursts.proofs.Tickets.{known_stay, known_by}
use Rattle.bursts.proofs.ticketed.settle_by_ticket.Goals as goal

pub settle_known-requires : goal.settle_known-requires
settle_known-requires g c =
    let d = c.args.done in
    subst (λ (x : Done). IsKnownLoan c.args.core.now x.pid x.number x.began.value) (sym c.into_parts-done.ensures.done)
    (known_by c.args.core.now c.args.loans.now c.into_parts-done.result.1 d.pid d.number d.began.value c.into_parts-done.ensures.ticket (c.is_noted.ensures c.if-is_noted.true) c.requires)

pub returns-then-is_noted-clause-known : goal.returns-then-is_noted-clause-known
returns-then-is_noted-clause-known g c =
    known_stay c.args.core.now c.settle_known.new.self
    (c.known_loans_stay.ensures.settles c.args.core.now c.settle_known.new.self c.into_parts-done.result.0 c.settle_known.result c.settle_known.ensures) c.args.loans.now c.requires

pub returns-clause-known : goal.returns-clause-known
returns-clause-known g c =
    known_stay c.args.core.now c.settle.new.self
    (c.known_loans_stay.ensures.settles c.args.core.now c.settle.new.self c.into_parts-done.result.0 c.settle.result c.settle.ensures) c.args.loans.now c.requires
