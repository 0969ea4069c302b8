use Rattle.std.proofs.Common.{ap, sym, subst}
use Rattle.bursts.specs.Totals.{plus, Fit}
use Rattle.bursts.specs.declared.totals.Totals.{Totals}
use Rattle.pool.specs.Settled.{totals_in}
use Rattle.pool.proofs.Advance.{few_later, fits_both, advances_settled, settled_after}
use Rattle.pool.proofs.seats.Seat.settle_more.Goals as goal

pub then-requires-clause-settled : goal.then-requires-clause-settled
then-requires-clause-settled g c = (c.requires.settled, few_later c.in-Ok.later c.settle_all-settling.result c.in-Ok.ensures.ok c.settle_all-settling.ensures.settled.events)

pub then-requires-clause-fits : goal.then-requires-clause-fits
then-requires-clause-fits g c =
    subst (λ (t : Totals). Fit (plus c.args.earlier.totals t)) (ap totals_in (sym c.in-Ok.ensures.ok))
    (fits_both c.requires.share.0 c.args.self.now.share c.settle_all-settling.new.self.share c.args.earlier.totals (totals_in c.settle_all-settling.result) c.requires.share.1 c.settle_all-settling.ensures.settled.share c.fits.ensures)

pub returns-in-Ok : goal.returns-in-Ok
returns-in-Ok g c =
    let s = c.settle_all-settling in
    settled_after c.args.self.now s.new.self c.args.earlier c.in-Ok.later c.then.result s.result s.ensures.settled s.ensures.ended s.ensures.others c.in-Ok.ensures.ok c.then.ensures

pub returns-in-Err : goal.returns-in-Err
returns-in-Err g c =
    let s = c.settle_all-settling in
    (s.result, advances_settled c.args.self.now s.new.self s.result s.ensures.settled s.ensures.ended s.ensures.others, c.in-Err.ensures.err)
