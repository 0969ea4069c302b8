use Rattle.std.proofs.Common.{◌∙◌, sym, ap, subst, refl, [], inl}
use Rattle.std.proofs.lemmas.Result.{err_from_is_err_and}
use Rattle.pool.specs.Seats.{Seated}
use Rattle.pool.specs.Settled.{settling_of}
use Rattle.pool.specs.Turns.{AllAccepted}
use Rattle.pool.specs.declared.settling.Settling.{Settling}
use Rattle.pool.proofs.Advance.{advances_not, advances_full, accepted_then, rejects_then}
use Rattle.pool.proofs.seats.Seat.hand_in_at_last.Goals as goal

pub loop-init : goal.loop-init
loop-init g c = (subst (λ (s : Settling). AllAccepted c.args.self.now c.args.self.now [] s) (sym c.none-sums.ensures) (advances_not c.args.self.now), refl)

pub settle_more-requires-clause-share : goal.settle_more-requires-clause-share
settle_more-requires-clause-share g c = (c.args.self.now.share, ap (λ (u : Seated). u.share) c.in-Err.ensures.1 ∙ c.loop.invariant.0.0.share)

pub returns-in_err-sums-in-Err : goal.returns-in_err-sums-in-Err
returns-in_err-sums-in-Err g c =
    let full = advances_full c.args.self.now c.loop.self c.hand_in_ticketed.new.self (settling_of c.loop.sums) c.loop.invariant.0 c.in-Err.ensures.1 in
    let p = err_from_is_err_and c.from_residual.result c.from_residual.ensures.1 in
    rw (p.1, p.2) (inl (rejects_then c.args.self.now c.hand_in_ticketed.new.self c.settle_more.new.self [] (settling_of c.loop.sums) _ full c.in_err-sums-in-Err.ensures))

pub loop-preserved : goal.loop-preserved
loop-preserved g c =
    let full = advances_full c.args.self.now c.loop.self c.hand_in_ticketed.new.self (settling_of c.loop.sums) c.loop.invariant.0 c.in-Err.ensures.1 in
    (accepted_then c.args.self.now c.hand_in_ticketed.new.self c.settle_more.new.self (settling_of c.loop.sums) _ full c.in_ok-sums-in-Err.ensures, c.in-Err.ensures.0 ∙ c.loop.invariant.1)
