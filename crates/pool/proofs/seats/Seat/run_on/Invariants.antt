-- It went on so many times so far, with the gate held before each run, and only the share grew.
use Rattle.std.proofs.Common.{◌≡◌}
use Rattle.bursts.specs.LoanIds.{id_of_loan}
use Rattle.pool.specs.GoingOn.{with_share}
use Rattle.pool.proofs.GoingOn.{SoFar}
use Rattle.pool.proofs.seats.Seat.run_on.Given as goal

abbrev pub invariant-loop : goal.invariant-loop
invariant-loop g l =
    SoFar g.G.Gate.holds l.counter l.initial.self.share (id_of_loan l.initial.loan) l.initial.gate l.self.share (id_of_loan l.loan) l.gate × (l.self ≡ with_share l.initial.self l.self.share)
