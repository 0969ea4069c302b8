use Rattle.bursts.specs.LoanIds.{id_of_result}
use Rattle.pool.proofs.Advance.{ends_settled}
use Rattle.pool.proofs.seats.Seat.hand_in_and_settle.Goals as goal

pub returns : goal.returns
returns g c = ends_settled c.args.self.now c.hand_in_at_last.new.self c.settle_more.new.self (id_of_result c.args.done) c.in_ok-sums.sums _ c.in_ok-sums.ensures c.settle_more.ensures
