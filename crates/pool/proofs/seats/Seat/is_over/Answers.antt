use Rattle.pool.proofs.Advance.{asks}
use Rattle.pool.proofs.seats.Seat.is_over.Goals as goal

pub returns-clause-asks : goal.returns-clause-asks
returns-clause-asks g c =
    let s = c.settle_all-settling in
    asks _ c.args.self.now s.new.results s.new.share c.and-self-inside.result.items s.result c.in_ok-accepted.field-0 c.over-over.result c.self.view_is s.ensures.ended s.ensures.settled
    c.in_ok-accepted.ensures.ok c.and-self-inside.ensures
