use Rattle.bursts.specs.LoanIds.{id_of_loan}
use Rattle.pool.proofs.Balance.{takes_one}
use Rattle.pool.proofs.deques.from_own.Goals as goal

pub pop_as-requires-clause-fifo : goal.pop_as-requires-clause-fifo
pop_as-requires-clause-fifo g c fifo = takes_one id_of_loan _ _
