use Rattle.bursts.specs.LoanIds.{id_of_loan}
use Rattle.pool.proofs.Balance.{takes_one}
use Rattle.pool.proofs.deques.from_other.Goals as goal

pub steal_as-requires-clause-takes : goal.steal_as-requires-clause-takes
steal_as-requires-clause-takes g c = takes_one id_of_loan _ _
