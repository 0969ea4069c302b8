use Rattle.bursts.specs.LoanIds.{id_of_result}
use Rattle.pool.proofs.Balance.{takes}
use Rattle.pool.proofs.results.ResultQueue.take.Goals as goal

pub pop_as-taken-requires-clause-rule : goal.pop_as-taken-requires-clause-rule
pop_as-taken-requires-clause-rule g c = (takes id_of_result _ _, (λ items views h at. tt))
