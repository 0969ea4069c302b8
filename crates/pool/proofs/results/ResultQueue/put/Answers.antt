use Rattle.bursts.specs.LoanIds.{id_of_result}
use Rattle.pool.proofs.Balance.{puts}
use Rattle.pool.proofs.results.ResultQueue.put.Goals as goal

pub push_as-put-requires-clause-rule : goal.push_as-put-requires-clause-rule
push_as-put-requires-clause-rule g c = (puts id_of_result _ _ _ _, (λ items views h at. tt))
