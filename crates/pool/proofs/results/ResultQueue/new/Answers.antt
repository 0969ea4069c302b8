use Rattle.bursts.specs.LoanIds.{id_of_result}
use Rattle.pool.proofs.Balance.{admits}
use Rattle.pool.proofs.results.ResultQueue.new.Goals as goal

pub pass-requires : goal.pass-requires
pass-requires g c = admits id_of_result
