use Rattle.std.proofs.Common.{[], ◌∷◌}
use Rattle.bursts.specs.LoanIds.{id_of_loan}
use Rattle.pool.proofs.Balance.{pushes}
use Rattle.pool.proofs.deques.keep.Goals as goal

pub push_as-requires-clause-pushes : goal.push_as-requires-clause-pushes
push_as-requires-clause-pushes g c = pushes id_of_loan _ _ (c.args.loan ∷ [])
