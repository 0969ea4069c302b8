use Rattle.std.proofs.lemmas.Grind.{common_steps}
use Rattle.std.proofs.Common.{arith}
use Rattle.debugger.proofs.place.Place.take_reply.Goals as goal

-- Without an answer this would be proved too; with one, an edit that breaks it is refused sooner.
pub returns-clause-taken : goal.returns-clause-taken
returns-clause-taken c = grind (arith, common_steps)
