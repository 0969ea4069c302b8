use Rattle.std.proofs.lemmas.Grind.{common_steps}
use Rattle.std.proofs.Common.{arith}
use Rattle.debugger.proofs.place.Place.call_halt.Goals as goal

-- Without an answer this would be proved too; with one, an edit that breaks it is refused sooner.
pub returns-then-takes : goal.returns-then-takes
returns-then-takes c = grind (arith, common_steps)
