use Rattle.std.proofs.Common.{rules, arith}
use Rattle.std.proofs.lemmas.Grind.{common_steps}
use Rattle.processes.proofs.descriptors.Descriptors.free_after.Goals as goal

-- Without answers these would be proved too; with them, an edit that breaks one is refused sooner.
pub returns-in_err-further-clause-least : goal.returns-in_err-further-clause-least
returns-in_err-further-clause-least c = grind (arith, common_steps)

pub returns-clause-least : goal.returns-clause-least
returns-clause-least c = grind (arith, common_steps)

pub returns-clause-below : goal.returns-clause-below
returns-clause-below c = search rules
