use Rattle.std.proofs.Common.{rules, arith}
use Rattle.std.proofs.lemmas.Grind.{common_steps}
use Rattle.group_commit.proofs.committer.Committer.completed.Goals as goal

-- Without answers these would be proved too; with them, an edit that breaks one is refused sooner.
pub returns : goal.returns
returns c = grind (arith, common_steps)

pub send-requires-clause-idle : goal.send-requires-clause-idle
send-requires-clause-idle c = search rules
