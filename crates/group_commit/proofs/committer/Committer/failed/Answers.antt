use Rattle.std.proofs.Common.{rules}
use Rattle.group_commit.proofs.committer.Committer.failed.Goals as goal

-- Without an answer this would be proved too; with one, an edit that breaks it is refused sooner.
pub returns-clause-ok : goal.returns-clause-ok
returns-clause-ok c = search rules
