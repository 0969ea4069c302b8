use Rattle.std.proofs.Common.{rules}
use Rattle.group_commit.proofs.committer.Committer.cut.Goals as goal

-- Without answers these would be proved too; with them, an edit that breaks one is refused sooner.
pub returns-clause-changes : goal.returns-clause-changes
returns-clause-changes c = search rules

pub returns-clause-writes : goal.returns-clause-writes
returns-clause-writes c = search rules
