use Rattle.std.proofs.Common.{rules}
use Rattle.group_commit.proofs.committer.Committer.may_cut.Goals as goal

-- Without answers these would be proved too; with them, an edit that breaks one is refused sooner.
pub returns : goal.returns
returns c = search rules

pub returns-then-not-quiet : goal.returns-then-not-quiet
returns-then-not-quiet c = search rules
