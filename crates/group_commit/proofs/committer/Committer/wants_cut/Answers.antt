use Rattle.std.proofs.Common.{rules}
use Rattle.group_commit.proofs.committer.Committer.wants_cut.Goals as goal

-- Without an answer this would be proved too; with one, an edit that breaks it is refused sooner.
pub returns-then-held : goal.returns-then-held
returns-then-held c = search rules
