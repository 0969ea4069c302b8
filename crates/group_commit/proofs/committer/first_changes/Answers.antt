-- The first changes, at most 64.
use Rattle.group_commit.proofs.Formed.{first_64}
use Rattle.group_commit.proofs.committer.first_changes.Goals as goal

pub returns : goal.returns
returns c = first_64 c.min.result c.args.changes.now c.min.ensures
