-- Files that changes make are rebuilt.
use Rattle.disk_model.proofs.Rebuilding.{made_rebuilt}
use Rattle.disk_model.proofs.laws.checkpoints_fit.Goals as goal

pub returns : goal.returns
returns c = made_rebuilt
