-- Each record is spelled in one way only.
use Rattle.disk_model.proofs.Once.{one_list}
use Rattle.disk_model.proofs.laws.held_once.Goals as goal

pub returns : goal.returns
returns c = one_list
