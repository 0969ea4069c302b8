-- One more change.
use Rattle.disk_model.proofs.Reading.{made_more}
use Rattle.disk_model.proofs.laws.made_files_change.Goals as goal

pub returns : goal.returns
returns c = made_more
