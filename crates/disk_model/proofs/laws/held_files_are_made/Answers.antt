-- The changes of the records made them.
use Rattle.disk_model.specs.Held.{joined}
use Rattle.disk_model.proofs.laws.held_files_are_made.Goals as goal

pub returns : goal.returns
returns c disk gate files held = (joined held.reads.groups, held.reads.possible, held.reads.makes)
