use Rattle.machine.proofs.Loaded.{all-loaded}
use Rattle.machine.proofs.laws.segments_are_loaded.Goals as goal

pub returns : goal.returns
returns c = all-loaded
