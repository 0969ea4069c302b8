use Rattle.crash_points.proofs.Alike.{held_alike}
use Rattle.crash_points.proofs.laws.files_stand_before_the_gate.Goals as goal

pub returns : goal.returns
returns c = held_alike
