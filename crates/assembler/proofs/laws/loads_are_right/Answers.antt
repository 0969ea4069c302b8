use Rattle.assembler.proofs.Loading.{li-loads, la-loads}
use Rattle.assembler.proofs.laws.loads_are_right.Goals as goal

pub returns : goal.returns
returns c = record { li = li-loads; la = la-loads }
