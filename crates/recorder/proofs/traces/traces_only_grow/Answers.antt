-- What was committed stays so.
use Rattle.recorder.proofs.Lengthening.{lengthens}
use Rattle.recorder.proofs.traces.traces_only_grow.Goals as goal

pub returns : goal.returns
returns c old new process grows = lengthens c.counts_never_fall.ensures.committed old new process grows
