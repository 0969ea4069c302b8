-- What was handed out stays so.
use Rattle.recorder.proofs.Lengthening.{had-none}
use Rattle.recorder.proofs.traces.nothing_is_lost.Goals as goal

pub returns : goal.returns
returns c old new grows process taken none = had-none c.counts_never_fall.ensures.committed old new grows process taken none
