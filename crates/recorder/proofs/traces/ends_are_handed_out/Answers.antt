-- All that a process was told is handed out.
use Rattle.recorder.proofs.Ending.{ended-handed}
use Rattle.recorder.proofs.traces.ends_are_handed_out.Goals as goal

pub returns : goal.returns
returns c k process all there = ended-handed c.all_is_shown.ensures.traces k process all there
