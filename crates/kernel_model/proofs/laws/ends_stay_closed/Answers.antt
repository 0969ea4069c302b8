-- No event adds an end of a pipe of which there is none.
use Rattle.kernel_model.proofs.EndRuns.{readers_gone, writers_gone}
use Rattle.kernel_model.proofs.laws.ends_stay_closed.Goals as goal

pub returns : goal.returns
returns _ = record { readers = readers_gone; writers = writers_gone }
