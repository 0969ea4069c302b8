-- The test and the relation are joined by induction over the past.
use Rattle.kernel_model.proofs.Paths.{durable_from, durable_to}
use Rattle.kernel_model.proofs.laws.durable_is.Goals as goal

pub returns : goal.returns
returns _ c past e = (durable_from c 0 past e, durable_to c 0 past e)
